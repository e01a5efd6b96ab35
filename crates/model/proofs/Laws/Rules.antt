-- Single rules of docs/RULES.md that its reader may look for, each as a law about the definitions: WAITCNT's bits, when a fetch
-- hits, when it drains, what a restart leaves, when idle cycles change nothing, and who moves the force flag.
use Rattle.std.specs.Prelude.{◌≡◌, refl, Bool, true, false, not, ◌&&◌, ◌≢◌, ℕ, zero, suc, ◌≤◌, eqb, ltb}
use Rattle.std.proofs.Math.Path.{ap}
use Rattle.std.proofs.Common.{ap₂, ◌∙◌, arith, eqb-true, eq-eqb, ne_eqb, le-ltb}
use Rattle.std.proofs.lemmas.Bool.{not-true}
use Rattle.std.specs.Prelude.{if◌then◌else◌}
use Rattle.std.specs.Prelude.{Option, Some, None}
use Rattle.model.specs.Base.{further, lowered}
use Rattle.model.specs.Waitcnt.{Waits, written}
use Rattle.model.specs.Wait.{window, in_window}
use Rattle.model.specs.Prefetch.{capacity, drained, restart_in, restart, start_beat, arrived}
use Rattle.model.specs.Prefetch.{ended, ready, tick1, ticks, occupied, hit, fetched}
use Rattle.model.specs.Timing.{internal, disable_bug, price_insn}
use Rattle.model.specs.Step.{set_waitcnt, code_clock, clock_after}
use Rattle.model.proofs.Laws.Choice.{choose, either, if_true, if_false, parts, eqb_ne}
use Rattle.model.proofs.Laws.Previous.{kind_at_nonseq}
use Rattle.model.specs.declared.PrefetchBuffer.{PrefetchBuffer}
use Rattle.model.specs.declared.Clock.{Clock}
use Rattle.model.specs.declared.RomWindow.{RomWindow}
use Rattle.model.specs.declared.IsaState.{IsaState}
use Rattle.model.specs.declared.Version.{Version}
use Rattle.model.specs.declared.Step.{Step}
use Rattle.model.specs.declared.Step.TheVariants.{Read, Write, Waitcnt, Idle, Fetch, Restart, Instruction, Pc, Latch}
use Rattle.model.specs.declared.Step.TheVariants.{BlockRead, BlockWrite}
use Rattle.model.specs.Laws.Rules.{WrittenBits, Hits, TwoNonseqBeats, NoInstruction}

-- ---- WAITCNT

pub written_bits : (old v : ℕ) → WrittenBits old v (written old v)
unfolding written
written_bits old v =
    record {
      low = omega arith;
      bit13 = omega arith;
      bit14 = omega arith;
      bit15 = omega arith;
      above = omega arith;
    }

-- a second write of the same value changes nothing
pub written_twice : (old v : ℕ) → written (written old v) v ≡ written old v
unfolding written
written_twice old v = omega arith

-- ---- a fetch

pub hit_exactly : (p : PrefetchBuffer) (a : ℕ) → (hit p a ≡ true → Hits p a) × (Hits p a → hit p a ≡ true)
unfolding hit occupied
hit_exactly p a = (
  λ e.
      let some : not (eqb p.count 0) ≡ true = search parts in
      let there : eqb (lowered 2 a) p.head_addr ≡ true = search parts in
      record {
        on = search parts;
        some = eqb_ne p.count 0 (not-true (eqb p.count 0) some);
        there = eqb-true (lowered 2 a) p.head_addr there;
      },
  λ h.
      ap₂ (λ (s t : Bool). s && t && eqb (lowered 2 a) p.head_addr) h.on (ap not (ne_eqb p.count 0 h.some))
      ∙ eq-eqb (lowered 2 a) p.head_addr h.there,
)

-- a fetch elsewhere drains
pub miss_drains : (p : PrefetchBuffer) (a : ℕ) → hit p a ≡ false → p.enabled ≡ true → p.count ≢ 0 → fetched p a ≡ drained p
unfolding fetched occupied
miss_drains p a m on some =
    if_false _ _ _ m ∙ if_true _ _ _ (ap₂ (λ (s t : Bool). s && not t) on (ne_eqb p.count 0 some))

hit_none : (p : PrefetchBuffer) (a : ℕ) → occupied p ≡ false → hit p a ≡ false
unfolding hit
hit_none p a e = ap (λ (t : Bool). t && eqb (lowered 2 a) p.head_addr) e

none_stays : (p : PrefetchBuffer) (a : ℕ) → occupied p ≡ false → fetched p a ≡ p
unfolding fetched
none_stays p a e = if_false _ _ _ (hit_none p a e) ∙ if_false _ _ _ e

and-false : (t : Bool) → t && false ≡ false
and-false true = refl
and-false false = refl

empty_none : (p : PrefetchBuffer) → p.count ≡ 0 → occupied p ≡ false
unfolding occupied
empty_none p e = ap (λ (t : Bool). p.enabled && not t) (eq-eqb p.count 0 e) ∙ and-false p.enabled

off_none : (p : PrefetchBuffer) → p.enabled ≡ false → occupied p ≡ false
unfolding occupied
off_none p e = ap (λ (t : Bool). t && not (eqb p.count 0)) e

-- but not when the buffer is empty or off: then nothing changes, and a beat in flight goes on
pub empty_stays : (p : PrefetchBuffer) (a : ℕ) → p.count ≡ 0 → fetched p a ≡ p
empty_stays p a e = none_stays p a (empty_none p e)

pub off_fetch_stays : (p : PrefetchBuffer) (a : ℕ) → p.enabled ≡ false → fetched p a ≡ p
off_fetch_stays p a e = none_stays p a (off_none p e)

-- after a miss nothing hits: an ARM opcode's missed first half has its second missed
pub missed_again : (p : PrefetchBuffer) (a b : ℕ) → hit p a ≡ false → hit (fetched p a) b ≡ false
unfolding fetched
missed_again p a b m =
    ap (λ (q : PrefetchBuffer). hit q b) (if_false _ _ _ m)
    ∙ choose (λ (q : PrefetchBuffer). hit q b ≡ false) (occupied p)
    (λ e. hit_none (drained p) b (empty_none (drained p) refl)) (λ e. hit_none p b e)

-- ---- a restart

-- an address without a window leaves the buffer drained
pub restart_outside : (t : Waits) (p : PrefetchBuffer) (a : ℕ) → window a ≡ None → restart t p a ≡ drained p
unfolding restart
restart_outside t p a e =
    ap (λ (v : Option RomWindow). if p.enabled then restart_in t p a v else drained p) e
    ∙ either (λ (q : PrefetchBuffer). q ≡ drained p) p.enabled refl refl

pub two_nonseq_beats : (t : Waits) (p : PrefetchBuffer) (a : ℕ) (first second : RomWindow)
    → p.enabled ≡ true → window a ≡ Some first → window (further 2 (lowered 2 a)) ≡ Some second
    → TwoNonseqBeats t p a first second
unfolding ended start_beat arrived
two_nonseq_beats t p a first second on e f =
    record {
      one = rw started;
      two = rw (started, f, kind_at_nonseq (further 2 (lowered 2 a)));
      then_sequential = rw (started, f);
    }
  where
    started : restart t p a ≡ restart_in t p a (Some first)
    started = unfold restart in if_true _ _ _ on ∙ ap (restart_in t p a) e

-- ---- idle cycles that change nothing

pub ticks_rest : (t : Waits) (n : ℕ) (p : PrefetchBuffer) → tick1 t p ≡ p → ticks t n p ≡ p
unfolding ticks
ticks_rest t zero p e = refl
ticks_rest t (suc n) p e = ap (ticks t n) e ∙ ticks_rest t n p e

pub tick1_off : (t : Waits) (p : PrefetchBuffer) → p.enabled ≡ false → tick1 t p ≡ p
unfolding tick1
tick1_off t p e = if_false _ _ _ (ap (λ (s : Bool). s && (ready t p).filling) e)

-- no beat in flight, and none to start
pub tick1_rest : (t : Waits) (p : PrefetchBuffer) → p.filling ≡ false
    → not p.filling && ltb p.count capacity && in_window p.next_addr ≡ false → tick1 t p ≡ p
unfolding tick1 ready
tick1_rest t p f e =
    if_false _ _ _
    (ap (λ (q : PrefetchBuffer). p.enabled && q.filling) (if_false _ (start_beat t p) p e)
    ∙ ap (λ (s : Bool). p.enabled && s) f
    ∙ and-false p.enabled)

pub off_stays : (t : Waits) (n : ℕ) (p : PrefetchBuffer) → p.enabled ≡ false → ticks t n p ≡ p
off_stays t n p e = ticks_rest t n p (tick1_off t p e)

pub full_stays : (t : Waits) (n : ℕ) (p : PrefetchBuffer) → p.filling ≡ false → capacity ≤ p.count → ticks t n p ≡ p
full_stays t n p f h =
    ticks_rest t n p
    (tick1_rest t p f (ap₂ (λ (u v : Bool). not u && v && in_window p.next_addr) f (le-ltb p.count capacity h)))

-- ---- the force flag

-- every INSTRUCTION sets it
pub force_set : (c : Clock) (v : Version) (isa : IsaState) (a op : ℕ) (jump : Bool)
    → (clock_after c (Instruction v isa a op jump)).force_next_fetch_n
    ≡ (not c.prefetch.enabled && in_window a && internal v isa op && not jump)
unfolding code_clock price_insn disable_bug
force_set c v isa a op jump = refl

pub force_kept : (c : Clock) (x : Step) → NoInstruction x → (clock_after c x).force_next_fetch_n ≡ c.force_next_fetch_n
unfolding set_waitcnt
force_kept c (Read z a) o = refl
force_kept c (Write z a v) o = refl
force_kept c (Waitcnt v) o = refl
force_kept c (Idle n) o = refl
force_kept c (Fetch a) o = refl
force_kept c (Restart a) o = refl
force_kept c (Instruction v isa a op jump) o = absurd (o v isa a op jump refl)
force_kept c (Pc a) o = refl
force_kept c (Latch v) o = refl
force_kept c (BlockRead a n) o = refl
force_kept c (BlockWrite a n) o = refl
