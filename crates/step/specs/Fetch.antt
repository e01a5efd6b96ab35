-- An opcode fetched through the buffer, and a FETCH: the laws by which what was found makes the step.
use Rattle.std.specs.Prelude.{◌≡◌, ℕ, ◌<◌, Bool, true, false, List, [], slice_index_or, refl}
use Rattle.std.proofs.Common.{sym, ap, ap₂, ◌∙◌, arith, add-zero}
use Rattle.std.specs.Prelude.{Option, Some, None}
use Rattle.model.specs.Base.{further}
use Rattle.model.specs.Waitcnt.{Waits, rom_waits_of}
use Rattle.model.specs.Wait.{window}
use Rattle.model.specs.Prefetch.{restart, occupied, hit, taken, fetched}
use Rattle.model.specs.Price.{no_access}
use Rattle.model.specs.Timing.{price_insn}
use Rattle.model.specs.Step.{with_prefetch, cleared, timing_input, rom_fetched, rom_hits, fetched_in}
use Rattle.model.specs.Step.{hits_in, code_fetched, code_hits, code_clock, half_at}
use Rattle.model.proofs.Laws.Choice.{choose, either}
use Rattle.model.proofs.Laws.Rules.{missed_again}
use Rattle.model.proofs.Laws.Switch.{restart_fetched}
use Rattle.prefetch.specs.Found.{found}
use Rattle.model.specs.declared.PrefetchBuffer.{PrefetchBuffer}
use Rattle.model.specs.declared.Clock.{Clock}
use Rattle.model.specs.declared.Contents.{Contents}
use Rattle.model.specs.declared.InsnCycles.{InsnCycles}
use Rattle.model.specs.declared.IsaState.{IsaState}
use Rattle.model.specs.declared.Version.{Version}
use Rattle.model.specs.declared.IsaState.TheVariants.{Arm, Thumb}
use Rattle.model.specs.declared.Step.TheVariants.{Fetch, Instruction}
use Rattle.model.specs.Memory.{no_lengths}
use Rattle.step.specs.Begun.{media_from, state_from, begun}
use Rattle.step.specs.declared.Begun.{Begun}
use Rattle.step.specs.declared.CodeFetch.{CodeFetch}

-- ---- a fetch keeps the head among the eight places

pub fetched_head : (p : PrefetchBuffer) (a : ℕ) → p.head < 8 → (fetched p a).head < 8
unfolding fetched taken
fetched_head p a h =
    either (λ (q : PrefetchBuffer). q.head < 8) (hit p a) (omega arith)
    (either (λ (q : PrefetchBuffer). q.head < 8) (occupied p) (omega arith) h)

-- ---- an opcode fetched through the buffer: on any miss it is only restarted, since a restart drains

abbrev pub fetch_of : Waits → PrefetchBuffer → ℕ → IsaState → CodeFetch
fetch_of t p a isa = record { prefetch = rom_fetched t p a isa; hits = rom_hits p a isa }

module _ (t : Waits) (p : PrefetchBuffer) (a : ℕ) where
  pub thumb_hits : hit p a ≡ true → record { prefetch = fetched p a; hits = 1 } ≡ fetch_of t p a Thumb
  thumb_hits e = rw e refl

  pub thumb_misses : hit p a ≡ false → record { prefetch = restart t p (further 2 a); hits = 0 } ≡ fetch_of t p a Thumb
  thumb_misses e = rw (e, restart_fetched t p a (further 2 a)) refl

  pub arm_hits : hit p a ≡ true → hit (fetched p a) (further 2 a) ≡ true
      → record { prefetch = fetched (fetched p a) (further 2 a); hits = 2 } ≡ fetch_of t p a Arm
  arm_hits e f = rw (e, f) refl

  pub arm_half_misses : hit p a ≡ true → hit (fetched p a) (further 2 a) ≡ false
      → record { prefetch = restart t (fetched p a) (further 4 a); hits = 1 } ≡ fetch_of t p a Arm
  arm_half_misses e f = rw (e, f, restart_fetched t (fetched p a) (further 2 a) (further 4 a)) refl

  pub arm_misses : hit p a ≡ false → record { prefetch = restart t p (further 4 a); hits = 0 } ≡ fetch_of t p a Arm
  arm_misses e =
      rw (
        e,
        missed_again p a (further 2 a) e,
        restart_fetched t (fetched p a) (further 2 a) (further 4 a),
        restart_fetched t p a (further 4 a),
      ) refl

-- code in a window goes through the buffer
abbrev pub code_fetch : Waits → PrefetchBuffer → ℕ → IsaState → CodeFetch
code_fetch t p a isa = record { prefetch = fetched_in t p a isa (window a); hits = hits_in p a isa (window a) }

-- ---- FETCH: what was found says whether the buffer hit

abbrev pub fetching : Clock → Contents → ℕ → ℕ → ℕ → Begun
fetching c d a value hits =
    record {
      clock = cleared (with_prefetch c (fetched c.prefetch a));
      idle = 0;
      cycles = 0;
      hits = hits;
      value = value;
      contents = d;
    }

abbrev Fetches : Clock → List ℕ → Contents → ℕ → ℕ → ℕ → Type 0
Fetches c h d a value hits = fetching c d a value hits ≡ begun (media_from [] [] no_lengths) (state_from c h d []) (Fetch a)

pub fetch_hits : (c : Clock) (h : List ℕ) (d : Contents) (a v : ℕ) → found h c.prefetch a ≡ Some v → Fetches c h d a v 1
unfolding found half_at
fetch_hits c h d a v =
    choose (λ (f : Option ℕ). f ≡ Some v → Fetches c h d a v 1) (hit c.prefetch a)
    (λ e f. let same : slice_index_or h c.prefetch.head 0 ≡ v = cc in simp (e, same))
    (λ e f. let z : ◌≡◌ {A = ℕ} 0 1 = cc in absurd (omega arith))

pub fetch_misses : (c : Clock) (h : List ℕ) (d : Contents) (a : ℕ) → found h c.prefetch a ≡ None → Fetches c h d a 0 0
unfolding found half_at
fetch_misses c h d a =
    choose (λ (f : Option ℕ). f ≡ None → Fetches c h d a 0 0) (hit c.prefetch a)
    (λ e f. let z : ◌≡◌ {A = ℕ} 0 1 = cc in absurd (omega arith))
    (λ e f. simp e)

-- ---- INSTRUCTION: its price and its fetches make the step

abbrev pub instructing : Clock → Contents → InsnCycles → CodeFetch → Begun
instructing c d price fetch =
    record {
      clock =
          record {
            waitcnt = c.waitcnt;
            force_next_fetch_n = price.latch_disable_bug;
            prefetch = fetch.prefetch;
            previous = no_access;
          };
      idle = price.cart_idle;
      cycles = price.total;
      hits = fetch.hits;
      value = price.cart_idle;
      contents = d;
    }

pub instruct : (c : Clock) (d : Contents) (t : Waits) (v : Version) (isa : IsaState) (a op : ℕ) (jump : Bool)
    {price : InsnCycles} {fetch : CodeFetch}
    → t ≡ rom_waits_of c.waitcnt
    → price ≡ price_insn (timing_input c v isa a op jump) t c.prefetch
    → fetch ≡ code_fetch t c.prefetch a isa
    → instructing c d price fetch ≡ begun (media_from [] [] no_lengths) (state_from c [] d []) (Instruction v isa a op jump)
unfolding code_clock code_fetched code_hits
instruct c d t v isa a op jump e p f =
    ap₂ (instructing c d)
    (p ∙ ap (λ (u : Waits). price_insn (timing_input c v isa a op jump) u c.prefetch) e)
    (f ∙ ap (λ (u : Waits). code_fetch u c.prefetch a isa) e
    -- it stores nothing
    ∙ ap (λ (n : ℕ). record { prefetch = code_fetched c isa a; hits = n }) (sym (add-zero (code_hits c isa a))))
