-- Idle cycles as the code takes them, as laws on plain variables: none, some of a beat in flight, and the turns of a loop each of
-- which takes a beat, or what is left of the cycles. `p`, `q` and `r` are buffers, `h` and `k` their halfwords, `n` cycles.
use Rattle.std.proofs.Common.{◌≡◌, ℕ, zero, suc, ◌+◌, ◌-◌, ◌<◌, ◌≤◌, true, false, not, List, set, sym, refl, ap, ◌∙◌, ap₂, arith}
use borrow.Author.Tests.{not-true, not-false}
use Rattle.model.specs.Waitcnt.{Waits}
use Rattle.model.specs.Load.{rom_halfword}
use Rattle.model.specs.Prefetch.{ended, with_wait, ready, ticks, slot, filled}
use Rattle.model.specs.Laws.Bounds.{SmallWaits}
use Rattle.model.proofs.Laws.Tick.{ticks_add, filled_add}
use Rattle.model.proofs.Laws.Switch.{ready_switch, ticks_switch}
use Rattle.model.specs.Laws.Sound.{Sound}
use Rattle.model.proofs.Laws.Sound.{ready_sound, ticks_sound}
use Rattle.model.proofs.Laws.Rules.{off_stays}
use Rattle.model.proofs.Laws.Beats as beats
use Rattle.model.specs.declared.PrefetchBuffer.{PrefetchBuffer}
use Rattle.prefetch.specs.InFlight.{InFlight}
use Rattle.prefetch.specs.Ticked.{Ticked}

-- ---- as the tactics use them

-- cycles within the beat in flight, and all that it has left
pub ruleset beat_laws = (beats.ticks_within, beats.filled_within, beats.ticks_beat, beats.filled_beat)

-- no cycles
pub ticks_none : (t : Waits) (n : ℕ) (p : PrefetchBuffer) → n ≤ 0 → ticks t n p ≡ p
unfolding ticks
ticks_none t zero p e = refl
ticks_none t (suc n) p e = absurd (omega arith)

pub filled_none : (read : ℕ → ℕ) (t : Waits) (n : ℕ) (p : PrefetchBuffer) (h : List ℕ) → n ≤ 0 → filled read t n p h ≡ h
unfolding filled
filled_none read t zero p h e = refl
filled_none read t (suc n) p h e = absurd (omega arith)

-- some of the cycles, and the rest of them
pub ticks_split : (t : Waits) (a n : ℕ) (p : PrefetchBuffer) → a ≤ n → ticks t (n - a) (ticks t a p) ≡ ticks t n p
ticks_split t a n p h =
    let whole : a + (n - a) ≡ n = omega arith in rw (← ticks_add t a (n - a) p, whole)

pub filled_split : (read : ℕ → ℕ) (t : Waits) (a n : ℕ) (p : PrefetchBuffer) (h : List ℕ) → a ≤ n
    → filled read t (n - a) (ticks t a p) (filled read t a p h) ≡ filled read t n p h
filled_split read t a n p h k =
    let whole : a + (n - a) ≡ n = omega arith in rw (← filled_add read t a (n - a) p h, whole)

-- no cycles, the switch is off, or no beat is in flight and none waits to start; and the first of the cycles starts one
pub ruleset idle_laws = (
  ticks_none,
  filled_none,
  off_stays,
  beats.filled_off,
  beats.ticks_still,
  beats.filled_still,
  beats.ticks_start,
  beats.filled_start,
  beats.ready_awake,
  ready_switch,
  ready_sound,
  ticks_split,
  filled_split,
  ticks_switch,
  ticks_sound,
  beats.ticks_awake,
)

-- ---- as laws of one buffer and its halfwords

module _ {t : Waits} {rom : List ℕ} where
  -- fewer cycles than the beat in flight has left
  pub within : {h : List ℕ} {p q : PrefetchBuffer} {n : ℕ} → p.enabled ≡ true → p.filling ≡ true → n < p.wait_left
      → q ≡ with_wait (p.wait_left - n) p → Ticked t rom n p h q h
  within {h} {p} {q} {n} on busy k e =
      record {
        buffer = e ∙ sym (beats.ticks_within t n p on busy k);
        halves = sym (beats.filled_within t (rom_halfword rom) n p h on busy k);
      }

  -- all that the beat has left: its halfword arrives
  pub ended_beat : {h : List ℕ} {p q : PrefetchBuffer} {n half : ℕ} → InFlight p n → p.wait_left ≤ n → q ≡ ended t p
      → half ≡ rom_halfword rom p.next_addr → Ticked t rom n p h q (set h (slot p) half)
  ended_beat {h} {p} {q} {n} b l e r =
      let all : p.wait_left ≡ n = omega (arith, b.most) in
      record {
        buffer = e ∙ sym (beats.ticks_beat t n p b.on b.fills b.some all);
        halves = rw r (sym (beats.filled_beat t (rom_halfword rom) n p h b.on b.fills b.some all));
      }

  -- no cycles
  pub none : {h : List ℕ} {p : PrefetchBuffer} {n : ℕ} → n ≡ 0 → Ticked t rom n p h p h
  unfolding ticks filled
  none e = rw e (record { buffer = refl; halves = refl })

  -- the switch is off
  pub off : {h : List ℕ} {p : PrefetchBuffer} {n : ℕ} → not p.enabled ≡ true → Ticked t rom n p h p h
  off {h} {p} {n} e =
      let out = not-true p.enabled e in
      record { buffer = sym (off_stays t n p out); halves = sym (beats.filled_off t (rom_halfword rom) n p h out) }

  -- no beat is in flight, and none waits to start
  pub at_rest : {h : List ℕ} {q : PrefetchBuffer} {n : ℕ} → ready t q ≡ q → q.filling ≡ false → Ticked t rom n q h q h
  at_rest {h} {q} {n} a f =
      record { buffer = sym (beats.ticks_still t n q a f); halves = sym (beats.filled_still t (rom_halfword rom) n q h a f) }

-- ---- the loop

module _ (t : Waits) (rom : List ℕ) where
  -- its invariant: what is left to do from here is all that there was to do; no beat waits to start; and the buffer is sound
  pub record Going (h₀ : List ℕ) (q₀ : PrefetchBuffer) (n₀ : ℕ) (h : List ℕ) (q : PrefetchBuffer) (n : ℕ) : Type 0 where
    pub buffer : ticks t n₀ q₀ ≡ ticks t n q
    pub halves : filled (rom_halfword rom) t n₀ q₀ h₀ ≡ filled (rom_halfword rom) t n q h
    pub on : q.enabled ≡ true
    pub awake : ready t q ≡ q
    pub sound : Sound q

module _ {t : Waits} {rom h₀ : List ℕ} {q₀ : PrefetchBuffer} {n₀ : ℕ} where
  pub begin : {p : PrefetchBuffer} → SmallWaits t → not p.enabled ≡ false
      → Sound p → q₀ ≡ ready t p → Going t rom h₀ q₀ n₀ h₀ q₀ n₀
  begin {p} small switch s e =
      let on = not-false p.enabled switch in
      record {
        buffer = refl;
        halves = refl;
        on = ap (λ (x : PrefetchBuffer). x.enabled) e ∙ ready_switch t p ∙ on;
        awake = rw e (beats.ready_awake t p);
        sound = rw e (ready_sound t small p s on);
      }

  -- a turn takes `step` of the cycles
  pub turn : {h k : List ℕ} {q r : PrefetchBuffer} {n step : ℕ} → SmallWaits t → Going t rom h₀ q₀ n₀ h q n → step ≤ n
      → Ticked t rom step q h r k → Going t rom h₀ q₀ n₀ k r (n - step)
  turn {h} {k} {q} {r} {n} {step} small g m e =
      let split : n ≡ step + (n - step) = omega arith in
      record {
        buffer =
            g.buffer
            ∙ ap (λ (x : ℕ). ticks t x q) split
            ∙ ticks_add t step (n - step) q
            ∙ ap (ticks t (n - step)) (sym e.buffer);
        halves =
            g.halves
            ∙ ap (λ (x : ℕ). filled (rom_halfword rom) t x q h) split
            ∙ filled_add (rom_halfword rom) t step (n - step) q h
            ∙ ap₂ (filled (rom_halfword rom) t (n - step)) (sym e.buffer) (sym e.halves);
        on = ap (λ (x : PrefetchBuffer). x.enabled) e.buffer ∙ ticks_switch t step q ∙ g.on;
        awake = rw e.buffer (beats.ticks_awake t step q g.awake);
        sound = rw e.buffer (ticks_sound t small step q g.sound);
      }

  -- it is left where the cycles that are left change nothing
  pub finish : {h : List ℕ} {p q : PrefetchBuffer} {n : ℕ} → 1 ≤ n₀ → not p.enabled ≡ false → q₀ ≡ ready t p
      → Going t rom h₀ q₀ n₀ h q n → Ticked t rom n q h q h → Ticked t rom n₀ p h₀ q h
  finish {h} {p} {q} {n} some switch s g r =
      let on = not-false p.enabled switch in
      record {
        buffer = r.buffer ∙ sym (beats.ticks_start t n₀ p on some ∙ ap (ticks t n₀) (sym s) ∙ g.buffer);
        halves =
            r.halves
            ∙ sym
            (beats.filled_start t (rom_halfword rom) n₀ p h₀ on some
            ∙ ap (λ (x : PrefetchBuffer). filled (rom_halfword rom) t n₀ x h₀) (sym s)
            ∙ g.halves);
      }
