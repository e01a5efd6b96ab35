-- Words of the laws in proofs/Laws/Tick.antt, as definitions. Those laws:
-- Idle cycles add up: IDLE 0 is the identity, and IDLE a then IDLE b is IDLE a + b, for the clock, the halfwords and the
-- whole state.
use Rattle.std.specs.Prelude.{◌≡◌, List, ℕ}
use Rattle.model.specs.Prefetch.{ticks, filled}
use Rattle.model.specs.Step.{waits_of, Timed}
use Rattle.model.specs.declared.Clock.{Clock}

pub record SameWaits (c : Clock) (t : Timed) : Type 0 where
  pub buffer : ticks (waits_of c) t.idle t.clock.prefetch ≡ ticks (waits_of t.clock) t.idle t.clock.prefetch
  pub halves : (read : ℕ → ℕ) (h : List ℕ)
      → filled read (waits_of c) t.idle t.clock.prefetch h
      ≡ filled read (waits_of t.clock) t.idle t.clock.prefetch h
