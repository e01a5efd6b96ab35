-- Words of the laws in proofs/Laws/Fits.antt, as definitions. Those laws:
-- Nothing is cut off: every answer's value, cycles, hits and count fit their bytes, and the total is at most 4096 (2^32 - 1).
-- The board that an accepted run writes is sound.
use Rattle.std.specs.Prelude.{◌^◌, ◌≤◌, ◌<◌}
use Rattle.model.specs.Step.{State, timed}
use Rattle.model.specs.Laws.Bounds.{Short}
use Rattle.model.specs.Laws.Sound.{SoundClock}
use Rattle.model.specs.Laws.Values.{Held, SmallLatch}
use Rattle.model.specs.declared.Clock.{Clock}
use Rattle.model.specs.declared.Answer.{Answer}
use Rattle.model.specs.declared.Step.{Step}

pub record AnswerFits (x : Answer) : Type 0 where
  pub value : x.value < 2 ^ 32
  pub cycles : x.cycles ≤ 0xFFFF_FFFF
  pub hits : x.hits < 256
  pub count : x.count ≤ 8

-- a step whose numbers have 32 bits
pub record StepFits (x : Step) : Type 0 where
  pub latch : SmallLatch x
  pub short : Short x
  pub cycles : (c : Clock) → (timed c x).cycles ≤ 0xFFFF_FFFF

-- a state that a run can be in
pub record Fine (s : State) : Type 0 where
  pub clock : SoundClock s.board.clock
  pub held : Held s
