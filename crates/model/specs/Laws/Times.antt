-- Words of the laws in proofs/Laws/Times.antt, as definitions. Those laws:
-- The core of what is the same for every memory and of the preview, one law for both: a run's answers, without what only the
-- memories tell, are those of its clock and its steps alone.
use Rattle.std.specs.Prelude.{◌≡◌, List, [], ◌∷◌, ℕ}
use Rattle.model.specs.Step.{clock_after}
use Rattle.model.specs.Preview.{foretold}
use Rattle.model.specs.Grounds.{grounds as groundsOf}
use Rattle.model.specs.declared.Clock.{Clock}
use Rattle.model.specs.declared.Answer.{Answer}
use Rattle.model.specs.declared.Ground.{Ground}
use Rattle.model.specs.declared.Step.{Step}
use Rattle.model.specs.declared.Step.TheVariants.{Read, Write, Waitcnt, Idle, Fetch, Restart, Instruction, Pc, Latch}
use Rattle.model.specs.declared.Step.TheVariants.{BlockRead, BlockWrite}

abbrev pub with_hits : ℕ → Answer → Answer
with_hits n x = record { value = x.value; cycles = x.cycles; hits = n; count = x.count; force = x.force }

abbrev pub with_value : ℕ → Answer → Answer
with_value v x = record { value = v; cycles = x.cycles; hits = x.hits; count = x.count; force = x.force }

-- the value of READ, FETCH and BLOCK READ, and the hits of WRITE and BLOCK WRITE
abbrev pub blanked : Step → Answer → Answer
blanked (Read z a) x = with_value 0 x
blanked (Write z a v) x = with_hits 0 x
blanked (Waitcnt v) x = x
blanked (Idle n) x = x
blanked (Fetch a) x = with_value 0 x
blanked (Restart a) x = x
blanked (Instruction v isa a op jump) x = x
blanked (Pc a) x = x
blanked (Latch v) x = x
blanked (BlockRead a n) x = with_value 0 x
blanked (BlockWrite a n) x = with_hits 0 x

-- something done to each answer, by its step
abbrev pub each_step : (Step → Answer → Answer) → List Step → List Answer → List Answer
each_step f [] ys = []
each_step f (x ∷ xs) [] = []
each_step f (x ∷ xs) (y ∷ ys) = f x y ∷ each_step f xs ys

unfoldable pub clock_past : Clock → List Step → Clock
clock_past c [] = c
clock_past c (x ∷ xs) = clock_past (clock_after c x) xs

-- what a step shows of its time, the clock that it leaves, and the grounds of its price
pub record Shown : Type 0 where
  pub answer : Answer
  pub clock : Clock
  pub grounds : List Ground

abbrev pub shown : Clock → Step → Shown
shown c x = record { answer = foretold c x; clock = clock_after c x; grounds = groundsOf c x }

abbrev pub SameTime : Step → Step → Type 0
SameTime x y = (c : Clock) → shown c x ≡ shown c y

-- step by step
abbrev pub SameTimes : List Step → List Step → Type 0
SameTimes [] [] = Unit {0}
SameTimes [] (y ∷ ys) = ⊥
SameTimes (x ∷ xs) [] = ⊥
SameTimes (x ∷ xs) (y ∷ ys) = SameTime x y × SameTimes xs ys
