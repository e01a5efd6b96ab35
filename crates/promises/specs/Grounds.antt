-- What is promised of a run with the grounds of its prices. The contract of `bts_run_grounds` says of a call that was lent `e`
-- and left `x` that `x ≡ explain e`; each statement here is of any such call.
use Rattle.std.specs.Prelude.{◌≡◌, ◌≢◌, ◌≤◌}
use Rattle.model.specs.Base.{Exactly}
use Rattle.model.specs.Sheet.{max_records}
use Rattle.model.specs.Outcome.{outcome}
use Rattle.model.specs.Alike.{AlikeSheets, AlikeBoards}
use Rattle.std.specs.Prelude.{Some}
use Rattle.model.specs.Grounds.{ground_byte, beat_ground, Explaining, Explained, explain, Explains, SameGrounds}
use Rattle.model.specs.declared.Ground.{Ground}
use Rattle.model.specs.Laws.Refusal.{Index, LowerOfTwo}
use Rattle.model.specs.Laws.Explained.{GroundsTable, GroundsAcceptable, GroundsRoom, Untold}

-- each number exactly when its row of the table holds and no earlier one does, and 0 exactly when none does
unfoldable pub ExplainedNumber : Type 0
ExplainedNumber = (e : Explaining) (x : Explained) → x ≡ explain e → GroundsTable e x

-- and no other number: the run's seven
unfoldable pub NoOtherExplained : Type 0
NoOtherExplained = (e : Explaining) (x : Explained) → x ≡ explain e → x.run.number ≤ 7

-- number 0 exactly when the run's conditions hold and there is room for the grounds
unfoldable pub ExplainAccepted : Type 0
ExplainAccepted = (e : Explaining) (x : Explained) → x ≡ explain e → Exactly (x.run.number ≡ 0) (GroundsAcceptable e)

-- the index: 0 for 1 to 6, the first faulty record for 7, the number of records for 0
unfoldable pub ExplainedIndex : Type 0
ExplainedIndex = (e : Explaining) (x : Explained) → x ≡ explain e → Index e.run.sheet x.run.number x.run.index

-- the record that 7 names is the lower of two, as a run's
unfoldable pub ExplainedFirstOfTwo : Type 0
ExplainedFirstOfTwo = (e : Explaining) (x : Explained) → x ≡ explain e → x.run.number ≡ 7 → LowerOfTwo e.run.sheet x.run.index

-- the index fits its 32 bits
unfoldable pub SmallExplainedIndex : Type 0
SmallExplainedIndex = (e : Explaining) (x : Explained) → x ≡ explain e → x.run.index ≤ max_records

-- a refusal gives total 0 and changes no byte, those of the grounds among them
unfoldable pub RefusedUntold : Type 0
RefusedUntold = (e : Explaining) (x : Explained) → x ≡ explain e → x.run.number ≢ 0 → Untold e x

-- with room for the grounds it is the run's outcome, refused or not; so all that is promised of a run holds here
unfoldable pub ExplainedRun : Type 0
ExplainedRun = (e : Explaining) (x : Explained) → x ≡ explain e → GroundsRoom e → x.run ≡ outcome e.run

-- an accepted run by itself: the grounds of each step, that they make its cycles, and that a ground is named exactly when its
-- condition decides the beat
unfoldable pub GroundsGiven : Type 0
GroundsGiven = (e : Explaining) (x : Explained) → x ≡ explain e → x.run.number ≡ 0 → Explains e x

-- a byte says which ground it is: no two grounds have one byte
unfoldable pub GroundBytes : Type 0
GroundBytes = (g h : Ground) → (beat_ground (ground_byte g) ≡ Some g) × (ground_byte g ≡ ground_byte h → g ≡ h)

-- any two accepted runs with alike sheets and boards, whatever memories they are lent: the same grounds, and all else that
-- two runs have in common
unfoldable pub SameReasons : Type 0
SameReasons =
    (e f : Explaining) (x y : Explained) → x ≡ explain e → y ≡ explain f → x.run.number ≡ 0 → y.run.number ≡ 0
    → AlikeSheets e.run.sheet f.run.sheet → AlikeBoards e.run.board f.run.board → SameGrounds e f x y
