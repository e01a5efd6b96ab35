-- What is promised of blocks: what a BLOCK WRITE's byte 8 tells, and that a block is its words.
use Rattle.std.specs.Prelude.{◌≡◌, true, List, ℕ, ◌≤◌, ◌<◌}
use Rattle.model.specs.Base.{AllBytes}
use Rattle.model.specs.Sheet.{version_of, record_at, record_count, records_of, is_block, step_of}
use Rattle.model.specs.Step.{timed}
use Rattle.model.specs.Outcome.{Lent, Outcome, outcome}
use Rattle.model.specs.Grounds.{Explaining, Explained, explain}
use Rattle.model.specs.Laws.Versions.{BlockRecord}
use Rattle.model.specs.Laws.Told.{BlockTold, SameBlock}
use Rattle.model.specs.Laws.WrittenOut.{written_out}
use Rattle.model.specs.Laws.WrittenCalls.{OfWords, ToldByWords, SameLoan, AsWords}
use Rattle.model.specs.Laws.WrittenSheet.{HasRoom, WrittenRuns}
use Rattle.model.specs.declared.Clock.{Clock}
use Rattle.model.specs.declared.SheetRecord.{SheetRecord}
use Rattle.model.specs.declared.Step.TheVariants.{BlockWrite}

-- in a version 2 sheet a record of kind 10 or 11 is without fault exactly when its size is 4, flag and zero byte are 0 and its
-- value is 1 to 16; it then stands for as many words, from its address lowered to a multiple of 4 on
unfoldable pub BlockRecords : Type 0
BlockRecords = (s : List ℕ) (k : ℕ) → version_of s ≡ 2 → is_block (record_at s k).kind ≡ true → BlockRecord (record_at s k)

-- byte 8 of a BLOCK WRITE's answer is the number of memory bytes that its words' stores wrote: each at a place of its own, where
-- there is 0 afterwards, and no other byte changes
unfoldable pub BlockLandedTold : Type 0
BlockLandedTold =
    (i : Lent) (o : Outcome) → o ≡ outcome i → o.number ≡ 0 → (k : ℕ) → k < record_count i.sheet
    → (a n : ℕ) → step_of (record_at i.sheet k) ≡ BlockWrite a n → BlockTold i o k a n

-- one block tells the same twice, places and number, in any two accepted runs whose memories have the same lengths
unfoldable pub SameBlockTold : Type 0
SameBlockTold =
    (i j : Lent) (o p : Outcome) → o ≡ outcome i → p ≡ outcome j → o.number ≡ 0 → p.number ≡ 0
    → (k h : ℕ) → k < record_count i.sheet → h < record_count j.sheet
    → (a n : ℕ) → step_of (record_at i.sheet k) ≡ BlockWrite a n → step_of (record_at j.sheet h) ≡ BlockWrite a n
    → i.lengths ≡ j.lengths → SameBlock i j o p k h a n

-- a block is its words: board, store, total, answers and grounds of an accepted run are those of the run in which each block is
-- written out as so many READ 4, or WRITE 4 of 0
unfoldable pub BlocksAreWords : Type 0
BlocksAreWords = (i : Lent) (o : Outcome) → o ≡ outcome i → o.number ≡ 0 → OfWords i o

-- a second accepted call, whose sheet has the records of the first with each block written out, leaves and answers the same
unfoldable pub SameAsWords : Type 0
SameAsWords =
    (i j : Lent) (o p : Outcome) → o ≡ outcome i → p ≡ outcome j → o.number ≡ 0 → p.number ≡ 0
    → SameLoan i j → records_of j.sheet ≡ written_out (records_of i.sheet) → AsWords i j o p

-- there is such a sheet, and it is accepted, where it has room
unfoldable pub WrittenSheetRuns : Type 0
WrittenSheetRuns =
    (i : Lent) (o : Outcome) (answers : List ℕ) → AllBytes i.sheet → o ≡ outcome i → o.number ≡ 0
    → HasRoom i answers → WrittenRuns i o answers

-- the grounds of a block are those of its words, one behind the other
unfoldable pub GroundsOfWords : Type 0
GroundsOfWords = (e : Explaining) (x : Explained) → x ≡ explain e → x.run.number ≡ 0 → ToldByWords e x

-- a block of either kind costs at most 288 cycles
unfoldable pub DearestBlock : Type 0
DearestBlock = (c : Clock) (r : SheetRecord) → is_block r.kind ≡ true → (timed c (step_of r)).cycles ≤ 288
