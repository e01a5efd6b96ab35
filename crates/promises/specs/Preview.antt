-- What is promised of a preview. The contract of `bts_preview` says of a call that was lent `q` and left `p` that
-- `p ≡ preview q`; each statement here is of any such call.
use Rattle.std.specs.Prelude.{◌≡◌, ◌≢◌, ◌≤◌}
use Rattle.model.specs.Sheet.{max_records, records_of}
use Rattle.model.specs.Alike.{AlikeSheets, AlikeBoards, Limits}
use Rattle.model.specs.Preview.{Asked, Previewed, preview, AsRun}
use Rattle.model.specs.Laws.Refusal.{Index, LowerOfTwo}
use Rattle.model.specs.Laws.Previewed.{PreviewTable, Unwritten, SamePreview}

-- for all memories that the run accepts it is the run on a copy of the board, but for the named zeros, and it is accepted exactly
-- when the run with some memories is
unfoldable pub PreviewIsRun : Type 0
PreviewIsRun = (q : Asked) (p : Previewed) → p ≡ preview q → AsRun q p

-- each number exactly when its row of the preview's table holds and no earlier one does, and 0 exactly when none does
unfoldable pub PreviewedNumber : Type 0
PreviewedNumber = (q : Asked) (p : Previewed) → p ≡ preview q → PreviewTable q p

-- and no other number: the run's, without 4
unfoldable pub NoOtherPreviewed : Type 0
NoOtherPreviewed = (q : Asked) (p : Previewed) → p ≡ preview q → (p.number ≤ 7) × (p.number ≢ 4)

-- the index: 0 for the others, the first faulty record for 7, the number of records for 0
unfoldable pub PreviewedIndex : Type 0
PreviewedIndex = (q : Asked) (p : Previewed) → p ≡ preview q → Index q.sheet p.number p.index

-- the record that 7 names is the lower of two, as a run's
unfoldable pub PreviewedFirstOfTwo : Type 0
PreviewedFirstOfTwo = (q : Asked) (p : Previewed) → p ≡ preview q → p.number ≡ 7 → LowerOfTwo q.sheet p.index

-- the index fits its 32 bits
unfoldable pub SmallPreviewedIndex : Type 0
SmallPreviewedIndex = (q : Asked) (p : Previewed) → p ≡ preview q → p.index ≤ max_records

-- sheet and board are as lent, and a refusal gives total 0 and changes no byte of the answers
unfoldable pub PreviewUnwritten : Type 0
PreviewUnwritten = (q : Asked) (p : Previewed) → p ≡ preview q → Unwritten q p

-- an accepted one's total lies within a run's limits
unfoldable pub PreviewLimits : Type 0
PreviewLimits = (q : Asked) (p : Previewed) → p ≡ preview q → p.number ≡ 0 → Limits (records_of q.sheet) p.total

-- any two accepted ones with alike sheets and boards: every byte of their answers, and the total
unfoldable pub SamePreviews : Type 0
SamePreviews =
    (q r : Asked) (p o : Previewed) → p ≡ preview q → o ≡ preview r → p.number ≡ 0 → o.number ≡ 0
    → AlikeSheets q.sheet r.sheet → AlikeBoards q.board r.board → SamePreview q p o
