-- Price before running: the answers that the clock tells without memories, what a preview gives back, and what is claimed of it.
-- From docs/RULES.md, "What a preview gives" and "What a preview is refused with".
use Rattle.std.specs.Prelude.{◌≡◌, ◌≢◌, ◌||◌, List, [], ◌∷◌, ◌++◌, ℕ, ◌*◌, length, take, drop, set, eqb}
use Rattle.std.specs.Prelude.{if◌then◌else◌}
use Rattle.model.specs.Base.{bytes, sum}
use Rattle.model.specs.Memory.{no_lengths}
use Rattle.model.specs.Step.{priced, timed, clock_after, cycles_in}
use Rattle.model.specs.Sheet.{record_count, records_from, steps_of}
use Rattle.model.specs.BoardBytes.{answer_length, clock_of, answers_bytes}
use Rattle.model.specs.Outcome.{Lent, Outcome, Row, first_row, sheet_rows, board_rows, answers_rows, records_rows}
use Rattle.model.specs.Outcome.{refusal_number, refusal_index, outcome}
use Rattle.model.specs.declared.Clock.{Clock}
use Rattle.model.specs.declared.Lengths.{Lengths}
use Rattle.model.specs.declared.Answer.{Answer}
use Rattle.model.specs.declared.SheetRecord.{SheetRecord}
use Rattle.model.specs.Verdict.{Verdict, Accepted, Refused}
use Rattle.model.specs.declared.Step.{Step}
use Rattle.model.specs.declared.Step.TheVariants.{Read, Write, Waitcnt, Idle, Fetch, Restart, Instruction, Pc, Latch}
use Rattle.model.specs.declared.Step.TheVariants.{BlockRead, BlockWrite}

-- ---- the answers that the clock tells

-- an instruction answers `cart_idle`, which its price tells. What READ, FETCH and BLOCK READ answer only the memories tell, so it
-- is left out as 0; the other steps answer 0
abbrev pub clock_value : Clock → Step → ℕ
clock_value c (Read z a) = 0
clock_value c (Write z a v) = 0
clock_value c (Waitcnt v) = 0
clock_value c (Idle n) = 0
clock_value c (Fetch a) = 0
clock_value c (Restart a) = 0
clock_value c (Instruction v isa a op jump) = (priced c v isa a op jump).cart_idle
clock_value c (Pc a) = 0
clock_value c (Latch v) = 0
clock_value c (BlockRead a n) = 0
clock_value c (BlockWrite a n) = 0

-- the hits are the halfwords taken from the buffer: none for WRITE and BLOCK WRITE, whose bytes that land only the memories tell
abbrev pub foretold : Clock → Step → Answer
foretold c x =
    record {
      value = clock_value c x;
      cycles = (timed c x).cycles;
      hits = (timed c x).hits;
      count = (clock_after c x).prefetch.count;
      force = (clock_after c x).force_next_fetch_n;
    }

-- each step gets the clock that the step before left (RULES, "What a preview gives")
unfoldable pub previewed : Clock → List Step → List Answer
previewed c [] = []
previewed c (x ∷ xs) = foretold c x ∷ previewed (clock_after c x) xs

-- ---- what a preview gives back

-- all that a caller lends: no memory
pub record Asked : Type 0 where
  pub sheet : List ℕ
  pub board : List ℕ
  pub answers : List ℕ

-- what the caller gets and finds
pub record Previewed : Type 0 where
  pub number : ℕ
  pub index : ℕ
  pub total : ℕ
  pub sheet : List ℕ
  pub board : List ℕ
  pub answers : List ℕ

-- the run's table without the row of the lengths, 4 (RULES, "What a preview is refused with")
abbrev pub preview_rows : Asked → List Row
preview_rows q =
    sheet_rows q.sheet
    ++ (board_rows q.board
    ++ (answers_rows (record_count q.sheet) (length q.answers) ++ records_rows q.sheet))

unfoldable pub preview_verdict : Asked → Verdict
preview_verdict q = first_row (preview_rows q)

-- the answers to the records of a sheet, from the board's clock
unfoldable pub preview_answers : Asked → List Answer
preview_answers q = previewed (clock_of q.board) (steps_of q.sheet)

-- sheet and board are only read: they are as they were lent
abbrev pub giving : Asked → ℕ → ℕ → ℕ → List ℕ → Previewed
giving q number index total answers =
    record { number = number; index = index; total = total; sheet = q.sheet; board = q.board; answers = answers }

-- a refusal leaves the answers too; an accepted sheet has one for each record
abbrev pub preview_by : Asked → Verdict → Previewed
preview_by q (Refused r) = giving q (refusal_number r) (refusal_index r) 0 q.answers
preview_by q Accepted =
    giving q 0 (record_count q.sheet) (sum (cycles_in (preview_answers q)))
    (answers_bytes (preview_answers q) ++ drop (answer_length * record_count q.sheet) q.answers)

-- all that a call gives and leaves
-- (RULES, "What a preview gives", "What a preview is refused with" and "What a contract may quote")
unfoldable pub preview : Asked → Previewed
preview q = preview_by q (preview_verdict q)

-- ---- the claim: a run on a copy of the board, but for the named zeros

-- what a preview is not lent
pub record Memories : Type 0 where
  pub store : List ℕ
  pub bios : List ℕ
  pub rom : List ℕ
  pub lengths : Lengths

-- none
abbrev pub no_memories : Memories
no_memories = record { store = []; bios = []; rom = []; lengths = no_lengths }

-- all that is lent to a run of the same sheet
abbrev pub lent_with : Asked → Memories → Lent
lent_with q m =
    record {
      sheet = q.sheet;
      board = q.board;
      store = m.store;
      bios = m.bios;
      rom = m.rom;
      answers = q.answers;
      lengths = m.lengths;
    }

-- the zeros in the bytes of an answer, by the kind of its record: the value of READ (1), FETCH (5) and BLOCK READ (10), the hits
-- of WRITE (2) and BLOCK WRITE (11)
unfoldable pub zeroed : ℕ → List ℕ → List ℕ
zeroed kind b =
    if eqb kind 1 || eqb kind 5 || eqb kind 10 then bytes 4 0 ++ drop 4 b
    else if eqb kind 2 || eqb kind 11 then set b 8 0
    else b

-- something done to the bytes of each answer, by the kind of its record; bytes behind the answers are left alone
abbrev pub each_answer : (ℕ → List ℕ → List ℕ) → List SheetRecord → List ℕ → List ℕ
each_answer f [] b = b
each_answer f (r ∷ rs) b = f r.kind (take answer_length b) ++ each_answer f rs (drop answer_length b)

-- the records that a run has answered: none where it is refused
abbrev pub answered : Outcome → ℕ
answered o = if eqb o.number 0 then o.index else 0

-- what a run gave, with these zeros in its answers
abbrev pub with_zeros : Asked → Outcome → Previewed
with_zeros q o =
    giving q o.number o.index o.total
    (each_answer zeroed (records_from q.sheet 0 (answered o)) o.answers)

-- memories with which a run of the sheet is accepted
pub record SomeRun (q : Asked) : Type 0 where
  pub memories : Memories
  pub accepted : (outcome (lent_with q memories)).number ≡ 0

-- a preview is that run, whatever the memories are (RULES, "What a preview gives")
pub record AsRun (q : Asked) (p : Previewed) : Type 0 where
  -- for all memories but those whose lengths the run refuses (4), so for all that it accepts: the run's outcome, with the zeros
  pub same : (m : Memories) → (outcome (lent_with q m)).number ≢ 4 → p ≡ with_zeros q (outcome (lent_with q m))
  -- accepted exactly when the run with some memories is
  pub some_run : p.number ≡ 0 → SomeRun q
  pub no_other : SomeRun q → p.number ≡ 0
