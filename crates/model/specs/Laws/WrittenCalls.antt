-- Words of the laws in proofs/Laws/WrittenCalls.antt, as definitions. Those laws:
-- A block is its words, of a call: what an accepted run leaves, costs, answers and tells is what the run does of the sheet's
-- records with each block written out; and so is it of any second call whose sheet has those records.
use Rattle.std.specs.Prelude.{◌≡◌, List, [], ◌∷◌, map, ℕ, zero, suc, ◌+◌, ◌<◌, length, take, drop}
use Rattle.model.specs.Step.{Result, run, total}
use Rattle.model.specs.Sheet.{record_at, record_count, records_of, step_of}
use Rattle.model.specs.BoardBytes.{answer_length, clock_of, board_bytes, answer_bytes}
use Rattle.model.specs.Outcome.{Lent, Outcome, media_of, first_state}
use Rattle.model.specs.Alike.{answer_at, answer_start}
use Rattle.model.specs.Grounds.{grounds_after, grounds_length, beat_bytes, Explaining, Explained, run_grounds, grounds_start, grounds_at}
use Rattle.model.specs.Laws.Choice.{All}
use Rattle.model.specs.Laws.Limits.{Faultless}
use Rattle.model.specs.Laws.Blocks.{joined_grounds}
use Rattle.model.specs.Laws.WrittenOut.{written_out, words_in, words_before, words_at, joined_answer}
use Rattle.model.specs.declared.Answer.{Answer}
use Rattle.model.specs.declared.Ground.{Ground}

-- ---- of one call

-- the run over the lent memories of the sheet's records, written out
unfoldable pub written_run : Lent → Result
written_run i = run (media_of i) (first_state i) (map step_of (written_out (records_of i.sheet)))

-- its grounds
unfoldable pub written_grounds : Lent → List (List Ground)
written_grounds i = grounds_after (clock_of i.board) (map step_of (written_out (records_of i.sheet)))

-- of the words of record k
abbrev pub word_answers : Lent → ℕ → List Answer
word_answers i k = words_at (records_of i.sheet) k (written_run i).answers

abbrev pub word_grounds : Lent → ℕ → List (List Ground)
word_grounds i k = words_at (records_of i.sheet) k (written_grounds i)

-- what an accepted run has of the written-out one
pub record OfWords (i : Lent) (o : Outcome) : Type 0 where
  -- none of its records has a fault
  pub faultless : All Faultless (written_out (records_of i.sheet))
  -- the same board, store and total
  pub board : o.board ≡ board_bytes (written_run i).state.board
  pub store : o.store ≡ (written_run i).state.store
  pub total : o.total ≡ total (written_run i)
  -- answer k is made of those of its words, which are as many as a block's value says, and 1 of any other record
  pub many : (k : ℕ) → k < record_count i.sheet → length (word_answers i k) ≡ words_in (record_at i.sheet k)
  pub answers : (k : ℕ) → k < record_count i.sheet → answer_at i k ≡ joined_answer (word_answers i k)
  pub bytes : (k : ℕ) → k < record_count i.sheet
      → take answer_length (drop (answer_start k) o.answers) ≡ answer_bytes (joined_answer (word_answers i k))
  -- its grounds are theirs, one behind the other, and so are those of all
  pub grounds : (k : ℕ) → k < record_count i.sheet → grounds_at i k ≡ joined_grounds (word_grounds i k)
  pub all_grounds : joined_grounds (run_grounds i) ≡ joined_grounds (written_grounds i)

-- what an accepted run with grounds has of it
pub record ToldByWords (e : Explaining) (x : Explained) : Type 0 where
  pub run : OfWords e.run x.run
  -- the 32 bytes of each step
  pub bytes : (k : ℕ) → k < record_count e.run.sheet
      → take grounds_length (drop (grounds_start k) x.grounds) ≡ beat_bytes (joined_grounds (word_grounds e.run k))

-- ---- of two calls

-- lent the same but for sheet and answers
pub record SameLoan (i j : Lent) : Type 0 where
  pub board : i.board ≡ j.board
  pub store : i.store ≡ j.store
  pub bios : i.bios ≡ j.bios
  pub rom : i.rom ≡ j.rom
  pub lengths : i.lengths ≡ j.lengths

-- n answers of an accepted run from number k on, and the grounds of these steps
abbrev pub answers_from : Lent → ℕ → ℕ → List Answer
answers_from j k zero = []
answers_from j k (suc n) = answer_at j k ∷ answers_from j (suc k) n

abbrev pub grounds_from : Lent → ℕ → ℕ → List (List Ground)
grounds_from j k zero = []
grounds_from j k (suc n) = grounds_at j k ∷ grounds_from j (suc k) n

-- where the words of record k begin in the second sheet
abbrev pub word_start : Lent → ℕ → ℕ
word_start i k = words_before (records_of i.sheet) k

-- what an accepted run has of the run of a second sheet, whose records are those of the first, written out
pub record AsWords (i j : Lent) (o p : Outcome) : Type 0 where
  pub board : o.board ≡ p.board
  pub store : o.store ≡ p.store
  pub total : o.total ≡ p.total
  -- the second has an answer for each word: those of record k stand where the words of the records before it end
  pub many : record_count j.sheet ≡ word_start i (record_count i.sheet)
  pub next : (k : ℕ) → k < record_count i.sheet → word_start i (suc k) ≡ word_start i k + words_in (record_at i.sheet k)
  pub answers : (k : ℕ) → k < record_count i.sheet
      → answer_at i k ≡ joined_answer (answers_from j (word_start i k) (words_in (record_at i.sheet k)))
  pub grounds : (k : ℕ) → k < record_count i.sheet
      → grounds_at i k ≡ joined_grounds (grounds_from j (word_start i k) (words_in (record_at i.sheet k)))
  pub all_grounds : joined_grounds (run_grounds i) ≡ joined_grounds (run_grounds j)
