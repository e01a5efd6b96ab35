-- What the run gives back, and what it leaves: one function of all that is lent.
-- From docs/RULES.md, "What is lent", "How a run goes" and "What a run is refused with".
use Rattle.std.specs.Prelude.{Bool, not, ◌&&◌, ◌||◌, List, [], ◌∷◌, ◌++◌, ℕ, ◌*◌, length, drop, eqb, ltb, leb}
use Rattle.std.specs.Prelude.{if◌then◌else◌}
use Rattle.model.specs.Base.{AllBytes}
use Rattle.model.specs.Region.{bios_size, ewram_size, iwram_size, io_size, palette_size, vram_size, oam_size, rom_size, sram_size}
use Rattle.model.specs.Memory.{lengths_sum}
use Rattle.model.specs.Step.{Media, State, Result, run, total}
use Rattle.model.specs.Sheet.{latest_version, knows, is_marked, version_of, is_shaped, record_count, records_of, steps_of}
use Rattle.model.specs.Sheet.{least_faulty}
use Rattle.model.specs.BoardBytes.{answer_length, board_of, board_bytes, sound, answers_bytes}
use Rattle.model.specs.declared.Lengths.{Lengths}
use Rattle.model.specs.declared.Refusal.{Refusal}
use Rattle.model.specs.declared.Refusal.TheVariants.{BadMark, BadVersion, BadShape, BadLengths}
use Rattle.model.specs.declared.Refusal.TheVariants.{UnsoundBoard, ShortAnswers, FaultyRecord, BadRate}
use Rattle.model.specs.Verdict.{Verdict, Accepted, Refused}

-- all that a caller lends
pub record Lent : Type 0 where
  pub sheet : List ℕ
  pub board : List ℕ
  pub store : List ℕ
  pub bios : List ℕ
  pub rom : List ℕ
  pub answers : List ℕ
  pub lengths : Lengths

-- what is lent are slices of bytes, as a slice of u8 is
pub record LentBytes (i : Lent) : Type 0 where
  pub sheet : AllBytes i.sheet
  pub board : AllBytes i.board
  pub store : AllBytes i.store
  pub bios : AllBytes i.bios
  pub rom : AllBytes i.rom

-- what the caller gets and finds
pub record Outcome : Type 0 where
  pub number : ℕ
  pub index : ℕ
  pub total : ℕ
  pub board : List ℕ
  pub store : List ℕ
  pub answers : List ℕ

-- ---- the refusals: a table of rows, of which the first that holds decides

-- a row: its condition, and the refusal that it makes
pub record Row : Type 0 where
  pub holds : Bool
  pub refusal : Refusal

abbrev pub row : Bool → Refusal → Row
row holds r = record { holds = holds; refusal = r }

-- by one row, and else by what the others say
abbrev pub by_row : Row → Verdict → Verdict
by_row r v = if r.holds then Refused r.refusal else v

-- the first row that holds (RULES, "What a run is refused with")
abbrev pub first_row : List Row → Verdict
first_row [] = Accepted
first_row (r ∷ rs) = by_row r (first_row rs)

-- ---- the run's table, in parts

-- for a reader that knows the versions up to a latest one
abbrev pub sheet_rows_of : ℕ → List ℕ → List Row
sheet_rows_of latest s =
    row (not (is_marked s)) BadMark
    ∷ row (not (knows latest (version_of s))) BadVersion
    ∷ row (not (is_shaped s)) BadShape
    ∷ []

abbrev pub sheet_rows : List ℕ → List Row
sheet_rows s = sheet_rows_of latest_version s

-- no memory is longer than its physical size, and the seven add up to the store (RULES, "What is lent")
unfoldable pub sizes_fit : Lengths → ℕ → ℕ → ℕ → Bool
sizes_fit l store bios rom =
    leb bios bios_size && leb rom rom_size && leb l.ewram ewram_size && leb l.iwram iwram_size && leb l.io io_size
    && leb l.palette palette_size && leb l.vram vram_size && leb l.oam oam_size && leb l.sram sram_size
    && eqb (lengths_sum l) store

abbrev pub lengths_rows : Lengths → ℕ → ℕ → ℕ → List Row
lengths_rows l store bios rom = row (not (sizes_fit l store bios rom)) BadLengths ∷ []

abbrev pub board_rows : List ℕ → List Row
board_rows b = row (not (sound b)) UnsoundBoard ∷ []

abbrev pub answers_rows : ℕ → ℕ → List Row
answers_rows n answers = row (ltb answers (answer_length * n)) ShortAnswers ∷ []

-- answers or a second buffer, which has `each` bytes a record, too short
abbrev pub room_rows : ℕ → ℕ → ℕ → ℕ → List Row
room_rows n answers each second = row (ltb answers (answer_length * n) || ltb second (each * n)) ShortAnswers ∷ []

-- the first record that breaks the record layout or the table of kinds, if one does
abbrev pub fault_index : List ℕ → ℕ
fault_index s = least_faulty (records_of s)

abbrev pub records_rows : List ℕ → List Row
records_rows s = row (ltb (fault_index s) (record_count s)) (FaultyRecord (fault_index s)) ∷ []

-- rows 1 to 5, with which the table of every run begins
abbrev pub lent_rows : Lent → List Row
lent_rows i =
    sheet_rows i.sheet
    ++ (lengths_rows i.lengths (length i.store) (length i.bios) (length i.rom)
    ++ board_rows i.board)

-- in the table's order (RULES, "What a run is refused with")
abbrev pub rows : Lent → List Row
rows i = lent_rows i ++ (answers_rows (record_count i.sheet) (length i.answers) ++ records_rows i.sheet)

-- the same with room for a second buffer, which has `each` bytes a record
abbrev pub second_rows : Lent → ℕ → ℕ → List Row
second_rows i each second =
    lent_rows i ++ (room_rows (record_count i.sheet) (length i.answers) each second ++ records_rows i.sheet)

unfoldable pub verdict : Lent → Verdict
verdict i = first_row (rows i)

-- the table's number of a refusal, and its index
abbrev pub refusal_number : Refusal → ℕ
refusal_number BadMark = 1
refusal_number BadVersion = 2
refusal_number BadShape = 3
refusal_number BadLengths = 4
refusal_number UnsoundBoard = 5
refusal_number ShortAnswers = 6
refusal_number (FaultyRecord k) = 7
refusal_number BadRate = 8

abbrev pub refusal_index : Refusal → ℕ
refusal_index BadMark = 0
refusal_index BadVersion = 0
refusal_index BadShape = 0
refusal_index BadLengths = 0
refusal_index UnsoundBoard = 0
refusal_index ShortAnswers = 0
refusal_index (FaultyRecord k) = k
refusal_index BadRate = 0

-- a verdict's number: 0 where nothing is refused
abbrev pub verdict_number : Verdict → ℕ
verdict_number Accepted = 0
verdict_number (Refused r) = refusal_number r

-- ---- the outcome

abbrev pub media_of : Lent → Media
media_of i = record { bios = i.bios; rom = i.rom; lengths = i.lengths }

abbrev pub first_state : Lent → State
first_state i = record { board = board_of i.board; store = i.store }

-- the run of an accepted sheet
unfoldable pub ran : Lent → Result
ran i = run (media_of i) (first_state i) (steps_of i.sheet)

-- a refusal leaves all as lent; an accepted run writes board, store and an answer for each record
abbrev pub outcome_of : Lent → Result → Verdict → Outcome
outcome_of i done (Refused r) =
    record {
      number = refusal_number r;
      index = refusal_index r;
      total = 0;
      board = i.board;
      store = i.store;
      answers = i.answers;
    }
outcome_of i done Accepted =
    record {
      number = 0;
      index = record_count i.sheet;
      total = total done;
      board = board_bytes done.state.board;
      store = done.state.store;
      answers = answers_bytes done.answers ++ drop (answer_length * record_count i.sheet) i.answers;
    }

abbrev pub outcome_by : Lent → Verdict → Outcome
outcome_by i v = outcome_of i (ran i) v

-- all that a call gives and leaves (RULES, "How a run goes", "What a run is refused with" and "What a contract may quote")
unfoldable pub outcome : Lent → Outcome
outcome i = outcome_by i (verdict i)
