-- Words of the laws in proofs/Laws/WrittenSheet.antt, as definitions. Those laws:
-- The sheet in which each block is written out, as bytes: it is accepted where the first sheet is, if there is room for its
-- records and their answers, so that there is a second call as the laws of WrittenCalls speak of.
use Rattle.std.specs.Prelude.{◌≡◌, List, [], ◌∷◌, ◌++◌, ℕ, ◌*◌, ◌^◌, ◌≤◌, ◌<◌, length}
use Rattle.model.specs.Base.{Field, field, encoded, blocks}
use Rattle.model.specs.Sheet.{max_records, version_of, records_of}
use Rattle.model.specs.BoardBytes.{answer_length}
use Rattle.model.specs.Outcome.{Lent, Outcome, outcome}
use Rattle.model.specs.Laws.WrittenOut.{written_out}
use Rattle.model.specs.Laws.WrittenCalls.{AsWords}
use Rattle.model.specs.declared.SheetRecord.{SheetRecord}
use Rattle.model.specs.declared.Version.{Version}

-- the 12 bytes of a record
abbrev pub record_fields : SheetRecord → List Field
record_fields r =
    field 1 r.kind
    ∷ field 1 r.size
    ∷ field 1 r.flag
    ∷ field 1 r.zero_byte
    ∷ field 4 r.address
    ∷ field 4 r.value
    ∷ []

abbrev pub record_bytes : SheetRecord → List ℕ
record_bytes r = encoded (record_fields r)

-- the 8 bytes of a header, of so many records
abbrev pub header_bytes : ℕ → ℕ → List ℕ
header_bytes version n =
    encoded
    (field 1 0x42 ∷ field 1 0x54 ∷ field 1 0x53 ∷ field 2 version ∷ field 1 0 ∷ field 2 n ∷ [])

unfoldable pub sheet_bytes : ℕ → List SheetRecord → List ℕ
sheet_bytes version rs = header_bytes version (length rs) ++ blocks record_bytes rs

-- a sheet with each block written out, in the same version
abbrev pub written_sheet : List ℕ → List ℕ
written_sheet s = sheet_bytes (version_of s) (written_out (records_of s))

-- lent with that sheet, and with other answers
abbrev pub with_written : Lent → List ℕ → Lent
with_written i answers =
    record {
      sheet = written_sheet i.sheet;
      board = i.board;
      store = i.store;
      bios = i.bios;
      rom = i.rom;
      answers = answers;
      lengths = i.lengths;
    }

-- a record whose fields have the bytes that they have in a sheet of a version
pub record RecordFits (v : Version) (r : SheetRecord) : Type 0 where
  pub version : r.version ≡ v
  pub kind : r.kind < 256
  pub size : r.size < 256
  pub flag : r.flag < 256
  pub zero_byte_fits : r.zero_byte < 256
  pub address : r.address < 2 ^ 32
  pub value : r.value < 2 ^ 32

-- no more than 4096 records are written out, and there is room for their answers
pub record HasRoom (i : Lent) (answers : List ℕ) : Type 0 where
  pub few : length (written_out (records_of i.sheet)) ≤ max_records
  pub room : answer_length * length (written_out (records_of i.sheet)) ≤ length answers

-- a run over the written-out sheet, lent the same besides: it is accepted, and leaves what the first run leaves
pub record WrittenRuns (i : Lent) (o : Outcome) (answers : List ℕ) : Type 0 where
  pub accepted : (outcome (with_written i answers)).number ≡ 0
  pub records : records_of (written_sheet i.sheet) ≡ written_out (records_of i.sheet)
  pub words : AsWords i (with_written i answers) o (outcome (with_written i answers))
