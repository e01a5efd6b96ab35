-- A sheet: its header and its records, as bytes; the steps that they stand for; and the faults of a record.
-- From docs/RULES.md, "The sheet", "The kinds of record" and "The two versions". A sheet is the list of steps that a run does.
use Rattle.std.specs.Prelude.{Bool, not, ◌&&◌, ◌||◌, List, [], ◌∷◌, map, ℕ, zero, suc, ◌+◌, ◌*◌, ◌%◌, min, max, length, eqb, leb}
use Rattle.std.specs.Prelude.{if◌then◌else◌}
use Rattle.model.specs.Base.{byte_at, number}
use Rattle.model.specs.Wait.{access_size_of, aligned}
use Rattle.model.specs.declared.AccessSize.TheVariants.{Word}
use Rattle.model.specs.declared.Version.{Version}
use Rattle.model.specs.declared.Version.TheVariants.{One, Two}
use Rattle.model.specs.declared.IsaState.{IsaState}
use Rattle.model.specs.declared.IsaState.TheVariants.{Arm, Thumb}
use Rattle.model.specs.declared.SheetRecord.{SheetRecord}
use Rattle.model.specs.declared.Step.{Step}
use Rattle.model.specs.declared.Step.TheVariants.{Read, Write, Waitcnt, Idle, Fetch, Restart, Instruction, Pc, Latch}
use Rattle.model.specs.declared.Step.TheVariants.{BlockRead, BlockWrite}

-- ---- the header: bytes 0-2 "BTS", 3-4 the version, 5 zero, 6-7 the number of records

abbrev pub header_length : ℕ
header_length = 8

abbrev pub record_length : ℕ
record_length = 12

abbrev pub max_records : ℕ
max_records = 4096

-- the latest version there is
abbrev pub latest_version : ℕ
latest_version = 2

-- a reader knows the versions from 1 up to the latest of its time (RULES, "The two versions")
abbrev pub knows : ℕ → ℕ → Bool
knows latest v = leb 1 v && leb v latest

-- it has a header, and the mark in front (RULES, "The sheet")
abbrev pub is_marked : List ℕ → Bool
is_marked s = leb header_length (length s) && eqb (byte_at s 0) 0x42 && eqb (byte_at s 1) 0x54 && eqb (byte_at s 2) 0x53

-- the version that it says (RULES, "The sheet")
abbrev pub version_of : List ℕ → ℕ
version_of s = number 2 s 3

-- the version by whose rules the sheet is read. One that is not known is refused, and by which it would be read is no matter
-- (RULES, "The two versions")
unfoldable pub rules_of : List ℕ → Version
rules_of s = if eqb (version_of s) 2 then Two else One

abbrev pub record_count : List ℕ → ℕ
record_count s = number 2 s 6

-- byte 5 is zero, there are not too many records, and the sheet is as long as they are (RULES, "The sheet")
abbrev pub is_shaped : List ℕ → Bool
is_shaped s =
    eqb (byte_at s 5) 0 && leb (record_count s) max_records && eqb (length s) (header_length + record_length * record_count s)

-- ---- a record: 12 bytes

-- where record k begins
abbrev pub record_start : ℕ → ℕ
record_start k = header_length + record_length * k

-- record k (RULES, "The sheet")
unfoldable pub record_at : List ℕ → ℕ → SheetRecord
record_at s k =
    record {
      version = rules_of s;
      kind = byte_at s (record_start k);
      size = byte_at s (record_start k + 1);
      flag = byte_at s (record_start k + 2);
      zero_byte = byte_at s (record_start k + 3);
      address = number 4 s (record_start k + 4);
      value = number 4 s (record_start k + 8);
    }

-- n records from number k on
unfoldable pub records_from : List ℕ → ℕ → ℕ → List SheetRecord
records_from s k zero = []
records_from s k (suc n) = record_at s k ∷ records_from s (k + 1) n

abbrev pub records_of : List ℕ → List SheetRecord
records_of s = records_from s 0 (record_count s)

-- ---- the step of a record without fault, whose WAITCNT value has 16 bits, and whose block has 1 to 16 words.
-- Kinds: 1 READ, 2 WRITE, 3 WAITCNT, 4 IDLE, 5 FETCH, 6 RESTART, 7 INSTRUCTION, 8 PC, 9 LATCH; from version 2 on 10 BLOCK READ,
-- 11 BLOCK WRITE

unfoldable pub isa_state : ℕ → IsaState
isa_state size = if eqb size 2 then Thumb else Arm

-- the most words of a block
abbrev pub max_words : ℕ
max_words = 16

-- the words of a block are as many as its value says, 1 to 16. Another number is refused, and for how many words it would stand
-- is no matter
unfoldable pub words_of : ℕ → ℕ
words_of value = max 1 (min value max_words)

-- a block starts at its address lowered to a multiple of 4 (RULES, "The kinds of record")
unfoldable pub step_of : SheetRecord → Step
step_of r =
    if eqb r.kind 1 then Read (access_size_of r.size) r.address
    else if eqb r.kind 2 then Write (access_size_of r.size) r.address r.value
    else if eqb r.kind 3 then Waitcnt (r.value % 0x1_0000)
    else if eqb r.kind 4 then Idle r.value
    else if eqb r.kind 5 then Fetch r.address
    else if eqb r.kind 6 then Restart r.address
    else if eqb r.kind 7 then Instruction r.version (isa_state r.size) r.address r.value (eqb r.flag 1)
    else if eqb r.kind 8 then Pc r.address
    else if eqb r.kind 10 then BlockRead (aligned Word r.address) (words_of r.value)
    else if eqb r.kind 11 then BlockWrite (aligned Word r.address) (words_of r.value)
    else Latch r.value

abbrev pub steps_of : List ℕ → List Step
steps_of s = map step_of (records_of s)

-- ---- the faults of a record

-- the blocks' kinds
abbrev pub is_block : ℕ → Bool
is_block kind = eqb kind 10 || eqb kind 11

-- the table's kinds, 1 to 9, in version 2 to 11; then the sizes of each (RULES, "The kinds of record" and "The two versions")
abbrev pub last_kind : Version → ℕ
last_kind One = 9
last_kind Two = 11

unfoldable pub size_fits : ℕ → ℕ → Bool
size_fits kind size =
    if eqb kind 1 || eqb kind 2 then eqb size 1 || eqb size 2 || eqb size 4
    else if eqb kind 7 then eqb size 2 || eqb size 4
    else if is_block kind then eqb size 4
    else eqb size 0

-- its kind isn't one of its version's, or its size not one of its kind's (RULES, "The kinds of record")
unfoldable pub kind_fault : SheetRecord → Bool
kind_fault r = not (leb 1 r.kind && leb r.kind (last_kind r.version) && size_fits r.kind r.size)

-- the table's column "what it uses": which fields a kind uses
abbrev pub uses_flag : ℕ → Bool
uses_flag kind = eqb kind 7

abbrev pub uses_address : ℕ → Bool
uses_address kind = eqb kind 1 || eqb kind 2 || eqb kind 5 || eqb kind 6 || eqb kind 7 || eqb kind 8 || is_block kind

abbrev pub uses_value : ℕ → Bool
uses_value kind = eqb kind 2 || eqb kind 3 || eqb kind 4 || eqb kind 7 || eqb kind 9 || is_block kind

-- a field that a kind doesn't use is 0; the flag is 0 or 1, WAITCNT's value has 16 bits, and a block's is 1 to 16
abbrev pub fields_fit : SheetRecord → Bool
fields_fit r =
    eqb r.zero_byte 0
    && (uses_flag r.kind || eqb r.flag 0)
    && leb r.flag 1
    && (uses_address r.kind || eqb r.address 0)
    && (uses_value r.kind || eqb r.value 0)
    && (not (eqb r.kind 3) || leb r.value 0xFFFF)
    && (not (is_block r.kind) || leb 1 r.value && leb r.value max_words)

-- a field that its kind doesn't use isn't 0, or one that it uses is out of bounds (RULES, "The kinds of record")
unfoldable pub field_fault : SheetRecord → Bool
field_fault r = not (fields_fit r)

-- one or the other (RULES, "The kinds of record")
abbrev pub faulty : SheetRecord → Bool
faulty r = kind_fault r || field_fault r

-- the number of records before the first that a test finds: all of them where there is none
unfoldable pub first_of : (SheetRecord → Bool) → List SheetRecord → ℕ
first_of f [] = 0
first_of f (r ∷ rs) = let n = first_of f rs in if f r then 0 else suc n

-- the least faulty record
abbrev pub least_faulty : List SheetRecord → ℕ
least_faulty rs = first_of faulty rs
