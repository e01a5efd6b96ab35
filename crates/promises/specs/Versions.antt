-- What is promised of the two versions of a sheet, of any call of each of the four functions.
use Rattle.std.specs.Prelude.{◌≡◌, true, ℕ, suc, ◌<◌, eqb}
use Rattle.model.specs.Sheet.{is_marked, version_of, isa_state, record_at, record_count}
use Rattle.model.specs.VersionOne.{Instruction₁, stepped₁, answer₁, outcome₁}
use Rattle.model.specs.VersionOneCalls.{bill₁, preview₁, explain₁}
use Rattle.model.specs.Outcome.{Lent, Outcome, media_of, outcome}
use Rattle.model.specs.Alike.{state_at, answer_at}
use Rattle.model.specs.Tariff.{Tariffed, Billed, bill}
use Rattle.model.specs.Preview.{Asked, Previewed, preview}
use Rattle.model.specs.Grounds.{Explaining, Explained, explain}
use Rattle.model.specs.Laws.Versions.{RefusesOtherVersions, is_pop, was_pop, Elsewhere, AnsweredWith, AnsweredWithout}

-- ---- every version but 1 and 2 is refused with 2

-- a run gives number 2 exactly for a marked sheet whose version is neither 1 nor 2
unfoldable pub OthersRefused : Type 0
OthersRefused = (i : Lent) (o : Outcome) → o ≡ outcome i → RefusesOtherVersions i.sheet o.number

-- so does a run under a tariff
unfoldable pub OthersUnbilled : Type 0
OthersUnbilled = (t : Tariffed) (b : Billed) → b ≡ bill t → RefusesOtherVersions t.run.sheet b.run.number

-- so does a run with grounds
unfoldable pub OthersUnexplained : Type 0
OthersUnexplained = (e : Explaining) (x : Explained) → x ≡ explain e → RefusesOtherVersions e.run.sheet x.run.number

-- so does a preview
unfoldable pub OthersUnpreviewed : Type 0
OthersUnpreviewed = (q : Asked) (p : Previewed) → p ≡ preview q → RefusesOtherVersions q.sheet p.number

-- ---- a version 1 sheet means what it did before there was a version 2

-- a run of it: by definitions of that time, down to a step's time and price
unfoldable pub RunAsBefore : Type 0
RunAsBefore = (i : Lent) (o : Outcome) → o ≡ outcome i → version_of i.sheet ≡ 1 → o ≡ outcome₁ i

-- its bill
unfoldable pub BillAsBefore : Type 0
BillAsBefore = (t : Tariffed) (b : Billed) → b ≡ bill t → version_of t.run.sheet ≡ 1 → b ≡ bill₁ t

-- its grounds
unfoldable pub GroundsAsBefore : Type 0
GroundsAsBefore = (e : Explaining) (x : Explained) → x ≡ explain e → version_of e.run.sheet ≡ 1 → x ≡ explain₁ e

-- its preview
unfoldable pub PreviewAsBefore : Type 0
PreviewAsBefore = (q : Asked) (p : Previewed) → p ≡ preview q → version_of q.sheet ≡ 1 → p ≡ preview₁ q

-- and a reader of that time refuses a marked version 2 sheet with 2: in a run, a bill, a preview and a run with grounds
unfoldable pub TwoUnknownBefore : Type 0
TwoUnknownBefore =
    ((i : Lent) → is_marked i.sheet ≡ true → version_of i.sheet ≡ 2 → (outcome₁ i).number ≡ 2)
    × ((t : Tariffed) → is_marked t.run.sheet ≡ true → version_of t.run.sheet ≡ 2 → (bill₁ t).run.number ≡ 2)
    × ((q : Asked) → is_marked q.sheet ≡ true → version_of q.sheet ≡ 2 → (preview₁ q).number ≡ 2)
    × ((e : Explaining) → is_marked e.run.sheet ≡ true → version_of e.run.sheet ≡ 2 → (explain₁ e).run.number ≡ 2)

-- ---- Thumb's POP in version 2: price, `cart_idle` and force flag of each opcode, as an accepted run answers and leaves them

-- record k is an INSTRUCTION (7) of a version 2 sheet, of size 2 (Thumb) or 4 (ARM)
pub record InstructionAt (i : Lent) (k size : ℕ) : Type 0 where
  pub version : version_of i.sheet ≡ 2
  pub there : k < record_count i.sheet
  pub kind : (record_at i.sheet k).kind ≡ 7
  pub sized : (record_at i.sheet k).size ≡ size

-- at 0xBCxx and 0xBDxx POP is found: one cycle more, `cart_idle` one more, and the flag as the disable bug has it
unfoldable pub PopFound : Type 0
PopFound =
    (i : Lent) (o : Outcome) → o ≡ outcome i → o.number ≡ 0 → (k : ℕ) → InstructionAt i k 2
    → let r = record_at i.sheet k in is_pop r.value ≡ true
    → AnsweredWith (state_at i k).board.clock r.address (eqb r.flag 1) (answer_at i k) (state_at i (suc k)).board.clock

-- at 0xBAxx and 0xBBxx no longer: the fetch alone, and no flag
unfoldable pub PopLost : Type 0
PopLost =
    (i : Lent) (o : Outcome) → o ≡ outcome i → o.number ≡ 0 → (k : ℕ) → InstructionAt i k 2
    → let r = record_at i.sheet k in was_pop r.value ≡ true
    → AnsweredWithout (state_at i k).board.clock r.address (answer_at i k) (state_at i (suc k)).board.clock

-- every other opcode, Thumb's (2) and ARM's (4), answers and leaves what it does in version 1
unfoldable pub OtherOpcodes : Type 0
OtherOpcodes =
    (i : Lent) (o : Outcome) → o ≡ outcome i → o.number ≡ 0 → (k size : ℕ) → InstructionAt i k size
    → let r = record_at i.sheet k in Elsewhere (isa_state size) r.value
    → let before = Instruction₁ (isa_state size) r.address r.value (eqb r.flag 1) in
    (answer_at i k ≡ answer₁ (media_of i) (state_at i k) before)
    × (state_at i (suc k) ≡ stepped₁ (media_of i) (state_at i k) before)
