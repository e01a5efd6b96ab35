-- The same for every memory: two sheets and two boards that are alike, the answers that every accepted run gives, the limits of
-- its total, and the columns that two such runs agree in. The claim is stated once, over outcomes.
-- From docs/RULES.md, "Alike sheets and boards", "What two runs have in common" and "The bounds of a total".
use Rattle.std.specs.Prelude.{◌≡◌, ◌≢◌, ◌||◌, List, [], ◌∷◌, map, ℕ, zero, suc, ◌+◌, ◌*◌, ◌≤◌, ◌<◌, take, drop, eqb}
use Rattle.std.specs.Prelude.{if◌then◌else◌}
use Rattle.model.specs.Base.{bit, sum, byte_at, number}
use Rattle.model.specs.Step.{State, run, answer}
use Rattle.model.specs.Sheet.{header_length, is_block, record_at, record_count, records_of, step_of, steps_of}
use Rattle.model.specs.BoardBytes.{board_length, answer_length, answer_bytes}
use Rattle.model.specs.Outcome.{Lent, LentBytes, Outcome, media_of, first_state}
use Rattle.model.specs.declared.Answer.{Answer}
use Rattle.model.specs.declared.SheetRecord.{SheetRecord}

-- ---- alike

-- records agree in kind, size, flag and address, and, but for WRITE and LATCH, in value
pub record AlikeRecords (r s : SheetRecord) : Type 0 where
  pub kind : r.kind ≡ s.kind
  pub size : r.size ≡ s.size
  pub flag : r.flag ≡ s.flag
  pub address : r.address ≡ s.address
  pub value : r.kind ≢ 2 → r.kind ≢ 9 → r.value ≡ s.value

-- sheets agree in bytes 0 to 7, and their records are alike (RULES, "Alike sheets and boards")
pub record AlikeSheets (s t : List ℕ) : Type 0 where
  pub header : (i : ℕ) → i < header_length → byte_at s i ≡ byte_at t i
  pub records : (k : ℕ) → k < record_count s → AlikeRecords (record_at s k) (record_at t k)

-- boards agree outside bytes 20 to 35 and 40 to 67 (RULES, "Alike sheets and boards")
abbrev pub AlikeBoards : List ℕ → List ℕ → Type 0
AlikeBoards b c = (i : ℕ) → i < board_length → ¬ ((20 ≤ i) × (i ≤ 35)) → ¬ ((40 ≤ i) × (i ≤ 67)) → byte_at b i ≡ byte_at c i

-- ---- counted from the records of a sheet

-- I: the INSTRUCTION records
abbrev pub instructions_in : List SheetRecord → ℕ
instructions_in rs = sum (map (λ (r : SheetRecord). bit (eqb r.kind 7)) rs)

-- A: the READ and WRITE records, and each word of a block
abbrev pub accesses_of : SheetRecord → ℕ
accesses_of r = if is_block r.kind then r.value else bit (eqb r.kind 1 || eqb r.kind 2)

abbrev pub accesses_in : List SheetRecord → ℕ
accesses_in rs = sum (map accesses_of rs)

-- D: the values of the IDLE records
abbrev pub idle_cycles_in : List SheetRecord → ℕ
idle_cycles_in rs = sum (map (λ (r : SheetRecord). if eqb r.kind 4 then r.value else 0) rs)

-- I + A + D ≤ total ≤ 19 I + 18 A + D (RULES, "The bounds of a total")
pub record Limits (rs : List SheetRecord) (n : ℕ) : Type 0 where
  pub least : instructions_in rs + accesses_in rs + idle_cycles_in rs ≤ n
  pub most : n ≤ 19 * instructions_in rs + 18 * accesses_in rs + idle_cycles_in rs

-- ---- the claim

-- the state that the first k steps leave
unfoldable pub state_at : Lent → ℕ → State
state_at i k = (run (media_of i) (first_state i) (take k (steps_of i.sheet))).state

-- answer k as the definitions have it: that of step k, in that state
unfoldable pub answer_at : Lent → ℕ → Answer
answer_at i k = answer (media_of i) (state_at i k) (step_of (record_at i.sheet k))

-- where answer k begins
abbrev pub answer_start : ℕ → ℕ
answer_start k = answer_length * k

-- the numbers in the bytes of answer k are the fields of an answer
pub record ReadBack (b : List ℕ) (k : ℕ) (x : Answer) : Type 0 where
  pub value : number 4 b (answer_start k) ≡ x.value
  pub cycles : number 4 b (answer_start k + 4) ≡ x.cycles
  pub hits : byte_at b (answer_start k + 8) ≡ x.hits
  pub count : byte_at b (answer_start k + 9) ≡ x.count
  pub force : byte_at b (answer_start k + 10) ≡ bit x.force
  pub zero_byte_law : byte_at b (answer_start k + 11) ≡ 0

-- the cycles of n answers from number k on, as they stand in the lent answers
abbrev pub cycles_from : List ℕ → ℕ → ℕ → List ℕ
cycles_from b k zero = []
cycles_from b k (suc n) = number 4 b (answer_start k + 4) ∷ cycles_from b (suc k) n

-- what every accepted run has by itself
pub record Accounts (i : Lent) (o : Outcome) : Type 0 where
  -- the 12 bytes of each answer, and the numbers in them
  pub bytes : (k : ℕ) → k < record_count i.sheet
      → take answer_length (drop (answer_start k) o.answers) ≡ answer_bytes (answer_at i k)
  pub fields : LentBytes i → (k : ℕ) → k < record_count i.sheet → ReadBack o.answers k (answer_at i k)
  -- the total is the sum of the cycles in the answers
  pub summed : LentBytes i → o.total ≡ sum (cycles_from o.answers 0 (record_count i.sheet))
  pub limits : Limits (records_of i.sheet) o.total

-- the bytes of an answer that are compared: 4 to 7 (cycles), 9 (prefetch count) and 10 (force flag) of every step, 8 (hits) of
-- every step but WRITE (2) and BLOCK WRITE (11), whose hits are the bytes that landed
pub record Compared (r : SheetRecord) (at : ℕ) : Type 0 where
  pub from : 4 ≤ at
  pub to : at ≤ 10
  pub but_landed : at ≡ 8 → r.kind ≢ 2
  pub but_block : at ≡ 8 → r.kind ≢ 11

-- what two accepted runs have whose sheets and first boards are alike (RULES, "What two runs have in common")
pub record Demand3 (i j : Lent) (o p : Outcome) : Type 0 where
  pub columns : (k at : ℕ) → k < record_count i.sheet → Compared (record_at i.sheet k) at
      → byte_at o.answers (answer_start k + at) ≡ byte_at p.answers (answer_start k + at)
  pub totals : o.total ≡ p.total
  pub one : Accounts i o
  pub other : Accounts j p
