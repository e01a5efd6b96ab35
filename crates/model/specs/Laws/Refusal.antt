-- Words of the laws in proofs/Laws/Refusal.antt, as definitions. Those laws:
-- The table of docs/RULES.md, "What a run is refused with", as theorems: each number exactly when its row's condition holds and
-- no earlier one does; the index; and what a refusal leaves.
use Rattle.std.specs.Prelude.{◌≡◌, Bool, true, false, ◌≢◌, List, ℕ, ◌*◌, ◌≤◌, ◌<◌, min, length}
use Rattle.model.specs.Base.{Exactly}
use Rattle.model.specs.Sheet.{latest_version, knows, is_marked, version_of, is_shaped, record_count}
use Rattle.model.specs.Sheet.{record_at, kind_fault, field_fault, faulty}
use Rattle.model.specs.BoardBytes.{answer_length, sound}
use Rattle.model.specs.Outcome.{Lent, Outcome, sizes_fit, rows}
use Rattle.model.specs.Laws.Rows.{Decides, NoneHolds}
use Rattle.model.specs.declared.SheetRecord.{SheetRecord}

-- record k is found by a test, and none before it is
pub record FirstFound (f : SheetRecord → Bool) (s : List ℕ) (k : ℕ) : Type 0 where
  pub within : k < record_count s
  pub there : f (record_at s k) ≡ true
  pub before : (j : ℕ) → j < k → f (record_at s j) ≡ false

abbrev pub NoneFound : (SheetRecord → Bool) → List ℕ → Type 0
NoneFound f s = (k : ℕ) → k < record_count s → f (record_at s k) ≡ false

-- record k is faulty and none before it is
abbrev pub FirstFault : List ℕ → ℕ → Type 0
FirstFault s k = FirstFound faulty s k

abbrev pub NoFault : List ℕ → Type 0
NoFault s = NoneFound faulty s

-- a number is that of the first record that a test finds, or of records in all where it finds none
pub record FirstBy (f : SheetRecord → Bool) (s : List ℕ) (n : ℕ) : Type 0 where
  pub found : n < record_count s → FirstFound f s n
  pub none : record_count s ≤ n → NoneFound f s
  pub most : n ≤ record_count s

-- a number is the lower of two, the first record with a fault of kind or size and the first with one of the other fields,
-- as two walks over the records find them
pub record LowerOfTwo (s : List ℕ) (k : ℕ) : Type 0 where
  pub kinds : ℕ
  pub fields : ℕ
  pub first_kind : FirstBy kind_fault s kinds
  pub first_field : FirstBy field_fault s fields
  pub lower : k ≡ min kinds fields

-- number r exactly when the condition of row r holds and no earlier one does; 0 exactly when none does
pub record Table (i : Lent) (o : Outcome) : Type 0 where
  pub mark : Exactly (o.number ≡ 1) (Decides (rows i) 0)
  pub version : Exactly (o.number ≡ 2) (Decides (rows i) 1)
  pub shape : Exactly (o.number ≡ 3) (Decides (rows i) 2)
  pub lengths : Exactly (o.number ≡ 4) (Decides (rows i) 3)
  pub board : Exactly (o.number ≡ 5) (Decides (rows i) 4)
  pub answers : Exactly (o.number ≡ 6) (Decides (rows i) 5)
  pub records : Exactly (o.number ≡ 7) (Decides (rows i) 6)
  pub none : Exactly (o.number ≡ 0) (NoneHolds (rows i))

-- 0 for 1 to 6, the first faulty record for 7, the number of records for 0
pub record Index (sheet : List ℕ) (number index : ℕ) : Type 0 where
  pub refused : number ≢ 0 → number ≢ 7 → index ≡ 0
  pub faulty_record : number ≡ 7 → FirstFault sheet index
  pub accepted : number ≡ 0 → index ≡ record_count sheet

-- no condition of the table holds
pub record Acceptable (i : Lent) : Type 0 where
  pub marked : is_marked i.sheet ≡ true
  pub version : knows latest_version (version_of i.sheet) ≡ true
  pub shaped : is_shaped i.sheet ≡ true
  pub lengths : sizes_fit i.lengths (length i.store) (length i.bios) (length i.rom) ≡ true
  pub board : sound i.board ≡ true
  pub answers : answer_length * record_count i.sheet ≤ length i.answers
  pub records : NoFault i.sheet

-- all is as lent
pub record Untouched (i : Lent) (o : Outcome) : Type 0 where
  pub total : o.total ≡ 0
  pub board : o.board ≡ i.board
  pub store : o.store ≡ i.store
  pub answers : o.answers ≡ i.answers
