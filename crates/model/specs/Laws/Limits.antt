-- Words of the laws in proofs/Laws/Limits.antt, as definitions. Those laws:
-- What the records of a sheet bound: I + A + D and 19 I + 18 A + D for the total, and 32 bits for each step's cycles.
use Rattle.std.specs.Prelude.{◌≡◌, false, ◌||◌, ℕ, eqb}
use Rattle.std.specs.Prelude.{if◌then◌else◌}
use Rattle.model.specs.Base.{bit}
use Rattle.model.specs.Sheet.{is_block}
use Rattle.model.specs.Sheet.{faulty}
use Rattle.model.specs.Laws.Bounds.{Weight, weighing}
use Rattle.model.specs.declared.SheetRecord.{SheetRecord}

-- what a record adds to I, A and D, by its kind and value
abbrev pub weight_of : ℕ → ℕ → Weight
weight_of k v =
    weighing (bit (eqb k 7)) (if is_block k then v else bit (eqb k 1 || eqb k 2)) (if eqb k 4 then v else 0)

abbrev pub record_weight : SheetRecord → Weight
record_weight r = weight_of r.kind r.value

-- a record without fault: if it is a block, it has 1 to 16 words
abbrev pub Faultless : SheetRecord → Type 0
Faultless r = faulty r ≡ false
