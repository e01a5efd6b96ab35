-- What the shape of a sheet says of its numbers: what the type of an examined sheet holds.
use Rattle.std.specs.Prelude.{◌≡◌, true, ℕ, List, length, ◌≤◌, eqb, leb}
use Rattle.std.proofs.Common.{eqb-true, leb-true}
use Rattle.model.specs.Sheet.{is_shaped, max_records, record_start, record_count}
use Rattle.model.proofs.Laws.Choice.{parts}

-- it has not too many records, and ends behind the last of them
pub record Shaped (s : List ℕ) : Type 0 where
  pub few : record_count s ≤ max_records
  pub long : length s ≡ record_start (record_count s)

pub shaped : (s : List ℕ) → is_shaped s ≡ true → Shaped s
shaped s e =
    let few : leb (record_count s) max_records ≡ true = search parts in
    let long : eqb (length s) (record_start (record_count s)) ≡ true = search parts in
    record { few = leb-true (record_count s) max_records few; long = eqb-true (length s) (record_start (record_count s)) long }
