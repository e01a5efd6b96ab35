-- Words of the laws in proofs/Laws/Kinds.antt, as definitions. Those laws:
-- A claim about the step of a record, kind by kind: what is shown of each kind's step holds of every record's.
use Rattle.std.specs.Prelude.{◌≡◌, false, ℕ, eqb}

-- none of the kinds 1 to 8, 10 and 11, so that the step is LATCH
pub record Other (kind : ℕ) : Type 0 where
  pub read : eqb kind 1 ≡ false
  pub write : eqb kind 2 ≡ false
  pub waitcnt : eqb kind 3 ≡ false
  pub idle : eqb kind 4 ≡ false
  pub fetch : eqb kind 5 ≡ false
  pub restart : eqb kind 6 ≡ false
  pub instruction : eqb kind 7 ≡ false
  pub pc : eqb kind 8 ≡ false
  pub block_read : eqb kind 10 ≡ false
  pub block_write : eqb kind 11 ≡ false
