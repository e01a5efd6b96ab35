-- Words of the laws in proofs/Laws/Rows.antt, as definitions. Those laws:
-- Tables of refusals, whatever their rows: the verdict is that of the first row that holds. A table whose numbers rise is
-- decided by row k exactly when the verdict has row k's number, and no row holds exactly when it has number 0.
use Rattle.std.specs.Prelude.{◌≡◌, true, false, List, [], ◌∷◌, ℕ, zero, suc, ◌≤◌, ◌<◌, length}
use Rattle.std.specs.Result.{result_and}
use Rattle.model.specs.Base.{Exactly}
use Rattle.model.specs.Outcome.{Row, refusal_number}
use Rattle.model.specs.declared.Refusal.{Refusal}
use Rattle.model.specs.declared.Refusal.TheVariants.{BadMark}
use Rattle.model.specs.Verdict.{Verdict}

-- row k holds, and no row before it does
abbrev pub Decides : List Row → ℕ → Type 0
Decides [] k = ⊥
Decides (r ∷ rs) zero = r.holds ≡ true
Decides (r ∷ rs) (suc k) = (r.holds ≡ false) × Decides rs k

abbrev pub NoneHolds : List Row → Type 0
NoneHolds [] = Unit {0}
NoneHolds (r ∷ rs) = (r.holds ≡ false) × NoneHolds rs

-- the refusal of row k, of a table that has one
abbrev pub refusal_at : List Row → ℕ → Refusal
refusal_at [] k = BadMark
refusal_at (r ∷ rs) zero = r.refusal
refusal_at (r ∷ rs) (suc k) = refusal_at rs k

abbrev pub number_at : List Row → ℕ → ℕ
number_at rs k = refusal_number (refusal_at rs k)

-- the numbers rise, from above n
abbrev pub Rising : ℕ → List Row → Type 0
Rising n [] = Unit {0}
Rising n (r ∷ rs) = (n < refusal_number r.refusal) × Rising (refusal_number r.refusal) rs

-- a table in two parts: std's `and`
abbrev pub or_else_of : Verdict → Verdict → Verdict
or_else_of v w = result_and v w

-- no number of the table is above n
abbrev pub UpTo : ℕ → List Row → Type 0
UpTo n [] = Unit {0}
UpTo n (r ∷ rs) = (refusal_number r.refusal ≤ n) × UpTo n rs

-- exactly when none holds
pub record TableOf (rs : List Row) (number : ℕ) : Type 0 where
  pub row : (k : ℕ) → k < length rs → Exactly (number ≡ number_at rs k) (Decides rs k)
  pub none : Exactly (number ≡ 0) (NoneHolds rs)
