-- Words of the laws in proofs/Laws/Second.antt, as definitions. Those laws:
-- A run with a second buffer beside the answers, for shares or grounds: with room in it the table says what the run's does, and
-- no row holds exactly when none of the run's does and there is room.
use Rattle.std.specs.Prelude.{ℕ, ◌*◌, ◌≤◌}
use Rattle.model.specs.Sheet.{record_count}
use Rattle.model.specs.Outcome.{Lent}
use Rattle.model.specs.Laws.Refusal.{Acceptable}

-- room for `each` bytes a record
pub record Room (i : Lent) (each second : ℕ) : Type 0 where
  pub fits : each * record_count i.sheet ≤ second

-- what is asked of such a run
pub record AcceptableWith (i : Lent) (each second : ℕ) : Type 0 where
  pub run : Acceptable i
  pub room : Room i each second
