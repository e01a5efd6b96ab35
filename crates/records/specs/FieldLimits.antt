-- The greatest flag, address and value of each kind, and the least value, as `least_faulty` has them in its table, behind the
-- sizes.
use Rattle.std.specs.Prelude.{List, [], ◌∷◌, ℕ, zero, suc, eqb}
use Rattle.std.specs.Prelude.{if◌then◌else◌}
use Rattle.model.specs.Sheet.{max_words, is_block, uses_flag, uses_address, uses_value}

-- the row of a kind
abbrev pub limits_of : ℕ → List ℕ
limits_of kind =
    (if uses_flag kind then 1 else 0)
    ∷ (if uses_address kind then 0xFFFF_FFFF else 0)
    ∷ (if uses_value kind then (if eqb kind 3 then 0xFFFF else if is_block kind then max_words else 0xFFFF_FFFF) else 0)
    ∷ (if is_block kind then 1 else 0)
    ∷ []

-- the rows of n kinds from kind k on
unfoldable pub limits_from : ℕ → ℕ → List (List ℕ)
limits_from k zero = []
limits_from k (suc n) = limits_of k ∷ limits_from (suc k) n

-- kinds 0 to 11. There is no kind 0, and its row allows nothing
abbrev pub kind_limits : List (List ℕ)
kind_limits = limits_from 0 12
