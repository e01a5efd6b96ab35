-- Words of the laws in proofs/Laws/Aligned.antt, as definitions. Those laws:
-- Aligned loads: the bytes of one stand one after the other in one memory, so that it is the number in them, for every size.
use Rattle.std.specs.Prelude.{◌≡◌, false, List, ℕ, ◌+◌, ◌/◌}
use Rattle.model.specs.Base.{byte_at}
use Rattle.model.specs.Memory.{target, is_sram}
use Rattle.model.specs.Load.{Bus, load8}
use Rattle.model.specs.declared.Lengths.{Lengths}

-- repeats
pub record AlignedWord (l : Lengths) (b : Bus) (a : ℕ) (xs : List ℕ) (q : ℕ) : Type 0 where
  pub byte : (j : ℕ) → (a + j) / 4 ≡ a / 4 → load8 l b (a + j) ≡ byte_at xs (q + j)
  pub plain : (j : ℕ) → (a + j) / 4 ≡ a / 4 → is_sram (target l (a + j)) ≡ false
