-- What the loads are handed, as the definitions have it.
use Rattle.std.specs.Prelude.{◌≡◌, ℕ, List, length}
use Rattle.model.specs.Memory.{lengths_sum, target}
use Rattle.model.specs.Load as def
use Rattle.model.specs.Step.{Media}
use Rattle.model.specs.declared.Lengths.{Lengths}
use Rattle.model.specs.declared.Target.{Target}

-- what a run is lent and does not change
abbrev pub media : List ℕ → List ℕ → Lengths → Media
media bios rom l = record { bios = bios; rom = rom; lengths = l }

-- what a load sees, in the order of the fields of the code's bus
abbrev pub bus : ℕ → ℕ → List ℕ → List ℕ → List ℕ → def.Bus
bus pc latch bios rom store = record { bios = bios; rom = rom; store = store; pc = pc; latch = latch }

-- with the lengths by which the store is parted
pub record Parted : Type 0 where
  pub sees : def.Bus
  pub lengths : Lengths

abbrev pub parted : def.Bus → Lengths → Parted
parted b l = record { sees = b; lengths = l }

-- the memory that an address meets, in a store of these lengths
pub record Meets (t : Target) (l : Lengths) (a : ℕ) (store : List ℕ) : Type 0 where
  pub memory : t ≡ target l a
  pub whole : lengths_sum l ≡ length store
