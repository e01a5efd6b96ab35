-- Words of the laws in proofs/Laws/Landed.antt, as definitions. Those laws:
-- How many bytes of a store land. The number is the length of the list of bytes that land; here is what it says: they are so many
-- different bytes of the lent store, each holds afterwards what was stored, and which they are hangs on lengths, display mode,
-- size and address alone.
use Rattle.std.specs.Prelude.{List, [], ◌∷◌, map, ℕ, ◌-◌, ◌<◌, min}
use Rattle.model.specs.Store.{Put}
use Rattle.model.specs.Laws.Choice.{All}
use Rattle.model.specs.Laws.Stores.{Names}
use Rattle.model.specs.declared.AccessSize.{AccessSize}
use Rattle.model.specs.declared.AccessSize.TheVariants.{Byte, Half, Word}
use Rattle.model.specs.declared.Part.{Part}

-- of n bytes from an index on, those within the memory
abbrev pub inside : Part → ℕ → ℕ → ℕ
inside p i n = min n (p.size - i)

abbrev pub places_of : List Put → List ℕ
places_of ps = map (λ (p : Put). p.place) ps

-- a byte can fill a halfword
abbrev pub widest : AccessSize → ℕ
widest Byte = 2
widest Half = 2
widest Word = 4

-- no two of them are at one place
abbrev pub Apart : List Put → Type 0
Apart [] = Unit {0}
Apart (p ∷ ps) = ¬ (Names p.place ps) × Apart ps

pub record Written (n : ℕ) (ps : List Put) : Type 0 where
  -- each is one of the n bytes
  pub own : All (λ (p : Put). p.place < n) ps
  pub apart : Apart ps
