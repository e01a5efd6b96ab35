-- Words of the laws in proofs/Laws/Stores.antt, as definitions. Those laws:
-- Rules of stores, shown once for all sizes: bytes of the store that no rule names stay, what SRAM drops, how many halfwords
-- count; and wide stores by their parts, as the Rust does them.
use Rattle.std.specs.Prelude.{◌≡◌, Bool, true, false, ◌⊎◌, List, [], ◌∷◌, ℕ}
use Rattle.model.specs.Store.{Put}
use Rattle.model.specs.declared.Target.{Target}
use Rattle.model.specs.declared.Target.TheVariants.{Unused, SystemRom, GamePakRom, Plain, Video, Sram}

abbrev pub Names : ℕ → List Put → Type 0
Names i [] = ⊥
Names i (p ∷ ps) = (p.place ≡ i) ⊎ Names i ps

-- neither video memory nor SRAM
abbrev pub by_bytes : Target → Bool
by_bytes Unused = true
by_bytes SystemRom = true
by_bytes GamePakRom = true
by_bytes (Plain p i) = true
by_bytes (Video m p i) = false
by_bytes (Sram p i) = false
