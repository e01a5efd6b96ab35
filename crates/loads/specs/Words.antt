-- The word that stands at a place, if all four bytes of it do; and where there is none to be found.
use Rattle.std.specs.Prelude.{ℕ, ◌+◌, Bool, true, false, List, length, nat_lt, Option, Some, None}
use Rattle.std.specs.Prelude.{if◌then◌else◌}
use Rattle.std.specs.Prelude.{Option, Some, None}
use Rattle.model.specs.Base.{number}
use Rattle.model.specs.Mirror.{rom_offset}
use Rattle.model.specs.declared.Part.{Part}
use Rattle.model.specs.declared.Target.{Target}
use Rattle.model.specs.declared.Target.TheVariants.{Unused, SystemRom, GamePakRom, Plain, Video, Sram}

-- at index i of n bytes, which begin at a place of a list
unfoldable pub word_at : List ℕ → ℕ → ℕ → ℕ → Option ℕ
word_at xs base n i = if nat_lt n (i + 4) then None else Some (number 4 xs (base + i))

abbrev pub word_in : List ℕ → Part → ℕ → Option ℕ
word_in s p i = word_at s p.base p.size i

-- by the memory that an address meets
abbrev pub word_from : List ℕ → List ℕ → ℕ → Target → Option ℕ
word_from rom s a Unused = None
word_from rom s a SystemRom = None
word_from rom s a GamePakRom = word_at rom 0 (length rom) (rom_offset a)
word_from rom s a (Plain p i) = word_in s p i
word_from rom s a (Video m p i) = word_in s p i
word_from rom s a (Sram p i) = None

-- without a store and a ROM a load finds zeros, but for the latch of the BIOS and the 0xFF of SRAM
abbrev pub reads_zero : Target → Bool
reads_zero Unused = true
reads_zero SystemRom = false
reads_zero GamePakRom = true
reads_zero (Plain p i) = true
reads_zero (Video m p i) = true
reads_zero (Sram p i) = false
