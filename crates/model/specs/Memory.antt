-- The seven memories of the lent store, and the memory that an address meets.
-- From GBATEK, "GBA Memory Map"; src/bus/mod.rs (`Bus`); docs/RULES.md, "What is lent" and "The map".
use Rattle.std.specs.Prelude.{Bool, true, false, List, ℕ, ◌+◌, ltb}
use Rattle.std.specs.Prelude.{if◌then◌else◌}
use Rattle.std.specs.Prelude.{Option, Some, None}
use Rattle.model.specs.Base.{byte_at}
use Rattle.model.specs.Region.{decode}
use Rattle.model.specs.Mirror.{ewram_offset, iwram_offset, io_offset, palette_offset, vram_offset, oam_offset, sram_offset}
use Rattle.model.specs.declared.Region.{Region}
use Rattle.model.specs.declared.Region.TheVariants.{Bios, UnusedLow, Ewram, Iwram, Io, Palette, Vram, Oam}
use Rattle.model.specs.declared.Region.TheVariants.{GamePakRomWs0, GamePakRomWs1, GamePakRomWs2, GamePakSram, UnusedHigh}
use Rattle.model.specs.declared.Lengths.{Lengths}
use Rattle.model.specs.declared.Part.{Part}
use Rattle.model.specs.declared.VideoMemory.TheVariants.{PaletteRam, VideoRam, ObjectRam}
use Rattle.model.specs.declared.Target.{Target}
use Rattle.model.specs.declared.Target.TheVariants.{Unused, SystemRom, GamePakRom, Plain, Video, Sram}

-- ---- the seven memories are parts of the lent store, one after the other (RULES, "What is lent")

-- the part of `n` bytes that follows another
abbrev pub after : Part → ℕ → Part
after p n = record { base = p.base + p.size; size = n }

abbrev pub ewram_part : Lengths → Part
ewram_part l = record { base = 0; size = l.ewram }

abbrev pub iwram_part : Lengths → Part
iwram_part l = after (ewram_part l) l.iwram

abbrev pub io_part : Lengths → Part
io_part l = after (iwram_part l) l.io

abbrev pub palette_part : Lengths → Part
palette_part l = after (io_part l) l.palette

abbrev pub vram_part : Lengths → Part
vram_part l = after (palette_part l) l.vram

abbrev pub oam_part : Lengths → Part
oam_part l = after (vram_part l) l.oam

abbrev pub sram_part : Lengths → Part
sram_part l = after (oam_part l) l.sram

-- the seven lengths added up (RULES, "What is lent")
abbrev pub lengths_sum : Lengths → ℕ
lengths_sum l = (sram_part l).base + l.sram

-- no memory at all
abbrev pub no_lengths : Lengths
no_lengths = record { ewram = 0; iwram = 0; io = 0; palette = 0; vram = 0; oam = 0; sram = 0 }

-- a byte of a memory; 0 past its length
unfoldable pub byte_in : List ℕ → Part → ℕ → ℕ
byte_in s p i = if ltb i p.size then byte_at s (p.base + i) else 0

-- ---- the memory that an address meets, and the place in it

-- I/O has gaps
abbrev pub io_target : Part → Option ℕ → Target
io_target p (Some i) = Plain p i
io_target p None = Unused

abbrev pub target_in : Lengths → ℕ → Region → Target
target_in l a Bios = SystemRom
target_in l a UnusedLow = Unused
target_in l a Ewram = Plain (ewram_part l) (ewram_offset a)
target_in l a Iwram = Plain (iwram_part l) (iwram_offset a)
target_in l a Io = io_target (io_part l) (io_offset a)
target_in l a Palette = Video PaletteRam (palette_part l) (palette_offset a)
target_in l a Vram = Video VideoRam (vram_part l) (vram_offset a)
target_in l a Oam = Video ObjectRam (oam_part l) (oam_offset a)
target_in l a GamePakRomWs0 = GamePakRom
target_in l a GamePakRomWs1 = GamePakRom
target_in l a GamePakRomWs2 = GamePakRom
target_in l a GamePakSram = Sram (sram_part l) (sram_offset a)
target_in l a UnusedHigh = Unused

-- by the region of the address (RULES, "The map")
unfoldable pub target : Lengths → ℕ → Target
target l a = target_in l a (decode a)

-- the bus of 8 bits
abbrev pub is_sram : Target → Bool
is_sram Unused = false
is_sram SystemRom = false
is_sram GamePakRom = false
is_sram (Plain p i) = false
is_sram (Video m p i) = false
is_sram (Sram p i) = true
