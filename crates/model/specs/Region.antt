-- The memory map: 13 regions, the bus width and the physical size of each.
-- From GBATEK, "GBA Memory Map"; src/bus/region.rs; docs/RULES.md, "What is lent" and "The map".
use Rattle.std.specs.Prelude.{Bool, true, false, ℕ, ◌/◌, eqb, ltb}
use Rattle.std.specs.Prelude.{if◌then◌else◌}
use Rattle.std.specs.Prelude.{Option, Some, None}
use Rattle.model.specs.declared.Region.{Region}
use Rattle.model.specs.declared.Region.TheVariants.{Bios, UnusedLow, Ewram, Iwram, Io, Palette, Vram, Oam}
use Rattle.model.specs.declared.Region.TheVariants.{GamePakRomWs0, GamePakRomWs1, GamePakRomWs2, GamePakSram, UnusedHigh}
use Rattle.model.specs.declared.BusWidth.{BusWidth}
use Rattle.model.specs.declared.BusWidth.TheVariants.{Bits8, Bits16, Bits32}

-- ---- physical sizes (RULES, "What is lent")

abbrev pub bios_size : ℕ
bios_size = 0x4000

abbrev pub ewram_size : ℕ
ewram_size = 0x40000

abbrev pub iwram_size : ℕ
iwram_size = 0x8000

-- the registers, and the word at 0x800
abbrev pub io_size : ℕ
io_size = 0x804

abbrev pub palette_size : ℕ
palette_size = 0x400

abbrev pub vram_size : ℕ
vram_size = 0x18000

abbrev pub oam_size : ℕ
oam_size = 0x400

abbrev pub rom_size : ℕ
rom_size = 0x200_0000

abbrev pub sram_size : ℕ
sram_size = 0x10000

-- ---- decoding

-- the top byte of an address
abbrev pub page : ℕ → ℕ
page a = a / 0x100_0000

-- the region of an address whose page is given; page 0 is split at the end of the BIOS
abbrev pub region_at : ℕ → ℕ → Region
region_at p a =
    if ltb p 0x08 then
    (if eqb p 0x00 then (if ltb a bios_size then Bios else UnusedLow)
    else if eqb p 0x01 then UnusedLow
    else if eqb p 0x02 then Ewram
    else if eqb p 0x03 then Iwram
    else if eqb p 0x04 then Io
    else if eqb p 0x05 then Palette
    else if eqb p 0x06 then Vram
    else Oam)
    else if ltb p 0x0A then GamePakRomWs0
    else if ltb p 0x0C then GamePakRomWs1
    else if ltb p 0x0E then GamePakRomWs2
    else if ltb p 0x10 then GamePakSram
    else UnusedHigh

-- the region of an address (RULES, "The map")
unfoldable pub decode : ℕ → Region
decode a = region_at (page a) a

-- the regions in the order of the map, by which two are compared
abbrev pub region_number : Region → ℕ
region_number Bios = 0
region_number UnusedLow = 1
region_number Ewram = 2
region_number Iwram = 3
region_number Io = 4
region_number Palette = 5
region_number Vram = 6
region_number Oam = 7
region_number GamePakRomWs0 = 8
region_number GamePakRomWs1 = 9
region_number GamePakRomWs2 = 10
region_number GamePakSram = 11
region_number UnusedHigh = 12

abbrev pub same_region : Region → Region → Bool
same_region r s = eqb (region_number r) (region_number s)

-- ---- what a region has

-- the bits of its bus (RULES, "The map")
abbrev pub bus_width : Region → Option BusWidth
bus_width Bios = Some Bits32
bus_width UnusedLow = None
bus_width Ewram = Some Bits16
bus_width Iwram = Some Bits32
bus_width Io = Some Bits32
bus_width Palette = Some Bits16
bus_width Vram = Some Bits16
bus_width Oam = Some Bits32
bus_width GamePakRomWs0 = Some Bits16
bus_width GamePakRomWs1 = Some Bits16
bus_width GamePakRomWs2 = Some Bits16
bus_width GamePakSram = Some Bits8
bus_width UnusedHigh = None

-- the most bytes of its memory (RULES, "The map")
abbrev pub physical_size : Region → Option ℕ
physical_size Bios = Some bios_size
physical_size UnusedLow = None
physical_size Ewram = Some ewram_size
physical_size Iwram = Some iwram_size
physical_size Io = Some io_size
physical_size Palette = Some palette_size
physical_size Vram = Some vram_size
physical_size Oam = Some oam_size
physical_size GamePakRomWs0 = Some rom_size
physical_size GamePakRomWs1 = Some rom_size
physical_size GamePakRomWs2 = Some rom_size
physical_size GamePakSram = Some sram_size
physical_size UnusedHigh = None

abbrev pub is_game_pak_rom : Region → Bool
is_game_pak_rom Bios = false
is_game_pak_rom UnusedLow = false
is_game_pak_rom Ewram = false
is_game_pak_rom Iwram = false
is_game_pak_rom Io = false
is_game_pak_rom Palette = false
is_game_pak_rom Vram = false
is_game_pak_rom Oam = false
is_game_pak_rom GamePakRomWs0 = true
is_game_pak_rom GamePakRomWs1 = true
is_game_pak_rom GamePakRomWs2 = true
is_game_pak_rom GamePakSram = false
is_game_pak_rom UnusedHigh = false
