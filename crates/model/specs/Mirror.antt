-- The place of an address in its memory.
-- From GBATEK, "GBA Memory Map" and "GBA Unpredictable Things" (mirrors); src/bus/mirror.rs; docs/RULES.md,
-- "The map".
use Rattle.std.specs.Prelude.{not, ◌&&◌, ℕ, ◌+◌, ◌-◌, ◌%◌, eqb, ltb, leb}
use Rattle.std.specs.Prelude.{if◌then◌else◌}
use Rattle.std.specs.Prelude.{Option, Some, None}
use Rattle.model.specs.Region.{page, bios_size, ewram_size, iwram_size, palette_size, oam_size, rom_size, sram_size}

-- each memory has an offset of its own (RULES, "The map")
abbrev pub ewram_offset : ℕ → ℕ
ewram_offset a = a % ewram_size

abbrev pub iwram_offset : ℕ → ℕ
iwram_offset a = a % iwram_size

abbrev pub palette_offset : ℕ → ℕ
palette_offset a = a % palette_size

abbrev pub oam_offset : ℕ → ℕ
oam_offset a = a % oam_size

-- 128 KiB repeat over the page: 64, 32, and the same 32 again (RULES, "The map")
unfoldable pub vram_offset : ℕ → ℕ
vram_offset a = if ltb (a % 0x20000) 0x10000 then a % 0x20000 else 0x10000 + a % 0x8000

-- the three windows show one image (RULES, "The map")
abbrev pub rom_offset : ℕ → ℕ
rom_offset a = a % rom_size

abbrev pub sram_offset : ℕ → ℕ
sram_offset a = a % sram_size

-- the place in a chip of 32 KiB, which the bus doesn't use: it takes the chip's own length
abbrev pub sram_chip_offset : ℕ → ℕ
sram_chip_offset a = a % 0x8000

-- the word at 0x800 repeats every 64 KiB of page 4; the other registers stand once, at 0x04000000 to 0x040003FF
-- (RULES, "The map")
unfoldable pub io_offset : ℕ → Option ℕ
io_offset a =
    if not (eqb (page a) 0x04) then None
    else if leb 0x800 (a % 0x10000) && ltb (a % 0x10000) 0x804 then Some (a % 0x10000)
    else if ltb a 0x0400_0400 then Some (a - 0x0400_0000)
    else None

unfoldable pub bios_offset : ℕ → Option ℕ
bios_offset a = if ltb a bios_size then Some a else None
