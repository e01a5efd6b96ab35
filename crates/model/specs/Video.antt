-- Video memory: which byte stores fill a halfword, and which are dropped.
-- From GBATEK, "GBA Unpredictable Things" (8-bit writes to video memory) and "LCD VRAM Overview"; src/bus/video.rs;
-- docs/RULES.md, "Stores".
use Rattle.std.specs.Prelude.{Bool, true, false, not, ℕ, leb}
use Rattle.std.specs.Prelude.{if◌then◌else◌}
use Rattle.model.specs.declared.VideoMemory.{VideoMemory}
use Rattle.model.specs.declared.VideoMemory.TheVariants.{PaletteRam, VideoRam, ObjectRam}

-- where object VRAM starts, by the display mode; departure: GBATEK forbids modes 6 and 7, which act as 3 to 5 here
unfoldable pub obj_vram_base : ℕ → ℕ
obj_vram_base mode = if leb mode 2 then 0x10000 else 0x14000

unfoldable pub is_obj_vram : ℕ → ℕ → Bool
is_obj_vram mode offset = leb (obj_vram_base mode) offset

-- a byte store fills its halfword in palette and background VRAM, and is dropped in object VRAM and OAM (RULES, "Stores")
abbrev pub fills : ℕ → VideoMemory → ℕ → Bool
fills mode PaletteRam i = true
fills mode VideoRam i = not (is_obj_vram mode i)
fills mode ObjectRam i = false
