-- What becomes of a store to video memory, by what it meets there and by its size.
-- From GBATEK, "GBA Unpredictable Things" (8-bit writes to video memory); src/bus/video.rs.
use Rattle.std.specs.Prelude.{Bool, true, false, ℕ, ◌*◌, ltb}
use Rattle.std.specs.Prelude.{if◌then◌else◌}
use Rattle.std.specs.Prelude.{Option, Some, None}
use Rattle.model.specs.Region.{vram_size}
use Rattle.model.specs.Video.{is_obj_vram}
use Rattle.model.specs.declared.AccessSize.{AccessSize}
use Rattle.model.specs.declared.AccessSize.TheVariants.{Byte, Half, Word}
use Rattle.video.specs.declared.VideoTarget.{VideoTarget}
use Rattle.video.specs.declared.VideoTarget.TheVariants.{Palette, Oam, BgVram, ObjVram}
use Rattle.video.specs.declared.VideoWriteAction.{VideoWriteAction}
use Rattle.video.specs.declared.VideoWriteAction.TheVariants.{Store, ExpandByteToHalfword, Ignore, Reject}

-- VRAM holds the background's data and the objects' tiles
abbrev pub vram_target : Bool → VideoTarget
vram_target true = ObjVram
vram_target false = BgVram

-- which of them stands at a place of its 96 KiB
unfoldable pub vram_class : ℕ → ℕ → Option VideoTarget
vram_class offset mode = if ltb offset vram_size then Some (vram_target (is_obj_vram mode offset)) else None

-- a byte in both halves of a halfword
abbrev pub doubled : ℕ → ℕ
doubled b = 0x0101 * b

-- a byte store fills its halfword in palette and background VRAM, and is dropped in object VRAM and OAM
abbrev pub fills_halfword : VideoTarget → Bool
fills_halfword Palette = true
fills_halfword Oam = false
fills_halfword BgVram = true
fills_halfword ObjVram = false

abbrev pub byte_action : VideoTarget → ℕ → VideoWriteAction
byte_action t b = if fills_halfword t then ExpandByteToHalfword (doubled b) else Ignore

-- all video memory takes 16 and 32 bits
abbrev pub is_wide : AccessSize → Bool
is_wide Byte = false
is_wide Half = true
is_wide Word = true

abbrev pub wide_action : AccessSize → VideoWriteAction
wide_action z = if is_wide z then Store else Reject

abbrev pub video_action : VideoTarget → AccessSize → ℕ → VideoWriteAction
video_action t Byte b = byte_action t b
video_action t Half b = wide_action Half
video_action t Word b = wide_action Word
