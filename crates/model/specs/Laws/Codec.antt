-- Words of the laws in proofs/Laws/Codec.antt, as definitions. Those laws:
-- What is written as bytes is read back, and what was read is written back: for a number of any width, then for a board.
-- `decode_encode` and `encode_decode` say it of a board; what a sound board asks of its bytes besides (length, zero bytes,
-- flags) is here too.
use Rattle.std.specs.Prelude.{◌≡◌, get_or, replicate}
use mathlib.Core.List.{List, [], ◌∷◌, ◌++◌}
use Prim.Native.Nat.{ℕ, ◌+◌, ◌^◌, ◌≤◌, ◌<◌}
use Rattle.std.proofs.Math.ListN.{length}
use Rattle.model.specs.Base.{byte_at, number, Field, field}
use Rattle.model.specs.Waitcnt.{prefetch_enable}
use Rattle.model.specs.BoardBytes.{board_length}
use Rattle.model.specs.declared.Clock.{Clock}
use Rattle.model.specs.declared.Contents.{Contents}
use Rattle.model.specs.declared.Board.{Board}

-- fields of these widths, read one after the other from place i on
abbrev pub fields_at : List ℕ → List ℕ → ℕ → List Field
fields_at [] b i = []
fields_at (w ∷ ws) b i = field w (number w b i) ∷ fields_at ws b (i + w)

pub record ClockFits (c : Clock) : Type 0 where
  pub waitcnt_fits : c.waitcnt < 2 ^ 16
  pub head_fits_law : c.prefetch.head < 256
  pub count_fits : c.prefetch.count < 256
  pub wait_left_fits : c.prefetch.wait_left < 2 ^ 32
  pub next_addr_fits : c.prefetch.next_addr < 2 ^ 32
  pub head_addr_fits : c.prefetch.head_addr < 2 ^ 32
  pub switch : c.prefetch.enabled ≡ prefetch_enable c.waitcnt
  pub prev_addr_fits : c.previous.addr < 2 ^ 32
  pub prev_size_fits : c.previous.size < 256

pub record HalvesFit (h : List ℕ) : Type 0 where
  pub eight : length h ≡ 8
  pub halves_fit : (i : ℕ) → get_or h i 0 < 0x1_0000

pub record ContentsFits (d : Contents) : Type 0 where
  pub pc_fits : d.cpu_pc < 2 ^ 32
  pub opcode_fits : d.last_bios_opcode < 2 ^ 32
  pub vram_fits : d.vram_write_count < 2 ^ 64
  pub oam_fits : d.oam_write_count < 2 ^ 64
  pub palette_fits : d.palette_write_count < 2 ^ 64

pub record Fits (b : Board) : Type 0 where
  pub clock_fits : ClockFits b.clock
  pub halves_fit : HalvesFit b.halves
  pub contents_fits : ContentsFits b.contents

-- what that needs of soundness: the bytes that a board does not keep whole
pub record WellFormed (b : List ℕ) : Type 0 where
  pub size : length b ≡ board_length
  pub zero₇ : byte_at b 7 ≡ 0
  pub zero₇₃ : number 7 b 73 ≡ 0
  pub flag₂ : byte_at b 2 ≤ 1
  pub flag₅ : byte_at b 5 ≤ 1
  pub flag₆ : byte_at b 6 ≤ 1

-- the widths of bytes 8 to 71, and of all
abbrev pub inner : List ℕ
inner = 4 ∷ 4 ∷ 4 ∷ replicate 8 2 ++ (4 ∷ 4 ∷ 8 ∷ 8 ∷ 8 ∷ 4 ∷ [])

abbrev pub widths : List ℕ
widths = 2 ∷ replicate 6 1 ++ (inner ++ (1 ∷ 7 ∷ []))
