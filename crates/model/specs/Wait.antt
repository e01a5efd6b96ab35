-- Access kinds, ROM windows, and the cycles of one access.
-- From GBATEK, "GBA Memory Map" (access times) and "GBA System Control" (waitstates); src/bus/wait.rs; docs/RULES.md,
-- "The cycles of a halfword from ROM" and "Sequential accesses".
use Rattle.std.specs.Prelude.{Bool, true, false, not, ◌&&◌, [], ℕ, ◌+◌, ◌%◌, ◌^◌, get_or, eqb, ltb}
use Rattle.std.specs.Prelude.{if◌then◌else◌}
use Rattle.std.specs.Prelude.{Option, Some, None, is_some}
use Rattle.model.specs.Base.{further, lowered}
use Rattle.model.specs.Region.{page}
use Rattle.model.specs.Waitcnt.{Waits}
use Rattle.model.specs.declared.RomWindow.{RomWindow}
use Rattle.model.specs.declared.RomWindow.TheVariants.{Ws0, Ws1, Ws2}
use Rattle.model.specs.declared.AccessKind.{AccessKind}
use Rattle.model.specs.declared.AccessKind.TheVariants.{Nonseq, Seq}
use Rattle.model.specs.declared.AccessSize.{AccessSize}
use Rattle.model.specs.declared.AccessSize.TheVariants.{Byte, Half, Word}

abbrev pub size_bytes_of : AccessSize → ℕ
size_bytes_of Byte = 1
size_bytes_of Half = 2
size_bytes_of Word = 4

-- the power of two that they are
abbrev pub size_log2 : AccessSize → ℕ
size_log2 Byte = 0
size_log2 Half = 1
size_log2 Word = 2

-- back from the bytes, where they are 1, 2 or 4
unfoldable pub access_size_of : ℕ → AccessSize
access_size_of bytes = if eqb bytes 1 then Byte else if eqb bytes 2 then Half else Word

-- the 32 bits of an address, lowered to a multiple of a size
unfoldable pub aligned : AccessSize → ℕ → ℕ
aligned z a = lowered (size_bytes_of z) (a % 2 ^ 32)

-- ---- windows

-- by the page: 0x08 and 0x09, 0x0A and 0x0B, 0x0C and 0x0D
abbrev pub window_at : ℕ → Option RomWindow
window_at p =
    if ltb p 0x08 then None
    else if ltb p 0x0A then Some Ws0
    else if ltb p 0x0C then Some Ws1
    else if ltb p 0x0E then Some Ws2
    else None

-- the window of an address, if it lies in one (RULES, "The cycles of a halfword from ROM")
unfoldable pub window : ℕ → Option RomWindow
window a = window_at (page a)

abbrev pub is_in : Option RomWindow → Bool
is_in v = is_some v

abbrev pub in_window : ℕ → Bool
in_window a = is_in (window a)

-- ---- kinds

abbrev pub nonseq_if : Bool → AccessKind
nonseq_if true = Nonseq
nonseq_if false = Seq

-- a halfword at a multiple of 0x20000 is nonsequential
abbrev pub force_nonseq : ℕ → Bool
force_nonseq a = eqb (a % 0x20000) 0

-- the kind of a halfword at `a` that is of kind `k` elsewhere (RULES, "The cycles of a halfword from ROM")
unfoldable pub kind_at : ℕ → AccessKind → AccessKind
kind_at a k = if force_nonseq a then Nonseq else k

-- an access that goes on where one of size `z` at `prev` ended, in the same region and not at such a multiple in ROM
-- (RULES, "Sequential accesses")
unfoldable pub classify_access : ℕ → AccessSize → ℕ → Bool → AccessKind
classify_access prev z next same_region =
    if not same_region then Nonseq
    else if in_window next && force_nonseq next then Nonseq
    else if eqb next (further (size_bytes_of z) prev) then Seq
    else Nonseq

-- ---- cycles: 1 + waits

abbrev pub window_index : RomWindow → ℕ
window_index Ws0 = 0
window_index Ws1 = 1
window_index Ws2 = 2

abbrev pub kind_index : AccessKind → ℕ
kind_index Nonseq = 0
kind_index Seq = 1

abbrev pub cycles_for_waits : ℕ → ℕ
cycles_for_waits n = 1 + n

-- one halfword from ROM
abbrev pub rom_half_waits : Waits → RomWindow → AccessKind → ℕ
rom_half_waits t win k = get_or (get_or t (window_index win) []) (kind_index k) 0

-- its cycles (RULES, "The cycles of a halfword from ROM")
unfoldable pub rom_half_cycles : Waits → RomWindow → AccessKind → ℕ
rom_half_cycles t win k = cycles_for_waits (rom_half_waits t win k)

-- the same, under the rule of 0x20000 (RULES, "The cycles of a halfword from ROM")
abbrev pub rom_half_cycles_at : Waits → ℕ → RomWindow → AccessKind → ℕ
rom_half_cycles_at t a win k = rom_half_cycles t win (kind_at a k)

-- a word is two beats, the second sequential
abbrev pub rom_word_cycles : Waits → RomWindow → AccessKind → ℕ
rom_word_cycles t win k = rom_half_cycles t win k + rom_half_cycles t win Seq

abbrev pub sram_byte_cycles : ℕ → ℕ
sram_byte_cycles waits = cycles_for_waits waits

-- two waits on a bus of 16 bits; departure: GBATEK lets a register (IMC, 4000800h) change the waits
abbrev pub ewram_cycles : AccessSize → ℕ
ewram_cycles Byte = 3
ewram_cycles Half = 3
ewram_cycles Word = 6

-- palette and VRAM, on a bus of 16 bits; departure: GBATEK adds a cycle while the picture is drawn from there
abbrev pub video_ram_cycles : AccessSize → ℕ
video_ram_cycles Byte = 1
video_ram_cycles Half = 1
video_ram_cycles Word = 2

abbrev pub fixed_fast_cycles : ℕ
fixed_fast_cycles = 1
