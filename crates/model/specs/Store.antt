-- Stores of 1, 2 and 4 bytes: the bytes that land in the lent store, in order, and the video halfwords that are counted. How
-- many bytes land is the length of their list, which a WRITE answers.
-- From GBATEK, "GBA Memory Map" and "GBA Unpredictable Things"; src/bus/mod.rs (`Bus as CpuMem`); docs/RULES.md, "Stores" and
-- "Counters".
use Rattle.std.specs.Prelude.{Bool, List, [], ◌∷◌, ◌++◌, ℕ, zero, suc, ◌+◌, ◌-◌, ◌*◌, ◌/◌, ◌%◌, ◌^◌, min, set, ltb}
use Rattle.std.specs.Prelude.{if◌then◌else◌}
use Rattle.model.specs.Base.{bit, lowered, byte_of}
use Rattle.model.specs.Wait.{size_bytes_of}
use Rattle.model.specs.Video.{fills}
use Rattle.model.specs.Memory.{io_part, byte_in, target}
use Rattle.model.specs.declared.AccessSize.{AccessSize}
use Rattle.model.specs.declared.AccessSize.TheVariants.{Byte, Half, Word}
use Rattle.model.specs.declared.Lengths.{Lengths}
use Rattle.model.specs.declared.Part.{Part}
use Rattle.model.specs.declared.Target.{Target}
use Rattle.model.specs.declared.Target.TheVariants.{Unused, SystemRom, GamePakRom, Plain, Video, Sram}

-- ---- bytes that land

-- a byte that lands in the lent store
pub record Put : Type 0 where
  pub place : ℕ
  pub byte : ℕ

-- the store after they have landed (RULES, "Stores")
abbrev pub landed : List ℕ → List Put → List ℕ
landed s [] = s
landed s (p ∷ ps) = landed (set s p.place p.byte) ps

-- past a memory's length nothing lands
unfoldable pub put : Part → ℕ → ℕ → List Put
put p i v = if ltb i p.size then record { place = p.base + i; byte = v } ∷ [] else []

-- the n low bytes of a value, each by itself, from an index on
abbrev pub put_bytes : Part → ℕ → ℕ → ℕ → List Put
put_bytes p i zero v = []
put_bytes p i (suc n) v = put p i (v % 256) ++ put_bytes p (i + 1) n (v / 256)

-- a store of n bytes is aligned: it starts at a multiple of n
abbrev pub put_aligned : Part → ℕ → ℕ → ℕ → List Put
put_aligned p i n v = put_bytes p (lowered n i) n v

-- ---- the bytes of a store that land, by the memory that it meets

-- the display mode at the moment of a store: I/O byte 0 modulo 8, 0 with no I/O (RULES, "Stores")
unfoldable pub mode_of : Lengths → List ℕ → ℕ
mode_of l s = byte_in s (io_part l) 0 % 8

-- in video memory a byte fills its halfword, or is dropped
abbrev pub video_puts : Bool → AccessSize → Part → ℕ → ℕ → List Put
video_puts fill Byte p i v = if fill then put_aligned p i 2 (0x0101 * (v % 256)) else []
video_puts fill Half p i v = put_aligned p i 2 v
video_puts fill Word p i v = put_aligned p i 4 v

-- BIOS, ROM and unused areas take no store. On the bus of 8 bits one byte lands, at the address as given: the low one of the
-- value rotated by the address. It does not repeat at the chip's length, as a load does; departure: GBATEK has both repeat.
abbrev pub puts_at : ℕ → AccessSize → ℕ → ℕ → Target → List Put
puts_at mode z a v Unused = []
puts_at mode z a v SystemRom = []
puts_at mode z a v GamePakRom = []
puts_at mode z a v (Plain p i) = put_aligned p i (size_bytes_of z) v
puts_at mode z a v (Video m p i) = video_puts (fills mode m i) z p i v
puts_at mode z a v (Sram p i) = put p i (byte_of (a % size_bytes_of z) v)

-- by the memory that the address meets (RULES, "Stores")
unfoldable pub puts : Lengths → ℕ → AccessSize → ℕ → ℕ → List Put
puts l mode z a v = puts_at mode z a v (target l a)

-- ---- the counters of video stores

-- each halfword store to video memory counts 1, a word store 2, a byte store 1 if it fills a halfword; also past the memory's
-- length
abbrev pub halfwords : Bool → AccessSize → ℕ
halfwords fill Byte = bit fill
halfwords fill Half = 1
halfwords fill Word = 2

-- by the memory that a store meets (RULES, "Counters")
abbrev pub video_count : ℕ → AccessSize → Target → ℕ
video_count mode z Unused = 0
video_count mode z SystemRom = 0
video_count mode z GamePakRom = 0
video_count mode z (Plain p i) = 0
video_count mode z (Video m p i) = halfwords (fills mode m i) z
video_count mode z (Sram p i) = 0

-- a counter stops at 2^64 - 1 (RULES, "Counters")
abbrev pub counted : ℕ → ℕ → ℕ
counted c k = min (c + k) (2 ^ 64 - 1)
