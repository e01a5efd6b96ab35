-- Loads of 1, 2 and 4 bytes over the lent memories.
-- From GBATEK, "GBA Memory Map" and "GBA Unpredictable Things"; src/bus/mod.rs (`Bus as CpuMem`) and openbus.rs;
-- docs/RULES.md, "Loads" and "Blocks".
use Rattle.std.specs.Prelude.{List, ℕ, zero, suc, ◌+◌, ◌*◌, ◌%◌, eqb, ltb}
use Rattle.std.specs.Prelude.{if◌then◌else◌}
use Rattle.model.specs.Base.{further, byte_of, byte_at}
use Rattle.model.specs.Region.{bios_size}
use Rattle.model.specs.Mirror.{rom_offset}
use Rattle.model.specs.Memory.{byte_in, target, is_sram}
use Rattle.model.specs.declared.AccessSize.{AccessSize}
use Rattle.model.specs.declared.AccessSize.TheVariants.{Byte, Half, Word}
use Rattle.model.specs.declared.Lengths.{Lengths}
use Rattle.model.specs.declared.Part.{Part}
use Rattle.model.specs.declared.Target.{Target}
use Rattle.model.specs.declared.Target.TheVariants.{Unused, SystemRom, GamePakRom, Plain, Video, Sram}

-- what a load sees: the memories, the pc and the BIOS latch
pub record Bus : Type 0 where
  pub bios : List ℕ
  pub rom : List ℕ
  pub store : List ℕ
  pub pc : ℕ
  pub latch : ℕ

-- ---- bytes

-- SRAM repeats at the chip's length; 0xFF without a chip (RULES, "Loads")
unfoldable pub sram_byte : List ℕ → Part → ℕ → ℕ
sram_byte s p i = if eqb p.size 0 then 0xFF else byte_in s p (i % p.size)

-- with the pc outside the BIOS, the byte of the latch by address bits 0 and 1.
-- Departure: only PC and LATCH steps set the two, where GBATEK has the CPU's own pc and last BIOS fetch (RULES, "Loads").
unfoldable pub bios_byte : List ℕ → ℕ → ℕ → ℕ → ℕ
bios_byte bios pc latch a = if ltb pc bios_size then byte_at bios a else byte_of (a % 4) latch

-- unused areas give 0, and so does ROM past the image. Departures: GBATEK has open bus, and address / 2 without a cartridge.
abbrev pub byte_from : Bus → ℕ → Target → ℕ
byte_from b a Unused = 0
byte_from b a SystemRom = bios_byte b.bios b.pc b.latch a
byte_from b a GamePakRom = byte_at b.rom (rom_offset a)
byte_from b a (Plain p i) = byte_in b.store p i
byte_from b a (Video m p i) = byte_in b.store p i
byte_from b a (Sram p i) = sram_byte b.store p i

-- by the memory that the address meets (RULES, "Loads")
unfoldable pub load8 : Lengths → Bus → ℕ → ℕ
load8 l b a = byte_from b a (target l a)

-- ---- halfwords and words. Departure: the data sheet aligns a wide load and rotates; here each byte of it is decoded by itself,
-- from the address as given. The bus of 8 bits repeats its byte.

-- the byte at the address and the one behind it (RULES, "Loads")
unfoldable pub load16 : Lengths → Bus → ℕ → ℕ
load16 l b a = if is_sram (target l a) then 0x0101 * load8 l b a else load8 l b a + 0x100 * load8 l b (further 1 a)

-- a word is two halfword loads (RULES, "Loads")
unfoldable pub load32 : Lengths → Bus → ℕ → ℕ
load32 l b a = if is_sram (target l a) then 0x0101_0101 * load8 l b a else load16 l b a + 0x1_0000 * load16 l b (further 2 a)

-- by the size (RULES, "Loads")
abbrev pub load : Lengths → Bus → AccessSize → ℕ → ℕ
load l b Byte a = load8 l b a
load l b Half a = load16 l b a
load l b Word a = load32 l b a

-- a BLOCK READ loads n words at rising addresses from `a` on, modulo 2^32, and answers the last; `v` is the one before
-- them (RULES, "Blocks")
abbrev pub last_word_of : Lengths → Bus → ℕ → ℕ → ℕ → ℕ
last_word_of l b v a zero = v
last_word_of l b v a (suc n) = last_word_of l b (load l b Word a) (further 4 a) n

-- a halfword load inside the ROM windows, which is all that the prefetch reads
unfoldable pub rom_halfword : List ℕ → ℕ → ℕ
rom_halfword rom a = byte_at rom (rom_offset a) + 0x100 * byte_at rom (rom_offset (further 1 a))
