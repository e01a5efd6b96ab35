-- What a data access costs: it is a list of beats, and its price is their sum.
-- From GBATEK, "GBA Memory Map" (access times); docs/RULES.md, "What a data access costs", "Sequential accesses" and "Blocks".
use Rattle.std.specs.Prelude.{List, [], ◌∷◌, map, ℕ, zero, suc, ◌+◌, eqb}
use Rattle.std.specs.Prelude.{if◌then◌else◌}
use Rattle.model.specs.Base.{sum, further}
use Rattle.model.specs.Region.{decode, same_region}
use Rattle.model.specs.Waitcnt.{Waits, rom_waits_of, sram_waits}
use Rattle.model.specs.Wait.{size_bytes_of, access_size_of, aligned, kind_at, classify_access}
use Rattle.model.specs.Wait.{rom_half_cycles, sram_byte_cycles, ewram_cycles, video_ram_cycles, fixed_fast_cycles}
use Rattle.model.specs.declared.Region.{Region}
use Rattle.model.specs.declared.Region.TheVariants.{Bios, UnusedLow, Ewram, Iwram, Io, Palette, Vram, Oam}
use Rattle.model.specs.declared.Region.TheVariants.{GamePakRomWs0, GamePakRomWs1, GamePakRomWs2, GamePakSram, UnusedHigh}
use Rattle.model.specs.declared.RomWindow.{RomWindow}
use Rattle.model.specs.declared.RomWindow.TheVariants.{Ws0, Ws1, Ws2}
use Rattle.model.specs.declared.AccessKind.{AccessKind}
use Rattle.model.specs.declared.AccessKind.TheVariants.{Nonseq, Seq}
use Rattle.model.specs.declared.AccessSize.{AccessSize}
use Rattle.model.specs.declared.AccessSize.TheVariants.{Byte, Half, Word}
use Rattle.model.specs.declared.Clock.{Clock}
use Rattle.model.specs.declared.Previous.{Previous}

-- ---- beats

-- one turn on the bus
pub data Beat : Type 0 where
  -- a halfword that stands in the prefetch buffer
  BufferBeat : Beat
  -- a halfword from ROM
  RomBeat : RomWindow → AccessKind → Beat
  EwramBeat : AccessSize → Beat
  -- a byte of the backup chip, after so many waits
  SramBeat : ℕ → Beat
  -- palette and VRAM
  VideoBeat : Beat
  -- everything else
  FastBeat : Beat

abbrev pub beat_cycles : Waits → Beat → ℕ
beat_cycles t BufferBeat = 1
beat_cycles t (RomBeat win k) = rom_half_cycles t win k
beat_cycles t (EwramBeat z) = ewram_cycles z
beat_cycles t (SramBeat waits) = sram_byte_cycles waits
beat_cycles t VideoBeat = video_ram_cycles Half
beat_cycles t FastBeat = fixed_fast_cycles

abbrev pub price : Waits → List Beat → ℕ
price t bs = sum (map (beat_cycles t) bs)

-- ---- the kind of a data access

-- the previous one: its address as lowered to a multiple of its size, and the size in bytes, 0 for none
abbrev pub previously : ℕ → ℕ → Previous
previously a z = record { addr = a; size = z }

-- that of a clock (RULES, "Sequential accesses")
abbrev pub previous : Clock → Previous
previous c = c.previous

-- an access is the previous one of the next
abbrev pub access_of : AccessSize → ℕ → Previous
access_of z a = previously (aligned z a) (size_bytes_of z)

abbrev pub no_access : Previous
no_access = previously 0 0

-- the kind of an access at the lowered address `n`, from the previous one; with none before it, nonsequential. Departure: the
-- data sheet has it by the opcode, sequential within an LDM or STM and nowhere else (RULES, "Sequential accesses")
unfoldable pub kind_after : Previous → ℕ → AccessKind
kind_after p n =
    if eqb p.size 0 then Nonseq
    else classify_access p.addr (access_size_of p.size) n (same_region (decode p.addr) (decode n))

-- that of the first beat of an access, if it lies in ROM (RULES, "Sequential accesses")
abbrev pub first_kind_of : Previous → AccessSize → ℕ → AccessKind
first_kind_of p z a = kind_at (aligned z a) (kind_after p (aligned z a))

-- ---- the beats of a data access

-- a word takes two beats on a bus of 16 bits
abbrev pub wide : {A : Type 0} → AccessSize → A → A → List A
wide Byte first second = first ∷ []
wide Half first second = first ∷ []
wide Word first second = first ∷ second ∷ []

-- the second beat of a word follows the first
abbrev pub rom_access : AccessSize → AccessKind → RomWindow → List Beat
rom_access z k win = wide z (RomBeat win k) (RomBeat win Seq)

-- the bus that an access goes over: EWRAM's, that of palette and VRAM, ROM's through a window, SRAM's, or one without waits
pub data BusKind : Type 0 where
  OnEwram : BusKind
  OnVideo : BusKind
  OnRom : RomWindow → BusKind
  OnSram : BusKind
  OnFast : BusKind

-- by the region of the address
abbrev pub bus_kind : Region → BusKind
bus_kind Bios = OnFast
bus_kind UnusedLow = OnFast
bus_kind Ewram = OnEwram
bus_kind Iwram = OnFast
bus_kind Io = OnFast
bus_kind Palette = OnVideo
bus_kind Vram = OnVideo
bus_kind Oam = OnFast
bus_kind GamePakRomWs0 = OnRom Ws0
bus_kind GamePakRomWs1 = OnRom Ws1
bus_kind GamePakRomWs2 = OnRom Ws2
bus_kind GamePakSram = OnSram
bus_kind UnusedHigh = OnFast

-- SRAM has so many waits, and in ROM the first beat is of kind `k`
abbrev pub data_beats_on : ℕ → AccessSize → AccessKind → BusKind → List Beat
data_beats_on sram z k OnEwram = wide z (EwramBeat Half) (EwramBeat Half)
data_beats_on sram z k OnVideo = wide z VideoBeat VideoBeat
data_beats_on sram z k (OnRom win) = rom_access z k win
data_beats_on sram z k OnSram = SramBeat sram ∷ []
data_beats_on sram z k OnFast = FastBeat ∷ []

abbrev pub data_beats_in : ℕ → AccessSize → AccessKind → Region → List Beat
data_beats_in sram z k r = data_beats_on sram z k (bus_kind r)

-- under WAITCNT `w`, after the access `p` (RULES, "What a data access costs")
unfoldable pub data_beats : ℕ → Previous → AccessSize → ℕ → List Beat
data_beats w p z a = data_beats_in (sram_waits w) z (first_kind_of p z a) (decode a)

-- the cycles of an access of size `z` at address `a` under WAITCNT `w`, after the access `p` (RULES, "What a data access costs")
abbrev pub data_cycles : ℕ → Previous → AccessSize → ℕ → ℕ
data_cycles w p z a = price (rom_waits_of w) (data_beats w p z a)

-- ---- a block: n word accesses at rising addresses, from `a` on, modulo 2^32

-- its cycles, after the access `p`: each word's, after the one before it (RULES, "Blocks")
abbrev pub block_cycles_of : ℕ → Previous → ℕ → ℕ → ℕ
block_cycles_of w p a zero = 0
block_cycles_of w p a (suc n) = data_cycles w p Word a + block_cycles_of w (access_of Word a) (further 4 a) n

-- behind it its last word is the previous access (RULES, "Blocks")
abbrev pub block_previous : Previous → ℕ → ℕ → Previous
block_previous p a zero = p
block_previous p a (suc n) = block_previous (access_of Word a) (further 4 a) n
