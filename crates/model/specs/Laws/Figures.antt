-- Words of the laws in proofs/Laws/Figures.antt, as definitions. Those laws:
-- The starred worked figures of docs/RULES.md, "Figures", joined as one theorem about the definitions. Each starts from the fresh
-- board; where a figure is about a large memory, it holds whatever the memory held.
use Rattle.std.specs.Prelude.{◌≡◌, false, List, [], ◌∷◌, map, ℕ, set}
use Rattle.model.specs.Region.{decode}
use Rattle.model.specs.Mirror.{ewram_offset, vram_offset, io_offset}
use Rattle.model.specs.Waitcnt.{written, prefetch_enable, n_waits, s_waits, rom_waits_of}
use Rattle.model.specs.Wait.{window, aligned, kind_at, classify_access, rom_half_cycles}
use Rattle.model.specs.Prefetch.{set_enabled, restart, start_beat, arrived, ended, advance, ready}
use Rattle.model.specs.Prefetch.{tick1, ticks, arrives, filled, occupied, hit, taken, fetched}
use Rattle.model.specs.DisableBug.{arm_internal, thumb_internal}
use Rattle.model.specs.Price.{kind_after, data_beats}
use Rattle.model.specs.Timing.{half_beat, plain_beat, fetch_beats, cart_idle_of, disable_bug, price_insn}
use Rattle.model.specs.Video.{obj_vram_base, is_obj_vram}
use Rattle.model.specs.Memory.{byte_in, target}
use Rattle.model.specs.Load.{sram_byte, bios_byte, load8, load16, load32}
use Rattle.model.specs.Store.{put, mode_of, puts}
use Rattle.model.specs.Step.{Media, Result, set_waitcnt, code_hits, code_fetched}
use Rattle.model.specs.BoardBytes.{fresh_board}
use Rattle.model.specs.Step.{code_clock, half_at, count_store, run}
use Rattle.model.specs.declared.Answer.{Answer}
use Rattle.model.specs.declared.Region.TheVariants.{Ewram, Vram}
use Rattle.model.specs.declared.AccessSize.TheVariants.{Byte, Half, Word}
use Rattle.model.specs.declared.Version.TheVariants.{One}
use Rattle.model.specs.declared.IsaState.TheVariants.{Arm, Thumb}
use Rattle.model.specs.declared.Step.{Step}
use Rattle.model.specs.declared.Step.TheVariants.{Read, Write, Waitcnt, Idle, Restart, Instruction}

-- to unfold this is to unfold the whole machine, in four parts
unfoldable pub clocks : Unit {0}
unfolding written prefetch_enable n_waits s_waits rom_waits_of window aligned kind_at classify_access rom_half_cycles
    set_enabled restart start_beat arrived ended advance
clocks = tt

unfoldable pub buffers : Unit {0}
unfolding ready tick1 ticks arrives filled occupied hit taken fetched
buffers = tt

unfoldable pub prices : Unit {0}
unfolding arm_internal thumb_internal half_beat plain_beat fetch_beats cart_idle_of disable_bug price_insn kind_after data_beats
prices = tt

unfoldable pub memories : Unit {0}
unfolding decode vram_offset io_offset obj_vram_base is_obj_vram byte_in sram_byte bios_byte load8 load16 load32
    put target mode_of puts
memories = tt

unfoldable pub machine : Unit {0}
unfolding clocks buffers prices memories set_waitcnt code_hits code_fetched code_clock half_at count_store run
machine = tt

-- ---- a run from the fresh board

-- memories of these lengths, no BIOS and no ROM
abbrev pub figure_media : (io vram sram : ℕ) → Media
figure_media io vram sram =
    record {
      bios = [];
      rom = [];
      lengths = record { ewram = 0; iwram = 0; io = io; palette = 0; vram = vram; oam = 0; sram = sram };
    }

abbrev pub from : Media → List ℕ → List Step → Result
from m s xs = run m (record { board = fresh_board; store = s }) xs

-- with no memory at all
abbrev pub fresh_run : List Step → Result
fresh_run xs = from (figure_media 0 0 0) [] xs

abbrev pub cycles_each : Result → List ℕ
cycles_each r = map (λ (x : Answer). x.cycles) r.answers

abbrev pub counts_in : Result → List ℕ
counts_in r = map (λ (x : Answer). x.count) r.answers

abbrev pub vram_count : Result → ℕ
vram_count r = r.state.board.contents.vram_write_count

abbrev pub values_in : Result → List ℕ
values_in r = map (λ (x : Answer). x.value) r.answers

-- a byte stored in a VRAM of full size, in a display mode
abbrev pub vram_byte : ℕ → List ℕ → ℕ → Result
vram_byte mode vram a = from (figure_media 1 98304 0) (mode ∷ vram) (Write Byte a 0x5A ∷ [])

-- what is left, and the halfwords counted
abbrev pub Leaves : ℕ → Result → List ℕ → Type 0
Leaves n r store = (r.state.store ≡ store) × (vram_count r ≡ n)

-- ---- the figures

pub record WorkedFigures : Type 0 where
  pub ewram_mirror : (decode 0x0204_0005 ≡ Ewram) × (ewram_offset 0x0204_0005 ≡ 5)
  pub vram_mirror : (decode 0x0601_8000 ≡ Vram) × (vram_offset 0x0601_8000 ≡ 0x10000)
  pub waitcnt_bits : (fresh_run (Waitcnt 0xFFFF ∷ [])).state.board.clock.waitcnt ≡ 0x5FFF
  pub idle_27 : counts_in (fresh_run (Waitcnt 0x4000 ∷ Restart 0x0800_0100 ∷ Idle 27 ∷ [])) ≡ 0 ∷ 0 ∷ 7 ∷ []
  pub idle_28 : counts_in (fresh_run (Waitcnt 0x4000 ∷ Restart 0x0800_0100 ∷ Idle 28 ∷ [])) ≡ 0 ∷ 0 ∷ 8 ∷ []
  pub arm_in_block : cycles_each (fresh_run (Instruction One Arm 0x0800_0100 0xE1A0_0000 false ∷ [])) ≡ 6 ∷ []
  pub arm_at_block : cycles_each (fresh_run (Instruction One Arm 0x0800_0000 0xE1A0_0000 false ∷ [])) ≡ 8 ∷ []
  pub dearest : cycles_each (fresh_run (Waitcnt 0x0300 ∷ Instruction One Arm 0x0C00_0100 0xE591_0000 false ∷ [])) ≡ 0 ∷ 19 ∷ []
  pub pop_at_bc : cycles_each (fresh_run (Instruction One Thumb 0x0300_0000 0xBC01 false ∷ [])) ≡ 1 ∷ []
  pub pop_at_ba : cycles_each (fresh_run (Instruction One Thumb 0x0300_0000 0xBA01 false ∷ [])) ≡ 2 ∷ []
  pub bx : cycles_each (fresh_run (Instruction One Arm 0x0300_0000 0xE12F_FF1E false ∷ [])) ≡ 2 ∷ []
  -- the store is SRAM alone
  pub sram_half : (sram : List ℕ)
      → (from (figure_media 0 0 8192) sram (Write Half 0x0E00_0001 0x1234 ∷ [])).state.store ≡ set sram 1 0x12
  pub rom_end : values_in (fresh_run (Read Word 0x0DFF_FFFE ∷ [])) ≡ 0xFFFF_0000 ∷ []
  -- the store is one byte of I/O, which holds the mode, and VRAM. A byte that is dropped isn't counted
  pub object_mode_0 : (vram : List ℕ) → Leaves 0 (vram_byte 0 vram 0x0601_0000) (0 ∷ vram)
  pub bitmap_mode_3 : (vram : List ℕ) → Leaves 1 (vram_byte 3 vram 0x0601_0000) (3 ∷ set (set vram 0x10000 0x5A) 0x10001 0x5A)
  pub object_mode_3 : (vram : List ℕ) → Leaves 0 (vram_byte 3 vram 0x0601_4000) (3 ∷ vram)
