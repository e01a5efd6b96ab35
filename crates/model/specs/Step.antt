-- A step, and the run over a list of steps. A step is two records: what it does to time (`timed`), a function of the clock
-- and the step alone, and what it does to the contents (`changed`), where the memories enter. No definition of time has a
-- memory among its arguments.
-- From docs/RULES.md, "The kinds of record", whose table names the Rust's call that each step stands for; "WAITCNT", "Counters",
-- "What an instruction does", "What a data access costs", "Sequential accesses", "Blocks", "The answer", "Did a store land" and
-- "How a run goes".
use Rattle.std.specs.Prelude.{Bool, ◌&&◌, List, [], ◌∷◌, ◌++◌, map, ℕ, zero, suc, ◌+◌, length, get_or}
use Rattle.std.specs.Prelude.{if◌then◌else◌}
use Rattle.std.specs.Prelude.{Option, Some, None}
use Rattle.model.specs.Base.{bit, sum, further}
use Rattle.model.specs.Waitcnt.{Waits, written, prefetch_enable, rom_waits_of}
use Rattle.model.specs.Wait.{window}
use Rattle.model.specs.Prefetch.{set_enabled, restart, ticks, filled, hit, fetched}
use Rattle.model.specs.Price.{previous, access_of, no_access, data_cycles, block_cycles_of, block_previous}
use Rattle.model.specs.declared.Previous.{Previous}
use Rattle.model.specs.Timing.{price_insn}
use Rattle.model.specs.Memory.{target}
use Rattle.model.specs.Load.{Bus, load, load16, last_word_of}
use Rattle.model.specs.Store.{Put, puts, landed, mode_of, video_count, counted}
use Rattle.model.specs.declared.PrefetchBuffer.{PrefetchBuffer}
use Rattle.model.specs.declared.TimingInput.{TimingInput}
use Rattle.model.specs.declared.InsnCycles.{InsnCycles}
use Rattle.model.specs.declared.Clock.{Clock}
use Rattle.model.specs.declared.Contents.{Contents}
use Rattle.model.specs.declared.Board.{Board}
use Rattle.model.specs.declared.Lengths.{Lengths}
use Rattle.model.specs.declared.Answer.{Answer}
use Rattle.model.specs.declared.VideoMemory.{VideoMemory}
use Rattle.model.specs.declared.VideoMemory.TheVariants.{PaletteRam, VideoRam, ObjectRam}
use Rattle.model.specs.declared.Target.{Target}
use Rattle.model.specs.declared.RomWindow.{RomWindow}
use Rattle.model.specs.declared.Target.TheVariants.{Unused, SystemRom, GamePakRom, Plain, Video, Sram}
use Rattle.model.specs.declared.AccessSize.{AccessSize}
use Rattle.model.specs.declared.AccessSize.TheVariants.{Word}
use Rattle.model.specs.declared.Version.{Version}
use Rattle.model.specs.declared.IsaState.{IsaState}
use Rattle.model.specs.declared.IsaState.TheVariants.{Arm, Thumb}
use Rattle.model.specs.declared.Step.{Step}
use Rattle.model.specs.declared.Step.TheVariants.{Read, Write, Waitcnt, Idle, Fetch, Restart, Instruction, Pc, Latch}
use Rattle.model.specs.declared.Step.TheVariants.{BlockRead, BlockWrite}

-- ---- the clock

-- the waits follow from WAITCNT
abbrev pub waits_of : Clock → Waits
waits_of c = rom_waits_of c.waitcnt

abbrev pub with_prefetch : Clock → PrefetchBuffer → Clock
with_prefetch c p =
    record {
      waitcnt = c.waitcnt;
      force_next_fetch_n = c.force_next_fetch_n;
      prefetch = p;
      previous = c.previous;
    }

abbrev pub with_previous : Clock → Previous → Clock
with_previous c p =
    record {
      waitcnt = c.waitcnt;
      force_next_fetch_n = c.force_next_fetch_n;
      prefetch = c.prefetch;
      previous = p;
    }

-- every data access is the previous one of the next; what fetches opcodes or sets the waits clears it
-- (RULES, "Sequential accesses")
abbrev pub accessed : Clock → AccessSize → ℕ → Clock
accessed c z a = with_previous c (access_of z a)

-- the clock without one (RULES, "Sequential accesses")
abbrev pub cleared : Clock → Clock
cleared c = with_previous c no_access

-- `write`, then `apply_waitcnt` (RULES, "WAITCNT")
unfoldable pub set_waitcnt : Clock → ℕ → Clock
set_waitcnt c v =
    record {
      waitcnt = written c.waitcnt v;
      force_next_fetch_n = c.force_next_fetch_n;
      prefetch = set_enabled (prefetch_enable (written c.waitcnt v)) c.prefetch;
      previous = c.previous;
    }

-- an instruction is priced with the board's switch and force flag, by the test of its sheet's version
abbrev pub timing_input : Clock → Version → IsaState → ℕ → ℕ → Bool → TimingInput
timing_input c v isa a op jump =
    record {
      version = v;
      isa = isa;
      code_addr = a;
      opcode_raw = op;
      pc_changed = jump;
      prefetch_enabled = c.prefetch.enabled;
      force_fetch_n = c.force_next_fetch_n;
    }

abbrev pub priced : Clock → Version → IsaState → ℕ → ℕ → Bool → InsnCycles
priced c v isa a op jump = price_insn (timing_input c v isa a op jump) (waits_of c) c.prefetch

-- its halves that the buffer has: one, or two at the address and the address + 2
abbrev pub rom_hits : PrefetchBuffer → ℕ → IsaState → ℕ
rom_hits p a Thumb = bit (hit p a)
rom_hits p a Arm = bit (hit p a) + bit (hit (fetched p a) (further 2 a))

-- the buffer after each half is fetched; on any miss it restarts at the address after the last half
abbrev pub rom_fetched : Waits → PrefetchBuffer → ℕ → IsaState → PrefetchBuffer
rom_fetched t p a Thumb = if hit p a then fetched p a else restart t (fetched p a) (further 2 a)
rom_fetched t p a Arm =
    if hit p a && hit (fetched p a) (further 2 a) then fetched (fetched p a) (further 2 a)
    else restart t (fetched (fetched p a) (further 2 a)) (further 4 a)

-- code outside the windows fetches nothing from the buffer
abbrev pub hits_in : PrefetchBuffer → ℕ → IsaState → Option RomWindow → ℕ
hits_in p a isa (Some win) = rom_hits p a isa
hits_in p a isa None = 0

abbrev pub fetched_in : Waits → PrefetchBuffer → ℕ → IsaState → Option RomWindow → PrefetchBuffer
fetched_in t p a isa (Some win) = rom_fetched t p a isa
fetched_in t p a isa None = p

unfoldable pub code_hits : Clock → IsaState → ℕ → ℕ
code_hits c isa a = hits_in c.prefetch a isa (window a)

unfoldable pub code_fetched : Clock → IsaState → ℕ → PrefetchBuffer
code_fetched c isa a = fetched_in (waits_of c) c.prefetch a isa (window a)

-- the clock after an instruction is priced and fetched: the force flag is what it leaves to the next, and no data access is the
-- previous one
unfoldable pub code_clock : Clock → Version → IsaState → ℕ → ℕ → Bool → Clock
code_clock c v isa a op jump =
    record {
      waitcnt = c.waitcnt;
      force_next_fetch_n = (priced c v isa a op jump).latch_disable_bug;
      prefetch = code_fetched c isa a;
      previous = no_access;
    }

-- ---- a step in time

-- the accesses or fetches that a step stands for and prices: a block's are its words
abbrev pub turns_in : Step → ℕ
turns_in (Read z a) = 1
turns_in (Write z a v) = 1
turns_in (Waitcnt v) = 0
turns_in (Idle n) = 0
turns_in (Fetch a) = 0
turns_in (Restart a) = 0
turns_in (Instruction v isa a op jump) = 1
turns_in (Pc a) = 0
turns_in (Latch v) = 0
turns_in (BlockRead a n) = n
turns_in (BlockWrite a n) = n

-- what a step does to time: the clock up to its idle cycles, how many of these follow, what it costs, and the halfwords that
-- it takes from the buffer
pub record Timed : Type 0 where
  pub clock : Clock
  pub idle : ℕ
  pub cycles : ℕ
  pub hits : ℕ

abbrev pub timing : Clock → ℕ → ℕ → ℕ → Timed
timing c idle cycles hits = record { clock = c; idle = idle; cycles = cycles; hits = hits }

-- a data access, whether it reads or writes
abbrev pub access_timed : Clock → AccessSize → ℕ → Timed
access_timed c z a = timing (accessed c z a) 0 (data_cycles c.waitcnt (previous c) z a) 0

-- so many words, whether they are read or written
abbrev pub block_timed : Clock → ℕ → ℕ → Timed
block_timed c a n =
    timing (with_previous c (block_previous (previous c) a n)) 0 (block_cycles_of c.waitcnt (previous c) a n) 0

-- what each step does to time (RULES, "What an instruction does" and "What a data access costs")
abbrev pub timed : Clock → Step → Timed
timed c (Read z a) = access_timed c z a
timed c (Write z a v) = access_timed c z a
timed c (Waitcnt v) = timing (cleared (set_waitcnt c v)) 0 0 0
timed c (Idle n) = timing c n n 0
timed c (Fetch a) = timing (cleared (with_prefetch c (fetched c.prefetch a))) 0 0 (bit (hit c.prefetch a))
timed c (Restart a) = timing (cleared (with_prefetch c (restart (waits_of c) c.prefetch a))) 0 0 0
timed c (Instruction v isa a op jump) =
    timing (code_clock c v isa a op jump) (priced c v isa a op jump).cart_idle
    (priced c v isa a op jump).total (code_hits c isa a)
timed c (Pc a) = timing c 0 0 0
timed c (Latch v) = timing c 0 0 0
timed c (BlockRead a n) = block_timed c a n
timed c (BlockWrite a n) = block_timed c a n

-- the clock with a step's idle cycles behind it
abbrev pub idled : Timed → Clock
idled t = with_prefetch t.clock (ticks (waits_of t.clock) t.idle t.clock.prefetch)

abbrev pub clock_after : Clock → Step → Clock
clock_after c x = idled (timed c x)

-- ---- the contents of the board and the memories

-- what a run is lent and does not change
pub record Media : Type 0 where
  pub bios : List ℕ
  pub rom : List ℕ
  pub lengths : Lengths

-- what a step gets and what it leaves
pub record State : Type 0 where
  pub board : Board
  pub store : List ℕ

abbrev pub bus_of : Media → State → Bus
bus_of m s =
    record {
      bios = m.bios;
      rom = m.rom;
      store = s.store;
      pc = s.board.contents.cpu_pc;
      latch = s.board.contents.last_bios_opcode;
    }

-- the halfword that an opcode fetch finds, 0 on a miss
unfoldable pub half_at : Board → ℕ → ℕ
half_at b a = if hit b.clock.prefetch a then get_or b.halves b.clock.prefetch.head 0 else 0

abbrev pub with_counts : Contents → ℕ → ℕ → ℕ → Contents
with_counts d vram oam palette =
    record {
      cpu_pc = d.cpu_pc;
      last_bios_opcode = d.last_bios_opcode;
      vram_write_count = vram;
      oam_write_count = oam;
      palette_write_count = palette;
    }

-- n halfwords go to the counter of a video memory
abbrev pub counted_in : VideoMemory → ℕ → Contents → Contents
counted_in PaletteRam n d = with_counts d d.vram_write_count d.oam_write_count (counted d.palette_write_count n)
counted_in VideoRam n d = with_counts d (counted d.vram_write_count n) d.oam_write_count d.palette_write_count
counted_in ObjectRam n d = with_counts d d.vram_write_count (counted d.oam_write_count n) d.palette_write_count

-- to the counter of the memory that a store meets, if it has one
abbrev pub counted_at : Target → ℕ → Contents → Contents
counted_at Unused n d = d
counted_at SystemRom n d = d
counted_at GamePakRom n d = d
counted_at (Plain p i) n d = d
counted_at (Video m p i) n d = counted_in m n d
counted_at (Sram p i) n d = d

-- a store counts as many as `video_count` says, in the display mode of its moment (RULES, "Counters")
unfoldable pub count_store : Lengths → List ℕ → Contents → AccessSize → ℕ → Contents
count_store l s d z a = counted_at (target l a) (video_count (mode_of l s) z (target l a)) d

abbrev pub with_pc : Contents → ℕ → Contents
with_pc d a =
    record {
      cpu_pc = a;
      last_bios_opcode = d.last_bios_opcode;
      vram_write_count = d.vram_write_count;
      oam_write_count = d.oam_write_count;
      palette_write_count = d.palette_write_count;
    }

abbrev pub with_latch : Contents → ℕ → Contents
with_latch d v =
    record {
      cpu_pc = d.cpu_pc;
      last_bios_opcode = v;
      vram_write_count = d.vram_write_count;
      oam_write_count = d.oam_write_count;
      palette_write_count = d.palette_write_count;
    }

-- ---- a step in data

-- what a step does to the contents: the value it answers, the contents it leaves, and the bytes of its store that land
pub record Changed : Type 0 where
  pub value : ℕ
  pub contents : Contents
  pub puts : List Put

abbrev pub change : ℕ → Contents → List Put → Changed
change v d ps = record { value = v; contents = d; puts = ps }

-- a step that leaves the contents alone
abbrev pub answering : State → ℕ → Changed
answering s v = change v s.board.contents []

-- a store of `v`, over these lengths, contents and lent bytes
abbrev pub stores : Lengths → Contents → List ℕ → AccessSize → ℕ → ℕ → Changed
stores l d s z a v = change 0 (count_store l s d z a) (puts l (mode_of l s) z a v)

-- a BLOCK WRITE stores 0 in each of n words, from the address `a` on, modulo 2^32 (RULES, "Blocks")
abbrev pub block_stores : Lengths → Contents → List ℕ → ℕ → ℕ → Changed
block_stores l d s a zero = change 0 d []
block_stores l d s a (suc n) =
    let word = stores l d s Word a 0 in
    let rest = block_stores l word.contents (landed s word.puts) (further 4 a) n in
    change 0 rest.contents (word.puts ++ rest.puts)

-- what each step does to the contents (RULES, "What an instruction does")
abbrev pub changed : Media → State → Step → Changed
changed m s (Read z a) = answering s (load m.lengths (bus_of m s) z a)
changed m s (Write z a v) = stores m.lengths s.board.contents s.store z a v
changed m s (Waitcnt v) = answering s 0
changed m s (Idle n) = answering s 0
changed m s (Fetch a) = answering s (half_at s.board a)
changed m s (Restart a) = answering s 0
changed m s (Instruction v isa a op jump) = answering s (priced s.board.clock v isa a op jump).cart_idle
changed m s (Pc a) = change 0 (with_pc s.board.contents a) []
changed m s (Latch v) = change 0 (with_latch s.board.contents v) []
changed m s (BlockRead a n) = answering s (last_word_of m.lengths (bus_of m s) 0 a n)
changed m s (BlockWrite a n) = block_stores m.lengths s.board.contents s.store a n

-- the halfwords after a step's idle cycles; the prefetch reads with the bus's halfword load
abbrev pub refilled : Media → State → Timed → List ℕ
refilled m s t =
    filled (load16 m.lengths (bus_of m s)) (waits_of t.clock) t.idle t.clock.prefetch s.board.halves

-- ---- a step, and a run

abbrev pub board_with : Clock → List ℕ → Contents → Board
board_with c h d = record { clock = c; halves = h; contents = d }

-- the two sides of a step, put together
abbrev pub joined : Media → State → Timed → Changed → State
joined m s t d =
    record { board = board_with (idled t) (refilled m s t) d.contents; store = landed s.store d.puts }

abbrev pub stepped : Media → State → Step → State
stepped m s x = joined m s (timed s.board.clock x) (changed m s x)

-- the hits byte: the halfwords that the step takes from the buffer, or the bytes of its store that land. A step that
-- stores takes none from the buffer, and one that takes some stores nothing, so the sum is the one or the other
-- (RULES, "The answer" and "Did a store land").
abbrev pub hits_of : Timed → Changed → ℕ
hits_of t d = t.hits + length d.puts

-- the prefetch count and the force flag are those after the step (RULES, "The answer")
abbrev pub answer_of : Timed → Changed → Answer
answer_of t d =
    record {
      value = d.value;
      cycles = t.cycles;
      hits = hits_of t d;
      count = (idled t).prefetch.count;
      force = (idled t).force_next_fetch_n;
    }

abbrev pub answer : Media → State → Step → Answer
answer m s x = answer_of (timed s.board.clock x) (changed m s x)

-- the answers of a run, and what it leaves
pub record Result : Type 0 where
  pub answers : List Answer
  pub state : State

-- each step gets the board and the store that the step before left (RULES, "How a run goes")
unfoldable pub run : Media → State → List Step → Result
run m s [] = record { answers = []; state = s }
run m s (x ∷ xs) =
    let r = run m (stepped m s x) xs in
    record { answers = answer m s x ∷ r.answers; state = r.state }

-- the cycles of each step
abbrev pub cycles_in : List Answer → List ℕ
cycles_in xs = map (λ (x : Answer). x.cycles) xs

abbrev pub cycles_of : Result → List ℕ
cycles_of r = cycles_in r.answers

-- their sum (RULES, "How a run goes")
abbrev pub total : Result → ℕ
total r = sum (cycles_of r)
