-- Why a step costs what it does: the ground of each of its beats, what a run with grounds gives back, and what is claimed of it.
-- From docs/RULES.md, "The ground of a beat" and "What a run with grounds is refused with".
use Rattle.std.specs.Prelude.{◌≡◌, Bool, true, false, not, ◌&&◌, List, [], ◌∷◌, ◌++◌, map, ℕ, zero, suc, ◌+◌, ◌-◌, ◌*◌, ◌≤◌, ◌<◌, length, take, drop, replicate, eqb, ltb}
use Rattle.std.specs.Prelude.{if◌then◌else◌}
use Rattle.std.specs.Prelude.{Option, Some, None}
use Rattle.model.specs.Base.{bit, sum, further, byte_at, blocks, Exactly}
use Rattle.model.specs.Region.{page, decode}
use Rattle.model.specs.Waitcnt.{Waits, rom_waits_of, sram_waits}
use Rattle.model.specs.Wait.{aligned, window, force_nonseq, rom_half_cycles}
use Rattle.model.specs.Wait.{sram_byte_cycles, ewram_cycles, video_ram_cycles, fixed_fast_cycles}
use Rattle.model.specs.Prefetch.{hit}
use Rattle.model.specs.Price.{previous, access_of, kind_after, wide}
use Rattle.model.specs.declared.Previous.{Previous}
use Rattle.model.specs.Price.{BusKind, OnEwram, OnVideo, OnRom, OnSram, OnFast, bus_kind}
use Rattle.model.specs.Timing.{internal, code_size}
use Rattle.model.specs.Step.{clock_after, turns_in}
use Rattle.model.specs.Sheet.{record_at, record_count, step_of, steps_of}
use Rattle.model.specs.BoardBytes.{clock_of}
use Rattle.model.specs.Outcome.{Lent, Outcome, Row, first_row, second_rows, outcome_by, outcome}
use Rattle.model.specs.Alike.{state_at, answer_at, Demand3}
use Rattle.model.specs.declared.Ground.{Ground}
use Rattle.model.specs.declared.Ground.TheVariants.{BufferHit, Sequential, ByFlag, ByBlock, ByAddress}
use Rattle.model.specs.declared.RomWindow.{RomWindow}
use Rattle.model.specs.declared.Ground.TheVariants.{EwramBus, SramBus, VideoBus, Fast}
use Rattle.model.specs.declared.Clock.{Clock}
use Rattle.model.specs.declared.AccessKind.{AccessKind}
use Rattle.model.specs.declared.AccessKind.TheVariants.{Nonseq, Seq}
use Rattle.model.specs.declared.AccessSize.{AccessSize}
use Rattle.model.specs.declared.AccessSize.TheVariants.{Byte, Half, Word}
use Rattle.model.specs.declared.IsaState.{IsaState}
use Rattle.model.specs.Verdict.{Verdict, Accepted, Refused}
use Rattle.model.specs.declared.Step.{Step}
use Rattle.model.specs.declared.Step.TheVariants.{Read, Write, Waitcnt, Idle, Fetch, Restart, Instruction, Pc, Latch}
use Rattle.model.specs.declared.Step.TheVariants.{BlockRead, BlockWrite}

-- ---- the nine grounds

-- its word, in letters: hit, seq, flag, block, address, ewram, sram, video, fast (RULES, "The ground of a beat")
abbrev pub ground_name : Ground → List ℕ
ground_name BufferHit = 0x68 ∷ 0x69 ∷ 0x74 ∷ []
ground_name Sequential = 0x73 ∷ 0x65 ∷ 0x71 ∷ []
ground_name ByFlag = 0x66 ∷ 0x6C ∷ 0x61 ∷ 0x67 ∷ []
ground_name ByBlock = 0x62 ∷ 0x6C ∷ 0x6F ∷ 0x63 ∷ 0x6B ∷ []
ground_name ByAddress = 0x61 ∷ 0x64 ∷ 0x64 ∷ 0x72 ∷ 0x65 ∷ 0x73 ∷ 0x73 ∷ []
ground_name EwramBus = 0x65 ∷ 0x77 ∷ 0x72 ∷ 0x61 ∷ 0x6D ∷ []
ground_name SramBus = 0x73 ∷ 0x72 ∷ 0x61 ∷ 0x6D ∷ []
ground_name VideoBus = 0x76 ∷ 0x69 ∷ 0x64 ∷ 0x65 ∷ 0x6F ∷ []
ground_name Fast = 0x66 ∷ 0x61 ∷ 0x73 ∷ 0x74 ∷ []

-- its byte in a lent buffer (RULES, "The ground of a beat")
abbrev pub ground_byte : Ground → ℕ
ground_byte BufferHit = 1
ground_byte Sequential = 2
ground_byte ByFlag = 3
ground_byte ByBlock = 4
ground_byte ByAddress = 5
ground_byte EwramBus = 6
ground_byte SramBus = 7
ground_byte VideoBus = 8
ground_byte Fast = 9

-- a halfword of a window
abbrev pub window_cycles : Waits → Option RomWindow → AccessKind → ℕ
window_cycles t (Some win) k = rom_half_cycles t win k
window_cycles t None k = 0

-- its cycles, under WAITCNT `w`, in the window `v`, of a beat in EWRAM of size `z` (RULES, "The ground of a beat")
abbrev pub ground_cycles : ℕ → Option RomWindow → AccessSize → Ground → ℕ
ground_cycles w v z BufferHit = 1
ground_cycles w v z Sequential = window_cycles (rom_waits_of w) v Seq
ground_cycles w v z ByFlag = window_cycles (rom_waits_of w) v Nonseq
ground_cycles w v z ByBlock = window_cycles (rom_waits_of w) v Nonseq
ground_cycles w v z ByAddress = window_cycles (rom_waits_of w) v Nonseq
ground_cycles w v z EwramBus = ewram_cycles z
ground_cycles w v z SramBus = sram_byte_cycles (sram_waits w)
ground_cycles w v z VideoBus = video_ram_cycles Half
ground_cycles w v z Fast = fixed_fast_cycles

-- ---- the grounds of a fetch. `hits` tells of an address whether the buffer's head stands there

-- a half from ROM: a hit comes before the block, which goes by the address as given, and the block before the flag
-- (RULES, "The ground of a beat")
unfoldable pub half_ground : (ℕ → Bool) → Bool → ℕ → Ground
half_ground hits forced a =
    if hits a then BufferHit
    else if force_nonseq a then ByBlock
    else if forced then ByFlag
    else Sequential

-- an ARM opcode is two halves, of which the flag makes the first one nonsequential. Past the last window too, at 0x0DFFFFFE and
-- 0x0DFFFFFF, the second is one of ROM: it is priced by the first one's window
abbrev pub rom_grounds : (ℕ → Bool) → Bool → ℕ → IsaState → List Ground
rom_grounds hits forced a isa = wide (code_size isa) (half_ground hits forced a) (half_ground hits false (further 2 a))

-- a fetch outside ROM as a whole: EWRAM or fast
unfoldable pub plain_ground : ℕ → Ground
plain_ground a = if eqb (page a) 0x02 then EwramBus else Fast

-- it is from ROM when its address lies in a window
abbrev pub fetch_grounds_in : (ℕ → Bool) → Bool → ℕ → IsaState → Option RomWindow → List Ground
fetch_grounds_in hits forced a isa (Some win) = rom_grounds hits forced a isa
fetch_grounds_in hits forced a isa None = plain_ground a ∷ []

unfoldable pub fetch_grounds : (ℕ → Bool) → Bool → IsaState → ℕ → List Ground
fetch_grounds hits forced isa a = fetch_grounds_in hits forced a isa (window a)

-- ---- the grounds of a data access

abbrev pub is_seq : AccessKind → Bool
is_seq Nonseq = false
is_seq Seq = true

-- of a kind that no block made
abbrev pub kind_ground : AccessKind → Ground
kind_ground Nonseq = ByAddress
kind_ground Seq = Sequential

-- the first beat of an access to ROM at the lowered address `n`, after the access `p`: the block comes before the address
-- (RULES, "The ground of a beat")
unfoldable pub first_ground : Previous → ℕ → Ground
first_ground p n = if force_nonseq n then ByBlock else kind_ground (kind_after p n)

-- a ROM, EWRAM, palette or VRAM word has two beats, any other access one; in ROM the first beat's ground is `first`
abbrev pub data_grounds_on : AccessSize → Ground → BusKind → List Ground
data_grounds_on z first OnEwram = wide z EwramBus EwramBus
data_grounds_on z first OnVideo = wide z VideoBus VideoBus
data_grounds_on z first (OnRom win) = wide z first Sequential
data_grounds_on z first OnSram = SramBus ∷ []
data_grounds_on z first OnFast = Fast ∷ []

-- by the region of the address (RULES, "The ground of a beat")
unfoldable pub data_grounds : Previous → AccessSize → ℕ → List Ground
data_grounds p z a = data_grounds_on z (first_ground p (aligned z a)) (bus_kind (decode a))

-- the words of a block, each after the one before it, in order
abbrev pub block_grounds : Previous → ℕ → ℕ → List Ground
block_grounds p a zero = []
block_grounds p a (suc n) = data_grounds p Word a ++ block_grounds (access_of Word a) (further 4 a) n

-- ---- the grounds of a step, by the clock before it

-- by what of a clock they depend on: where the buffer hits, the force flag and the previous access. FETCH has none
abbrev pub grounds_by : (ℕ → Bool) → Bool → Previous → Step → List Ground
grounds_by hits forced p (Read z a) = data_grounds p z a
grounds_by hits forced p (Write z a v) = data_grounds p z a
grounds_by hits forced p (Waitcnt v) = []
grounds_by hits forced p (Idle n) = []
grounds_by hits forced p (Fetch a) = []
grounds_by hits forced p (Restart a) = []
grounds_by hits forced p (Instruction v isa a op jump) = fetch_grounds hits forced isa a
grounds_by hits forced p (Pc a) = []
grounds_by hits forced p (Latch v) = []
grounds_by hits forced p (BlockRead a n) = block_grounds p a n
grounds_by hits forced p (BlockWrite a n) = block_grounds p a n

-- in order, one a beat (RULES, "The ground of a beat")
abbrev pub grounds : Clock → Step → List Ground
grounds c x = grounds_by (hit c.prefetch) c.force_next_fetch_n (previous c) x

-- of each step of a list
unfoldable pub grounds_after : Clock → List Step → List (List Ground)
grounds_after c [] = []
grounds_after c (x ∷ xs) = grounds c x ∷ grounds_after (clock_after c x) xs

-- ---- what they come to

-- the cycles of each ground of a data access: a beat in EWRAM is a halfword
abbrev pub data_worths : ℕ → Previous → AccessSize → ℕ → List ℕ
data_worths w p z a = map (ground_cycles w (window a) Half) (data_grounds p z a)

-- of the words of a block, each by its own window
abbrev pub block_worths : ℕ → Previous → ℕ → ℕ → List ℕ
block_worths w p a zero = []
block_worths w p a (suc n) = data_worths w p Word a ++ block_worths w (access_of Word a) (further 4 a) n

-- of a step, one a ground; a fetch from EWRAM is one beat
abbrev pub worths : Clock → Step → List ℕ
worths c (Read z a) = data_worths c.waitcnt (previous c) z a
worths c (Write z a v) = data_worths c.waitcnt (previous c) z a
worths c (Waitcnt v) = []
worths c (Idle n) = []
worths c (Fetch a) = []
worths c (Restart a) = []
worths c (Instruction v isa a op jump) =
    map (ground_cycles c.waitcnt (window a) (code_size isa)) (fetch_grounds (hit c.prefetch) c.force_next_fetch_n isa a)
worths c (Pc a) = []
worths c (Latch v) = []
worths c (BlockRead a n) = block_worths c.waitcnt (previous c) a n
worths c (BlockWrite a n) = block_worths c.waitcnt (previous c) a n

-- the internal cycle, which no ground has
abbrev pub internal_cycle : Step → ℕ
internal_cycle (Read z a) = 0
internal_cycle (Write z a v) = 0
internal_cycle (Waitcnt v) = 0
internal_cycle (Idle n) = 0
internal_cycle (Fetch a) = 0
internal_cycle (Restart a) = 0
internal_cycle (Instruction v isa a op jump) = bit (internal v isa op)
internal_cycle (Pc a) = 0
internal_cycle (Latch v) = 0
internal_cycle (BlockRead a n) = 0
internal_cycle (BlockWrite a n) = 0

-- the steps whose price has grounds
abbrev pub is_priced : Step → Bool
is_priced (Read z a) = true
is_priced (Write z a v) = true
is_priced (Waitcnt v) = false
is_priced (Idle n) = false
is_priced (Fetch a) = false
is_priced (Restart a) = false
is_priced (Instruction v isa a op jump) = true
is_priced (Pc a) = false
is_priced (Latch v) = false
is_priced (BlockRead a n) = true
is_priced (BlockWrite a n) = true

-- ---- when a ground is named: the condition of each, at beat j of a step

abbrev pub same_ground : Ground → Ground → Bool
same_ground g h = eqb (ground_byte g) (ground_byte h)

-- a half from ROM, by whether it hits, begins a block and is forced
abbrev pub half_condition : Bool → Bool → Bool → Ground → Bool
half_condition hits block forced BufferHit = hits
half_condition hits block forced Sequential = not hits && not block && not forced
half_condition hits block forced ByFlag = not hits && not block && forced
half_condition hits block forced ByBlock = not hits && block
half_condition hits block forced ByAddress = false
half_condition hits block forced EwramBus = false
half_condition hits block forced SramBus = false
half_condition hits block forced VideoBus = false
half_condition hits block forced Fast = false

-- the first beat of an access to ROM, by whether it begins a block, and by its kind after the previous access
abbrev pub first_condition : Bool → AccessKind → Ground → Bool
first_condition block k BufferHit = false
first_condition block k Sequential = not block && is_seq k
first_condition block k ByFlag = false
first_condition block k ByBlock = block
first_condition block k ByAddress = not block && not (is_seq k)
first_condition block k EwramBus = false
first_condition block k SramBus = false
first_condition block k VideoBus = false
first_condition block k Fast = false

-- a fetch outside ROM
abbrev pub plain_condition : ℕ → Ground → Bool
plain_condition a g = if eqb (page a) 0x02 then same_ground EwramBus g else same_ground Fast g

-- by the beat: the first has the one condition, the second, which only a word has, the other
abbrev pub wide_condition : AccessSize → (Ground → Bool) → (Ground → Bool) → ℕ → Ground → Bool
wide_condition z first second zero g = first g
wide_condition Byte first second (suc zero) g = false
wide_condition Half first second (suc zero) g = false
wide_condition Word first second (suc zero) g = second g
wide_condition z first second (suc (suc j)) g = false

-- one beat alone
abbrev pub one_condition : (Ground → Bool) → ℕ → Ground → Bool
one_condition first j g = wide_condition Byte first first j g

abbrev pub fetch_condition_in : (ℕ → Bool) → Bool → IsaState → ℕ → ℕ → Ground → Option RomWindow → Bool
fetch_condition_in hits forced isa a j g (Some win) =
    wide_condition (code_size isa) (half_condition (hits a) (force_nonseq a) forced)
    (half_condition (hits (further 2 a)) (force_nonseq (further 2 a)) false) j g
fetch_condition_in hits forced isa a j g None = one_condition (plain_condition a) j g

abbrev pub data_condition_on : AccessSize → (Ground → Bool) → ℕ → Ground → BusKind → Bool
data_condition_on z first j g OnEwram = wide_condition z (same_ground EwramBus) (same_ground EwramBus) j g
data_condition_on z first j g OnVideo = wide_condition z (same_ground VideoBus) (same_ground VideoBus) j g
data_condition_on z first j g (OnRom win) = wide_condition z first (same_ground Sequential) j g
data_condition_on z first j g OnSram = one_condition (same_ground SramBus) j g
data_condition_on z first j g OnFast = one_condition (same_ground Fast) j g

abbrev pub data_condition : Previous → AccessSize → ℕ → ℕ → Ground → Bool
data_condition p z a j g =
    data_condition_on z (first_condition (force_nonseq (aligned z a)) (kind_after p (aligned z a))) j g (bus_kind (decode a))

-- how many beats a word has: two on the buses of 16 bits, else one
abbrev pub word_beats : BusKind → ℕ
word_beats OnEwram = 2
word_beats OnVideo = 2
word_beats (OnRom win) = 2
word_beats OnSram = 1
word_beats OnFast = 1

-- a beat of a block is one of its first word, or of the words behind it
abbrev pub block_condition : Previous → ℕ → ℕ → ℕ → Ground → Bool
block_condition p a zero j g = false
block_condition p a (suc n) j g =
    let beats = word_beats (bus_kind (decode a)) in
    let behind = block_condition (access_of Word a) (further 4 a) n (j - beats) g in
    if ltb j beats then data_condition p Word a j g else behind

-- whether `g` decides beat `j` of a step (RULES, "The ground of a beat")
abbrev pub condition : Clock → Step → ℕ → Ground → Bool
condition c (Read z a) j g = data_condition (previous c) z a j g
condition c (Write z a v) j g = data_condition (previous c) z a j g
condition c (Waitcnt v) j g = false
condition c (Idle n) j g = false
condition c (Fetch a) j g = false
condition c (Restart a) j g = false
condition c (Instruction v isa a op jump) j g =
    fetch_condition_in (hit c.prefetch) c.force_next_fetch_n isa a j g (window a)
condition c (Pc a) j g = false
condition c (Latch v) j g = false
condition c (BlockRead a n) j g = block_condition (previous c) a n j g
condition c (BlockWrite a n) j g = block_condition (previous c) a n j g

-- the ground of beat j, if there is one
abbrev pub beat_at : List Ground → ℕ → Option Ground
beat_at [] j = None
beat_at (g ∷ gs) zero = Some g
beat_at (g ∷ gs) (suc j) = beat_at gs j

-- ---- a run with grounds

-- the bytes of a step
abbrev pub grounds_length : ℕ
grounds_length = 32

-- a byte a beat, the rest zero
abbrev pub beat_bytes : List Ground → List ℕ
beat_bytes gs = map ground_byte gs ++ replicate (grounds_length - length gs) 0

abbrev pub grounds_bytes : List (List Ground) → List ℕ
grounds_bytes gs = blocks beat_bytes gs

-- back from a byte: 0, and what is no ground's byte, is no beat
unfoldable pub beat_ground : ℕ → Option Ground
beat_ground b =
    if eqb b 1 then Some BufferHit
    else if eqb b 2 then Some Sequential
    else if eqb b 3 then Some ByFlag
    else if eqb b 4 then Some ByBlock
    else if eqb b 5 then Some ByAddress
    else if eqb b 6 then Some EwramBus
    else if eqb b 7 then Some SramBus
    else if eqb b 8 then Some VideoBus
    else if eqb b 9 then Some Fast
    else None

-- all that a caller lends
pub record Explaining : Type 0 where
  pub run : Lent
  pub grounds : List ℕ

-- what the caller gets and finds
pub record Explained : Type 0 where
  pub run : Outcome
  pub grounds : List ℕ

-- the run's table, with room for the grounds (RULES, "What a run with grounds is refused with")
abbrev pub grounds_rows : Explaining → List Row
grounds_rows e = second_rows e.run grounds_length (length e.grounds)

unfoldable pub grounds_verdict : Explaining → Verdict
grounds_verdict e = first_row (grounds_rows e)

-- the grounds of the steps of a sheet, from the clock of the lent board on
unfoldable pub run_grounds : Lent → List (List Ground)
run_grounds i = grounds_after (clock_of i.board) (steps_of i.sheet)

-- a refused run tells none; an accepted one those of each record, and the bytes behind them are untouched
abbrev pub grounds_for : Explaining → Verdict → List ℕ
grounds_for e (Refused r) = e.grounds
grounds_for e Accepted = grounds_bytes (run_grounds e.run) ++ drop (grounds_length * record_count e.run.sheet) e.grounds

-- it is a whole run besides
abbrev pub explain_by : Explaining → Verdict → Explained
explain_by e v = record { run = outcome_by e.run v; grounds = grounds_for e v }

-- all that a call gives and leaves (RULES, "What a run with grounds is refused with")
unfoldable pub explain : Explaining → Explained
explain e = explain_by e (grounds_verdict e)

-- ---- the claims

-- where the grounds of step k begin
abbrev pub grounds_start : ℕ → ℕ
grounds_start k = grounds_length * k

-- the clock before step k, the step, and its grounds
abbrev pub clock_at : Lent → ℕ → Clock
clock_at i k = (state_at i k).board.clock

abbrev pub step_at : Lent → ℕ → Step
step_at i k = step_of (record_at i.sheet k)

abbrev pub grounds_at : Lent → ℕ → List Ground
grounds_at i k = grounds (clock_at i k) (step_at i k)

-- what every accepted run with grounds has by itself
pub record Explains (e : Explaining) (x : Explained) : Type 0 where
  -- it is a whole run besides
  pub run : x.run ≡ outcome e.run
  -- the 32 bytes of each step, by the board before it
  pub bytes : (k : ℕ) → k < record_count e.run.sheet
      → take grounds_length (drop (grounds_start k) x.grounds) ≡ beat_bytes (grounds_at e.run k)
  -- the cycles of the grounds and the internal cycle make the cycles that the step is answered
  pub cycles : (k : ℕ) → is_priced (step_at e.run k) ≡ true
      → (answer_at e.run k).cycles
      ≡ sum (worths (clock_at e.run k) (step_at e.run k)) + internal_cycle (step_at e.run k)
  -- other kinds have none
  pub none : (k : ℕ) → is_priced (step_at e.run k) ≡ false → grounds_at e.run k ≡ []
  -- a ground is named at a beat exactly when its condition decides that beat
  pub named : (k j : ℕ) (g : Ground)
      → Exactly (beat_at (grounds_at e.run k) j ≡ Some g) (condition (clock_at e.run k) (step_at e.run k) j g ≡ true)
  -- one ground a number of cycles; at most two an access or a fetch, and 32 a step
  pub each : (k : ℕ) → length (worths (clock_at e.run k) (step_at e.run k)) ≡ length (grounds_at e.run k)
  pub few : (k : ℕ) → length (grounds_at e.run k) ≤ 2 * turns_in (step_at e.run k)
  pub room : (k : ℕ) → length (grounds_at e.run k) ≤ grounds_length
  -- bytes beyond the grounds are untouched
  pub beyond : drop (grounds_start (record_count e.run.sheet)) x.grounds
      ≡ drop (grounds_start (record_count e.run.sheet)) e.grounds

-- what two accepted runs have whose sheets and first boards are alike: the same grounds, and what `Demand3` says
-- (RULES, "What two runs have in common")
pub record SameGrounds (e f : Explaining) (x y : Explained) : Type 0 where
  pub times : Demand3 e.run f.run x.run y.run
  pub same_grounds : (j : ℕ) → j < grounds_start (record_count e.run.sheet) → byte_at x.grounds j ≡ byte_at y.grounds j
  pub one : Explains e x
  pub other : Explains f y
