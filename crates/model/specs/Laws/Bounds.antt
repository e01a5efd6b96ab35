-- Words of the laws in proofs/Laws/Bounds.antt, as definitions. Those laws:
-- The least and the most that a beat, an access, a fetch and a step cost.
use Rattle.std.specs.Prelude.{Bool, true, ◌&&◌, List, [], ◌∷◌, ℕ, ◌+◌, ◌*◌, ◌≤◌, length, leb}
use Rattle.model.specs.Waitcnt.{Waits}
use Rattle.model.specs.Wait.{rom_half_cycles}
use Rattle.model.specs.Price.{Beat, BufferBeat, RomBeat, EwramBeat, SramBeat, VideoBeat, FastBeat}
use Rattle.model.specs.Step.{turns_in, Timed}
use Rattle.model.specs.Sheet.{max_words}
use Rattle.model.specs.Laws.Choice.{All}
use Rattle.model.specs.declared.RomWindow.{RomWindow}
use Rattle.model.specs.declared.AccessKind.{AccessKind}
use Rattle.model.specs.declared.Step.{Step}
use Rattle.model.specs.declared.Step.TheVariants.{Read, Write, Waitcnt, Idle, Fetch, Restart, Instruction, Pc, Latch}
use Rattle.model.specs.declared.Step.TheVariants.{BlockRead, BlockWrite}

pub record Between (low high n : ℕ) : Type 0 where
  pub least : low ≤ n
  pub most : n ≤ high

-- every entry of a list is at most n
abbrev pub all≤ : ℕ → List ℕ → Bool
all≤ n [] = true
all≤ n (x ∷ xs) = leb x n && all≤ n xs

-- waits of which no beat costs more than 9; those that follow from WAITCNT are such
pub record SmallWaits (t : Waits) : Type 0 where
  pub small : (win : RomWindow) (k : AccessKind) → rom_half_cycles t win k ≤ 9

-- a beat whose waits are those of WAITCNT
abbrev pub Regular : Beat → Type 0
Regular BufferBeat = Unit {0}
Regular (RomBeat win k) = Unit {0}
Regular (EwramBeat z) = Unit {0}
Regular (SramBeat waits) = waits ≤ 8
Regular VideoBeat = Unit {0}
Regular FastBeat = Unit {0}

-- one beat or two
pub record Beats (bs : List Beat) : Type 0 where
  pub some : 1 ≤ length bs
  pub few : length bs ≤ 2
  pub regular : All Regular bs

pub record Weight : Type 0 where
  pub instructions : ℕ
  pub accesses : ℕ
  pub idles : ℕ

abbrev pub weighing : ℕ → ℕ → ℕ → Weight
weighing i a d = record { instructions = i; accesses = a; idles = d }

abbrev pub weight : Step → Weight
weight (Read z a) = weighing 0 1 0
weight (Write z a v) = weighing 0 1 0
weight (Waitcnt v) = weighing 0 0 0
weight (Idle n) = weighing 0 0 n
weight (Fetch a) = weighing 0 0 0
weight (Restart a) = weighing 0 0 0
weight (Instruction v isa a op jump) = weighing 1 0 0
weight (Pc a) = weighing 0 0 0
weight (Latch v) = weighing 0 0 0
weight (BlockRead a n) = weighing 0 n 0
weight (BlockWrite a n) = weighing 0 n 0

-- a block has at least one word
abbrev pub Worded : Step → Type 0
Worded (Read z a) = Unit {0}
Worded (Write z a v) = Unit {0}
Worded (Waitcnt v) = Unit {0}
Worded (Idle n) = Unit {0}
Worded (Fetch a) = Unit {0}
Worded (Restart a) = Unit {0}
Worded (Instruction v isa a op jump) = Unit {0}
Worded (Pc a) = Unit {0}
Worded (Latch v) = Unit {0}
Worded (BlockRead a n) = 1 ≤ n
Worded (BlockWrite a n) = 1 ≤ n

-- and no more than there can be; any other step is short
pub record Short (x : Step) : Type 0 where
  pub some : Worded x
  pub short : turns_in x ≤ max_words

-- the least and the most that a weight costs
abbrev pub least : Weight → ℕ
least w = w.instructions + w.accesses + w.idles

abbrev pub most : Weight → ℕ
most w = 19 * w.instructions + 18 * w.accesses + w.idles

pub record Bounded (w : Weight) (t : Timed) : Type 0 where
  pub least : least w ≤ t.cycles
  pub most : t.cycles ≤ most w
  pub hits : t.hits ≤ 2
