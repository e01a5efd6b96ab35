-- A step as the code does it: up to its idle cycles, and whole. What the functions are handed, and what they promise, in the
-- definitions' words.
use Rattle.std.specs.Prelude.{◌≡◌, ℕ, List, [], length}
use Rattle.model.specs.Region.{decode}
use Rattle.model.specs.Waitcnt.{Waits, rom_waits_of}
use Rattle.model.specs.declared.Previous.{Previous}
use Rattle.model.specs.Memory.{lengths_sum, no_lengths}
use Rattle.model.specs.Store.{landed}
use Rattle.model.specs.Step.{Media, State, Timed, timed, Changed, changed, hits_of, stepped, answer, board_with}
use Rattle.model.specs.Laws.Previous.{SoundPrevious}
use Rattle.model.specs.Laws.Bounds.{Short}
use Rattle.model.specs.declared.Region.{Region}
use Rattle.model.specs.declared.AccessSize.{AccessSize}
use Rattle.model.specs.declared.Clock.{Clock}
use Rattle.model.specs.declared.Contents.{Contents}
use Rattle.model.specs.declared.Lengths.{Lengths}
use Rattle.model.specs.declared.Step.{Step}
use Rattle.model.specs.declared.Step.TheVariants.{Read, Write}
use Rattle.loads.specs.Bus.{bus, Parted, parted}
use Rattle.step.specs.declared.Begun.{Begun}
use Rattle.step.specs.declared.Stepped.{Stepped}

-- ---- what is lent

abbrev pub media_from : List ℕ → List ℕ → Lengths → Media
media_from bios rom l = record { bios = bios; rom = rom; lengths = l }

-- what the loads of a step see
abbrev pub seen : Media → Contents → List ℕ → Parted
seen m d store = parted (bus d.cpu_pc d.last_bios_opcode m.bios m.rom store) m.lengths

abbrev pub state_from : Clock → List ℕ → Contents → List ℕ → State
state_from clock halves contents store = record { board = board_with clock halves contents; store = store }

-- what a step asks: the waits of the register, lengths that add up to the store, and words that a block may have
pub record Takes (c : Clock) (t : Waits) (l : Lengths) (store : List ℕ) (x : Step) : Type 0 where
  pub waits : t ≡ rom_waits_of c.waitcnt
  pub whole : lengths_sum l ≡ length store
  pub short : Short x

-- what a price asks: the waits of the register, a sound previous access, and the region of the address
pub record Priceable (w : ℕ) (p : Previous) (t : Waits) (a : ℕ) (r : Region) : Type 0 where
  pub waits : t ≡ rom_waits_of w
  pub sound : SoundPrevious p
  pub region : r ≡ decode a

-- ---- up to its idle cycles

-- the two sides of a step, in one record of the code's
abbrev pub joining : Timed → Changed → Begun
joining t d =
    record { clock = t.clock; idle = t.idle; cycles = t.cycles; hits = hits_of t d; value = d.value; contents = d.contents }

abbrev pub begun : Media → State → Step → Begun
begun m s x = joining (timed s.board.clock x) (changed m s x)

pub record Begins (m : Media) (s : State) (x : Step) (r : Begun) (store : List ℕ) : Type 0 where
  pub record_is : r ≡ begun m s x
  pub store_is : store ≡ landed s.store (changed m s x).puts

-- a step that no memory enters
abbrev pub memoryless : Clock → List ℕ → Contents → Step → Begun
memoryless c h d x = begun (media_from [] [] no_lengths) (state_from c h d []) x

abbrev pub Reads : Clock → Contents → AccessSize → ℕ → Media → List ℕ → Begun → Type 0
Reads c d z a m store r = r ≡ begun m (state_from c [] d store) (Read z a)

abbrev pub Writes : Clock → Contents → AccessSize → ℕ → ℕ → Lengths → List ℕ → Begun → List ℕ → Type 0
Writes c d z a v l before r after = Begins (media_from [] [] l) (state_from c [] d before) (Write z a v) r after

-- ---- whole

-- what a step leaves, and its answer
pub record Steps (m : Media) (s : State) (x : Step) (r : Stepped) (halves store : List ℕ) : Type 0 where
  pub state_is : state_from r.machine.clock halves r.machine.contents store ≡ stepped m s x
  pub answer_is : r.answer ≡ answer m s x
