-- Words of the laws in proofs/Laws/Previous.antt, as definitions. Those laws:
-- Runs of data accesses: when the previous access is sound, what the kind of the next one follows from, what that makes of its
-- price, and which steps set, keep and clear it.
use Rattle.std.specs.Prelude.{◌≡◌, ◌≢◌, true, List, [], ◌∷◌, ℕ, ◌%◌, ◌^◌, ◌<◌}
use Rattle.model.specs.Base.{further}
use Rattle.model.specs.Wait.{size_bytes_of, access_size_of, aligned}
use Rattle.model.specs.Price.{access_of, no_access}
use Rattle.model.specs.declared.Previous.{Previous}
use Rattle.model.specs.Price.{block_previous}
use Rattle.model.specs.Step.{timed, clock_after}
use Rattle.model.specs.BoardBytes.{sound_previous}
use Rattle.model.specs.Laws.Window.{InRom}
use Rattle.model.specs.declared.Region.{Region}
use Rattle.model.specs.declared.Region.TheVariants.{Bios, UnusedLow, Ewram, Iwram, Io, Palette, Vram, Oam}
use Rattle.model.specs.declared.Region.TheVariants.{GamePakRomWs0, GamePakRomWs1, GamePakRomWs2, GamePakSram, UnusedHigh}
use Rattle.model.specs.declared.AccessSize.{AccessSize}
use Rattle.model.specs.declared.Clock.{Clock}
use Rattle.model.specs.declared.Step.{Step}
use Rattle.model.specs.declared.Step.TheVariants.{Read, Write, Waitcnt, Idle, Fetch, Restart, Instruction, Pc, Latch}
use Rattle.model.specs.declared.Step.TheVariants.{BlockRead, BlockWrite}

-- a sound previous access: its address has 32 bits, and it passes the test
pub record SoundPrevious (p : Previous) : Type 0 where
  pub small : p.addr < 2 ^ 32
  pub tested : sound_previous p ≡ true

-- what the test says of an access that is there: a size, and a multiple of it
pub record There (p : Previous) : Type 0 where
  pub sized : size_bytes_of (access_size_of p.size) ≡ p.size
  pub multiple : p.addr % p.size ≡ 0

abbrev pub regions : List Region
regions =
    Bios ∷ UnusedLow ∷ Ewram ∷ Iwram ∷ Io ∷ Palette ∷ Vram ∷ Oam
    ∷ GamePakRomWs0 ∷ GamePakRomWs1 ∷ GamePakRomWs2 ∷ GamePakSram ∷ UnusedHigh ∷ []

-- an access that goes on in ROM where one of size `y` at `b` ended, and begins no block
pub record Continues (y : AccessSize) (b : ℕ) (z : AccessSize) (a : ℕ) : Type 0 where
  pub rom : InRom a
  pub goes_on : aligned z a ≡ further (size_bytes_of y) (aligned y b)
  pub no_block : aligned z a % 0x20000 ≢ 0

-- a data access reads, or writes a value
pub data Way : Type 0 where
  Reading : Way
  Writing : ℕ → Way

abbrev pub access : Way → AccessSize → ℕ → Step
access Reading z a = Read z a
access (Writing v) z a = Write z a v

-- what it costs, by itself and after another
abbrev pub access_cost : Clock → Way → AccessSize → ℕ → ℕ
access_cost c m z a = (timed c (access m z a)).cycles

abbrev pub cost_after : Clock → Way → AccessSize → ℕ → Way → AccessSize → ℕ → ℕ
cost_after c m y b n z a = access_cost (clock_after c (access m y b)) n z a

-- READ, WRITE and the words of a block set it; IDLE, PC and LATCH keep it; the others clear it
abbrev pub previous_after : Previous → Step → Previous
previous_after p (Read z a) = access_of z a
previous_after p (Write z a v) = access_of z a
previous_after p (Waitcnt v) = no_access
previous_after p (Idle n) = p
previous_after p (Fetch a) = no_access
previous_after p (Restart a) = no_access
previous_after p (Instruction v isa a op jump) = no_access
previous_after p (Pc a) = p
previous_after p (Latch v) = p
previous_after p (BlockRead a n) = block_previous p a n
previous_after p (BlockWrite a n) = block_previous p a n
