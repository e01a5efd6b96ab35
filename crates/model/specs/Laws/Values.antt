-- Words of the laws in proofs/Laws/Values.antt, as definitions. Those laws:
-- Bytes stay bytes: over memories of bytes every load fits its size, every byte that lands is one, and every halfword that
-- the prefetch brings in has 16 bits. So each value that a run answers fits its field.
use Rattle.std.specs.Prelude.{◌≡◌, ℕ, ◌*◌, ◌^◌, ◌≤◌, ◌<◌, length, get_or}
use Rattle.model.specs.Base.{AllBytes}
use Rattle.model.specs.Load.{Bus}
use Rattle.model.specs.Store.{Put}
use Rattle.model.specs.Step.{Media, State}
use Rattle.model.specs.Step.{Changed}
use Rattle.model.specs.Laws.Choice.{All}
use Rattle.model.specs.declared.Step.{Step}
use Rattle.model.specs.declared.Step.TheVariants.{Latch}

-- a bus over memories of bytes
pub record BusBytes (b : Bus) : Type 0 where
  pub bios : AllBytes b.bios
  pub rom : AllBytes b.rom
  pub store : AllBytes b.store

abbrev pub PutByte : Put → Type 0
PutByte p = p.byte < 256

-- what is lent and not changed is bytes
pub record MediaBytes (m : Media) : Type 0 where
  pub bios : AllBytes m.bios
  pub rom : AllBytes m.rom

-- a state whose contents fit their places
pub record Held (s : State) : Type 0 where
  pub store : AllBytes s.store
  pub halves : (j : ℕ) → get_or s.board.halves j 0 < 0x1_0000
  pub latch : s.board.contents.last_bios_opcode < 2 ^ 32

-- a step whose latch has 32 bits
abbrev pub SmallLatch : Step → Type 0
SmallLatch x = (v : ℕ) → x ≡ Latch v → v < 2 ^ 32

-- what n accesses do to the contents fits its places: each lands four bytes at most
pub record Fitting (n : ℕ) (d : Changed) : Type 0 where
  pub value : d.value < 2 ^ 32
  pub latch : d.contents.last_bios_opcode < 2 ^ 32
  pub puts : All PutByte d.puts
  pub few : length d.puts ≤ 4 * n
