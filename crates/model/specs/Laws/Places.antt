-- Words of the laws in proofs/Laws/Places.antt, as definitions. Those laws:
-- Places and sizes: every place that an address has in a memory lies within its physical size, a memory that it meets lies in
-- the store, and a store whose lengths fit has at most the bytes of the seven memories.
use Rattle.std.specs.Prelude.{Bool, ◌&&◌, ℕ, ◌+◌, ◌≤◌, ◌<◌, leb}
use Rattle.std.specs.Prelude.{Option, Some, None}
use Rattle.model.specs.Region.{bios_size, ewram_size, iwram_size, io_size}
use Rattle.model.specs.Region.{palette_size, vram_size, oam_size, rom_size, sram_size}
use Rattle.model.specs.Mirror.{ewram_offset, iwram_offset, palette_offset, oam_offset, vram_offset}
use Rattle.model.specs.Mirror.{rom_offset, sram_offset, io_offset, bios_offset}
use Rattle.model.specs.declared.Lengths.{Lengths}
use Rattle.model.specs.declared.Part.{Part}
use Rattle.model.specs.declared.Target.{Target}
use Rattle.model.specs.declared.Target.TheVariants.{Unused, SystemRom, GamePakRom, Plain, Video, Sram}

-- a place that is backed lies below n
abbrev pub Below : ℕ → Option ℕ → Type 0
Below n (Some i) = i < n
Below n None = Unit {0}

pub record Within (a : ℕ) : Type 0 where
  pub bios : Below bios_size (bios_offset a)
  pub ewram : ewram_offset a < ewram_size
  pub iwram : iwram_offset a < iwram_size
  pub io : Below io_size (io_offset a)
  pub palette : palette_offset a < palette_size
  pub vram : vram_offset a < vram_size
  pub oam : oam_offset a < oam_size
  pub rom : rom_offset a < rom_size
  pub sram : sram_offset a < sram_size

-- a place in a part of a store of n bytes
pub record InPart (n : ℕ) (p : Part) (i : ℕ) : Type 0 where
  pub end : p.base + p.size ≤ n
  pub small : i < ewram_size

-- it is one, where a memory of the store is met
abbrev pub Lies : ℕ → Target → Type 0
Lies n Unused = Unit {0}
Lies n SystemRom = Unit {0}
Lies n GamePakRom = Unit {0}
Lies n (Plain p i) = InPart n p i
Lies n (Video m p i) = InPart n p i
Lies n (Sram p i) = InPart n p i

-- the tests of the sizes, before the lengths are added
abbrev pub sizes_small : Lengths → ℕ → ℕ → Bool
sizes_small l bios rom =
    leb bios bios_size && leb rom rom_size && leb l.ewram ewram_size && leb l.iwram iwram_size && leb l.io io_size
    && leb l.palette palette_size && leb l.vram vram_size && leb l.oam oam_size && leb l.sram sram_size

pub record Sized (l : Lengths) : Type 0 where
  pub ewram : l.ewram ≤ ewram_size
  pub iwram : l.iwram ≤ iwram_size
  pub io : l.io ≤ io_size
  pub palette : l.palette ≤ palette_size
  pub vram : l.vram ≤ vram_size
  pub oam : l.oam ≤ oam_size
  pub sram : l.sram ≤ sram_size
