-- Words of the laws in proofs/Laws/BlockPlaces.antt, as definitions. Those laws:
-- The bytes of a block's words are at places of their own in the lent store: two of its words never meet one byte.
use Rattle.std.specs.Prelude.{◌≡◌, List, ℕ, ◌+◌, ◌-◌, ◌/◌, ◌%◌, ◌≤◌, ◌<◌, ltb}
use Rattle.std.specs.Prelude.{Option, Some, None}
use Rattle.std.specs.Prelude.{if◌then◌else◌}
use Rattle.model.specs.Base.{lowered}
use Rattle.model.specs.Memory.{ewram_part, iwram_part, io_part, palette_part, vram_part, oam_part, sram_part}
use Rattle.model.specs.Store.{Put}
use Rattle.model.specs.Laws.Choice.{All}
use Rattle.model.specs.declared.Lengths.{Lengths}
use Rattle.model.specs.declared.Part.{Part}
use Rattle.model.specs.declared.Target.{Target}
use Rattle.model.specs.declared.Target.TheVariants.{Unused, SystemRom, GamePakRom, Plain, Video, Sram}

-- a place of the store among the n bytes from an index of a memory on
pub record Among (p : Part) (i n j : ℕ) : Type 0 where
  pub from : p.base + i ≤ j
  pub to : j < p.base + i + n
  pub end : j < p.base + p.size

-- a place that is one of the word's that an address meets
abbrev pub MeetsByte : Target → ℕ → Type 0
MeetsByte Unused j = ⊥
MeetsByte SystemRom j = ⊥
MeetsByte GamePakRom j = ⊥
MeetsByte (Plain p i) j = Among p (lowered 4 i) 4 j
MeetsByte (Video m p i) j = Among p (lowered 4 i) 4 j
MeetsByte (Sram p i) j = Among p (lowered 4 i) 4 j

-- where the memory begins in which a place of the store is
abbrev pub base_under : Lengths → ℕ → ℕ
base_under l j =
    if ltb j (iwram_part l).base then (ewram_part l).base
    else if ltb j (io_part l).base then (iwram_part l).base
    else if ltb j (palette_part l).base then (io_part l).base
    else if ltb j (vram_part l).base then (palette_part l).base
    else if ltb j (oam_part l).base then (vram_part l).base
    else if ltb j (sram_part l).base then (oam_part l).base
    else (sram_part l).base

-- a place of the store that is told by an address: within 0x400 bytes they are in the same word
pub record TellsAddress (l : Lengths) (a j : ℕ) : Type 0 where
  pub row : (j - base_under l j) % 0x400 / 4 ≡ a % 0x400 / 4

-- a place in a memory, if there is one, is the address's within 0x400 bytes
abbrev pub FoldOf : ℕ → Option ℕ → Type 0
FoldOf a (Some i) = i % 0x400 ≡ a % 0x400
FoldOf a None = Unit {0}

abbrev pub Zeros : List Put → Type 0
Zeros ps = All (λ (p : Put). p.byte ≡ 0) ps
