-- Words of the laws in proofs/Laws/Near.antt, as definitions. Those laws:
-- Addresses of one aligned word meet one memory, at neighbouring places of it. So an aligned access, of whatever size, lies
-- in one memory, though each of its bytes is decoded by itself.
use Rattle.std.specs.Prelude.{Bool, not, ℕ, ◌+◌, ◌-◌, ◌%◌}
use Rattle.std.specs.Prelude.{if◌then◌else◌}
use Rattle.std.specs.Prelude.{Option, Some, None}
use Rattle.model.specs.Base.{lowered}
use Rattle.model.specs.declared.Target.{Target}
use Rattle.model.specs.declared.Target.TheVariants.{Unused, SystemRom, GamePakRom, Plain, Video, Sram}

-- byte j of the aligned word around a place
abbrev pub around : ℕ → ℕ → ℕ
around i j = lowered 4 i + j

abbrev pub moved : Target → ℕ → Target
moved Unused j = Unused
moved SystemRom j = SystemRom
moved GamePakRom j = GamePakRom
moved (Plain p i) j = Plain p (around i j)
moved (Video m p i) j = Video m p (around i j)
moved (Sram p i) j = Sram p (around i j)

-- the place of an address in I/O, by the three tests of `io_offset`
abbrev pub io_at : Bool → Bool → Bool → ℕ → Option ℕ
io_at t u w x = if not t then None else if u then Some (x % 0x10000) else if w then Some (x - 0x0400_0000) else None
