-- BIOS loads from outside the BIOS, and what an empty cartridge slot shows.
-- From GBATEK, "GBA Unpredictable Things" (reading from BIOS memory, unused memory); src/bus/openbus.rs.
use Rattle.std.specs.Prelude.{ℕ, ◌+◌, ◌*◌, ◌/◌, ◌%◌, Bool, nat_lt}
use Rattle.std.specs.Prelude.{if◌then◌else◌}
use Rattle.std.specs.Prelude.{Option, Some, None}
use Rattle.model.specs.Base.{further}
use Rattle.model.specs.Region.{bios_size}
use Rattle.openbus.specs.declared.OpenBusState.{OpenBusState}

-- the latch that holds an opcode; 0 before any was fetched
abbrev pub latching : ℕ → OpenBusState
latching op = record { last_bios_opcode = op }

abbrev pub in_bios : ℕ → Bool
in_bios pc = nat_lt pc bios_size

-- a load from outside the BIOS gets the last opcode that was fetched there
unfoldable pub protected_read : ℕ → OpenBusState → Option ℕ
protected_read pc s = if in_bios pc then None else Some s.last_bios_opcode

-- address and data share their lines, so an empty slot gives back address / 2
abbrev pub empty_halfword : ℕ → ℕ
empty_halfword a = a / 2 % 0x1_0000

abbrev pub empty_word : ℕ → ℕ
empty_word a = empty_halfword a + 0x1_0000 * empty_halfword (further 2 a)
