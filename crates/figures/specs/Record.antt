-- The bytes of a figure's record, as the model reads them, and the step that they are to be. From docs/RULES.md, "The sheet"
-- and "The kinds of record". Assumes nothing.
use Rattle.std.specs.Prelude.{List, ℕ, false}
use Rattle.model.specs.Base.{byte_at, number}
use Rattle.model.specs.declared.IsaState.TheVariants as isa
use Rattle.model.specs.declared.SheetRecord.{SheetRecord}
use Rattle.model.specs.declared.Step.{Step}
use Rattle.model.specs.declared.Step.TheVariants as step
use Rattle.model.specs.declared.Version.TheVariants.{One}
use Rattle.figures.specs.declared.record.Record.{Record}
use Rattle.figures.specs.declared.record.Record.TheVariants.{Read, Write, Waitcnt, Idle, Fetch, Restart, Arm, Thumb, Pc, Latch}

-- the record of version 1 that stands in these bytes
abbrev pub record_in : List ℕ → SheetRecord
record_in b =
    record {
      version = One;
      kind = byte_at b 0;
      size = byte_at b 1;
      flag = byte_at b 2;
      zero_byte = byte_at b 3;
      address = number 4 b 4;
      value = number 4 b 8;
    }

-- one without flag
abbrev pub plain_record : ℕ → ℕ → ℕ → ℕ → SheetRecord
plain_record kind size address value =
    record { version = One; kind = kind; size = size; flag = 0; zero_byte = 0; address = address; value = value }

-- what a record of a figure stands for
abbrev pub step_for : Record → Step
step_for (Read size address) = step.Read size address
step_for (Write size address value) = step.Write size address value
step_for (Waitcnt value) = step.Waitcnt value
step_for (Idle cycles) = step.Idle cycles
step_for (Fetch address) = step.Fetch address
step_for (Restart address) = step.Restart address
step_for (Arm address opcode) = step.Instruction One isa.Arm address opcode false
step_for (Thumb address opcode) = step.Instruction One isa.Thumb address opcode false
step_for (Pc address) = step.Pc address
step_for (Latch value) = step.Latch value
