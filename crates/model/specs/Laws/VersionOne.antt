-- Words of the laws in proofs/Laws/VersionOne.antt and VersionOneCalls.antt, as definitions. Those laws:
-- A version 1 sheet means what it did before version 2: it is examined, priced and run as the definitions of its time have it,
-- down to each step's time and price. And a reader of that time refuses a version 2 sheet with 2.
use Rattle.std.specs.Prelude.{◌≡◌, ℕ, ◌/◌, ◌%◌}
use Rattle.model.specs.VersionOne.{Step₁, Read₁, Write₁, Waitcnt₁, Idle₁, Fetch₁, Restart₁, Instruction₁, Pc₁, Latch₁}
use Rattle.model.specs.declared.Version.TheVariants.{One}
use Rattle.model.specs.declared.SheetRecord.{SheetRecord}
use Rattle.model.specs.declared.Step.{Step}
use Rattle.model.specs.declared.Step.TheVariants.{Read, Write, Waitcnt, Idle, Fetch, Restart, Instruction, Pc, Latch}

-- the opcode's bits 15-9
abbrev pub top7 : ℕ → ℕ
top7 raw = raw % 0x1_0000 / 512

-- the records of a version 1 sheet
abbrev pub OfOne : SheetRecord → Type 0
OfOne r = r.version ≡ One

-- a step of version 1 among today's
abbrev pub as_step : Step₁ → Step
as_step (Read₁ z a) = Read z a
as_step (Write₁ z a v) = Write z a v
as_step (Waitcnt₁ v) = Waitcnt v
as_step (Idle₁ n) = Idle n
as_step (Fetch₁ a) = Fetch a
as_step (Restart₁ a) = Restart a
as_step (Instruction₁ isa a op jump) = Instruction One isa a op jump
as_step (Pc₁ a) = Pc a
as_step (Latch₁ v) = Latch v
