-- Words of the laws in proofs/Laws/Rules.antt, as definitions. Those laws:
-- Single rules of docs/RULES.md that its reader may look for, each as a law about the definitions: WAITCNT's bits, when a fetch
-- hits, when it drains, what a restart leaves, when idle cycles change nothing, and who moves the force flag.
use Rattle.std.specs.Prelude.{◌≡◌, Bool, true, false, ◌≢◌, ℕ, ◌/◌, ◌%◌}
use Rattle.model.specs.Base.{lowered}
use Rattle.model.specs.Waitcnt.{Waits}
use Rattle.model.specs.Wait.{rom_half_cycles}
use Rattle.model.specs.Prefetch.{restart}
use Rattle.model.specs.Prefetch.{ended}
use Rattle.model.specs.declared.PrefetchBuffer.{PrefetchBuffer}
use Rattle.model.specs.declared.RomWindow.{RomWindow}
use Rattle.model.specs.declared.AccessKind.TheVariants.{Nonseq}
use Rattle.model.specs.declared.IsaState.{IsaState}
use Rattle.model.specs.declared.Version.{Version}
use Rattle.model.specs.declared.Step.{Step}
use Rattle.model.specs.declared.Step.TheVariants.{Instruction}

pub record WrittenBits (old v new : ℕ) : Type 0 where
  pub low : new % 0x2000 ≡ v % 0x2000
  pub bit13 : new / 0x2000 % 2 ≡ 0
  pub bit14 : new / 0x4000 % 2 ≡ v / 0x4000 % 2
  pub bit15 : new / 0x8000 % 2 ≡ old / 0x8000 % 2
  pub above : new / 0x1_0000 ≡ 0

-- a hit: the switch is on, a halfword stands, and its address is the lowered one
pub record Hits (p : PrefetchBuffer) (a : ℕ) : Type 0 where
  pub on : p.enabled ≡ true
  pub some : p.count ≢ 0
  pub there : lowered 2 a ≡ p.head_addr

-- the first two beats are nonsequential, the second at the next halfword's window
pub record TwoNonseqBeats (t : Waits) (p : PrefetchBuffer) (a : ℕ) (first second : RomWindow) : Type 0 where
  pub one : (restart t p a).wait_left ≡ rom_half_cycles t first Nonseq
  pub two : (ended t (restart t p a)).wait_left ≡ rom_half_cycles t second Nonseq
  pub then_sequential : (ended t (restart t p a)).first_beat ≡ false

-- and no other step moves it
abbrev pub NoInstruction : Step → Type 0
NoInstruction x = (v : Version) (isa : IsaState) (a op : ℕ) (jump : Bool) → x ≢ Instruction v isa a op jump
