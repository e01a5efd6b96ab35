-- Words of the laws in proofs/Laws/Versions.antt, as definitions. Those laws:
-- The two versions: the run refuses every version but 1 and 2 with 2, and so do the three other operations; when a block's record
-- is without fault, and what it stands for; and what version 2 moves in the price of an instruction, its `cart_idle` and its
-- force flag, as priced and as answered: Thumb's 0xBA to 0xBD, and nothing else.
use Rattle.std.specs.Prelude.{◌≡◌, ◌≢◌, Bool, true, false, not, ◌&&◌, ◌||◌, List, ℕ, ◌+◌, ◌/◌, ◌%◌, ◌≤◌, eqb}
use Rattle.model.specs.Base.{Exactly}
use Rattle.model.specs.Waitcnt.{Waits}
use Rattle.model.specs.Wait.{aligned, window, in_window, nonseq_if}
use Rattle.model.specs.Price.{price}
use Rattle.model.specs.Timing.{fetch_beats, idle_in}
use Rattle.model.specs.Prefetch.{ticks}
use Rattle.model.specs.Step.{Media, State, waits_of, code_fetched, stepped, answer}
use Rattle.model.specs.Sheet.{is_marked, version_of, step_of, faulty}
use Rattle.model.specs.VersionOne.{Instruction₁, stepped₁, answer₁}
use Rattle.model.specs.declared.PrefetchBuffer.{PrefetchBuffer}
use Rattle.model.specs.declared.TimingInput.{TimingInput}
use Rattle.model.specs.declared.InsnCycles.{InsnCycles}
use Rattle.model.specs.declared.Clock.{Clock}
use Rattle.model.specs.declared.Answer.{Answer}
use Rattle.model.specs.declared.IsaState.{IsaState}
use Rattle.model.specs.declared.IsaState.TheVariants.{Arm, Thumb}
use Rattle.model.specs.declared.Version.TheVariants.{Two}
use Rattle.model.specs.declared.AccessSize.TheVariants.{Word}
use Rattle.model.specs.declared.SheetRecord.{SheetRecord}
use Rattle.model.specs.declared.Step.TheVariants.{Instruction, BlockRead, BlockWrite}

-- ---- the versions that are read

-- the sheet has the mark, and a version that is neither 1 nor 2
pub record OtherVersion (s : List ℕ) : Type 0 where
  pub marked : is_marked s ≡ true
  pub not_one : version_of s ≢ 1
  pub not_two : version_of s ≢ 2

-- with such a sheet a call gives number 2, and with no other
abbrev pub RefusesOtherVersions : List ℕ → ℕ → Type 0
RefusesOtherVersions s number = Exactly (number ≡ 2) (OtherVersion s)

-- ---- a block's record, in a version 2 sheet

-- without fault: size 4, flag and zero byte 0, and 1 to 16 words
pub record BlockFits (r : SheetRecord) : Type 0 where
  pub size : r.size ≡ 4
  pub flag : r.flag ≡ 0
  pub unused : r.zero_byte ≡ 0
  pub least : 1 ≤ r.value
  pub most : r.value ≤ 16

-- it is without fault exactly then, and stands for its words, from its address lowered to a multiple of 4 on: to be read by kind
-- 10, to be written by kind 11
pub record BlockRecord (r : SheetRecord) : Type 0 where
  pub faultless : Exactly (faulty r ≡ false) (BlockFits r)
  pub reads : r.kind ≡ 10 → BlockFits r → step_of r ≡ BlockRead (aligned Word r.address) r.value
  pub writes : r.kind ≡ 11 → BlockFits r → step_of r ≡ BlockWrite (aligned Word r.address) r.value

-- ---- the four opcode bytes: a Thumb opcode is the low 16 bits

abbrev pub top_byte : ℕ → ℕ
top_byte raw = raw % 0x1_0000 / 256

-- POP's in the data sheet and in version 2
abbrev pub is_pop : ℕ → Bool
is_pop raw = eqb (top_byte raw) 0xBC || eqb (top_byte raw) 0xBD

-- where version 1 looks for it
abbrev pub was_pop : ℕ → Bool
was_pop raw = eqb (top_byte raw) 0xBA || eqb (top_byte raw) 0xBB

-- every ARM opcode, and every Thumb opcode with another top byte than these four
abbrev pub Elsewhere : IsaState → ℕ → Type 0
Elsewhere Arm raw = Unit {0}
Elsewhere Thumb raw = (is_pop raw ≡ false) × (was_pop raw ≡ false)

-- ---- as priced

-- the fetch alone, and its cycles in which the cartridge bus is free
abbrev pub fetch_alone : TimingInput → Waits → PrefetchBuffer → ℕ
fetch_alone i t p = price t (fetch_beats p i.force_fetch_n i.isa i.code_addr)

abbrev pub fetch_idle : TimingInput → Waits → ℕ
fetch_idle i t = idle_in t i.code_addr i.isa (window i.code_addr)

-- with an internal cycle: one more each, and the disable bug, with prefetch off, the code in ROM and the pc left alone
pub record WithInternal (i : TimingInput) (t : Waits) (p : PrefetchBuffer) (x : InsnCycles) : Type 0 where
  pub internal : x.internal ≡ 1
  pub total : x.total ≡ fetch_alone i t p + 1
  pub cart_idle : x.cart_idle ≡ fetch_idle i t + 1
  pub latch : x.latch_disable_bug ≡ (not i.prefetch_enabled && in_window i.code_addr && not i.pc_changed)
  pub kind : x.fetch_kind ≡ nonseq_if i.force_fetch_n

-- without: the fetch alone, and never the disable bug
pub record WithoutInternal (i : TimingInput) (t : Waits) (p : PrefetchBuffer) (x : InsnCycles) : Type 0 where
  pub internal : x.internal ≡ 0
  pub total : x.total ≡ fetch_alone i t p
  pub cart_idle : x.cart_idle ≡ fetch_idle i t
  pub latch : x.latch_disable_bug ≡ false
  pub kind : x.fetch_kind ≡ nonseq_if i.force_fetch_n

-- ---- as answered, by the clock before the step: its cycles, its value, which is `cart_idle`, the force flag that it leaves, and
-- the buffer, behind as many idle cycles

abbrev pub thumb_cycles : Clock → ℕ → ℕ
thumb_cycles c a = price (waits_of c) (fetch_beats c.prefetch c.force_next_fetch_n Thumb a)

abbrev pub thumb_idle : Clock → ℕ → ℕ
thumb_idle c a = idle_in (waits_of c) a Thumb (window a)

abbrev pub thumb_buffer : Clock → ℕ → ℕ → PrefetchBuffer
thumb_buffer c a n = ticks (waits_of c) n (code_fetched c Thumb a)

pub record AnsweredWith (c : Clock) (a : ℕ) (jump : Bool) (y : Answer) (after : Clock) : Type 0 where
  pub cycles : y.cycles ≡ thumb_cycles c a + 1
  pub value : y.value ≡ thumb_idle c a + 1
  pub force : y.force ≡ (not c.prefetch.enabled && in_window a && not jump)
  pub buffer : after.prefetch ≡ thumb_buffer c a (thumb_idle c a + 1)

pub record AnsweredWithout (c : Clock) (a : ℕ) (y : Answer) (after : Clock) : Type 0 where
  pub cycles : y.cycles ≡ thumb_cycles c a
  pub value : y.value ≡ thumb_idle c a
  pub force : y.force ≡ false
  pub buffer : after.prefetch ≡ thumb_buffer c a (thumb_idle c a)

-- a step of version 2 that answers and leaves what version 1's does
pub record AsInOne (m : Media) (s : State) (isa : IsaState) (a op : ℕ) (jump : Bool) : Type 0 where
  pub answers : answer m s (Instruction Two isa a op jump) ≡ answer₁ m s (Instruction₁ isa a op jump)
  pub leaves : stepped m s (Instruction Two isa a op jump) ≡ stepped₁ m s (Instruction₁ isa a op jump)
