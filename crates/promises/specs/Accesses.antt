-- What is promised of runs of data accesses: what an access costs, from the one before it. N and S are the cycles of a
-- nonsequential and of a sequential halfword in the window of the access.
use Rattle.std.specs.Prelude.{◌≡◌, false, ℕ, ◌+◌, ◌*◌, ◌/◌}
use Rattle.std.specs.Prelude.{Some}
use Rattle.model.specs.Base.{Exactly}
use Rattle.model.specs.Waitcnt.{sram_waits}
use Rattle.model.specs.Wait.{window, aligned, rom_half_cycles}
use Rattle.model.specs.Region.{decode, is_game_pak_rom}
use Rattle.model.specs.Price.{access_of, no_access, previous, first_kind_of, data_beats_in, data_cycles, rom_access, price}
use Rattle.model.specs.Step.{waits_of, clock_after}
use Rattle.model.specs.Laws.Bounds.{Between}
use Rattle.model.specs.Laws.Window.{InRom}
use Rattle.model.specs.Laws.Previous.{Continues, Way, access_cost, cost_after, previous_after}
use Rattle.model.specs.declared.AccessKind.TheVariants.{Nonseq, Seq}
use Rattle.model.specs.declared.AccessSize.{AccessSize}
use Rattle.model.specs.declared.AccessSize.TheVariants.{Word}
use Rattle.model.specs.declared.Clock.{Clock}
use Rattle.model.specs.declared.Previous.{Previous}
use Rattle.model.specs.declared.RomWindow.{RomWindow}
use Rattle.model.specs.declared.Step.{Step}

-- without a previous access every price is that of a first beat taken as nonsequential: in ROM N, of a word N + S
unfoldable pub FirstAccess : Type 0
FirstAccess =
    (c : Clock) (m : Way) (z : AccessSize) (a : ℕ) → previous c ≡ no_access
    → access_cost c m z a ≡ price (waits_of c) (data_beats_in (sram_waits c.waitcnt) z Nonseq (decode a))

-- outside ROM it is so after any access
unfoldable pub PlainAccess : Type 0
PlainAccess =
    (c : Clock) (m : Way) (z : AccessSize) (a : ℕ) → is_game_pak_rom (decode a) ≡ false
    → access_cost c m z a ≡ price (waits_of c) (data_beats_in (sram_waits c.waitcnt) z Nonseq (decode a))

-- an access that goes on in ROM where the one before ended, and begins no block, costs S, of a word 2 S, whatever was read or
-- written
unfoldable pub ContinuedAccess : Type 0
ContinuedAccess =
    (c : Clock) (m : Way) (y : AccessSize) (b : ℕ) (n : Way) (z : AccessSize) (a : ℕ) (win : RomWindow)
    → Continues y b z a → window a ≡ Some win → cost_after c m y b n z a ≡ price (waits_of c) (rom_access z Seq win)

-- and no other access in ROM is sequential
unfoldable pub SequentialExactly : Type 0
SequentialExactly =
    (y : AccessSize) (b : ℕ) (z : AccessSize) (a : ℕ) → InRom a
    → Exactly (first_kind_of (access_of y b) z a ≡ Seq) (Continues y b z a)

-- two words in a row within a block of ROM, of which the first is nonsequential, cost N + 3 S
unfoldable pub TwoWords : Type 0
TwoWords =
    (c : Clock) (m n : Way) (a d : ℕ) (win : RomWindow) → window a ≡ Some win
    → aligned Word d ≡ aligned Word a + 4 → d / 0x20000 ≡ a / 0x20000 → first_kind_of (previous c) Word a ≡ Nonseq
    → access_cost c m Word a + cost_after c m Word a n Word d
    ≡ rom_half_cycles (waits_of c) win Nonseq + 3 * rom_half_cycles (waits_of c) win Seq

-- what an access costs depends on WAITCNT, the previous access and itself: on no earlier one, and on nothing that is read or
-- written
unfoldable pub ByPreviousAlone : Type 0
ByPreviousAlone =
    (c d : Clock) (m n i j : Way) (y : AccessSize) (b : ℕ) (z : AccessSize) (a : ℕ)
    → c.waitcnt ≡ d.waitcnt → cost_after c m y b n z a ≡ cost_after d i y b j z a

-- READ, WRITE and the words of a block set the previous access, IDLE, PC and LATCH keep it, the other four clear it
unfoldable pub PreviousAfter : Type 0
PreviousAfter = (c : Clock) (x : Step) → previous (clock_after c x) ≡ previous_after (previous c) x

-- an access costs 1 to 18 cycles after any other
unfoldable pub AccessLimits : Type 0
AccessLimits = (w : ℕ) (p : Previous) (z : AccessSize) (a : ℕ) → Between 1 18 (data_cycles w p z a)
