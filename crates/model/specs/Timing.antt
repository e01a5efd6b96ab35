-- The price of an instruction: its fetch, its internal cycle, the idle cycles it leaves the cartridge bus, and the
-- disable-bug latch.
-- From GBATEK, "ARM CPU Instruction Cycle Times" and "GBA GamePak Prefetch"; src/cpu/timing.rs; docs/RULES.md,
-- "The fetch of an opcode", "Internal cycles" and "What an instruction does".
-- Departures: branches and stores have no extra or nonsequential fetch, and data cycles are steps of their own.
use Rattle.std.specs.Prelude.{Bool, List, [], ◌∷◌, ℕ, ◌+◌, ◌%◌, eqb}
use Rattle.std.specs.Prelude.{if◌then◌else◌}
use Rattle.std.specs.Prelude.{Option, Some, None}
use Rattle.model.specs.Base.{bit, further}
use Rattle.model.specs.Region.{page}
use Rattle.model.specs.Waitcnt.{Waits}
use Rattle.model.specs.Wait.{nonseq_if, window, in_window, kind_at}
use Rattle.model.specs.Price.{Beat, BufferBeat, RomBeat, EwramBeat, FastBeat, beat_cycles, price}
use Rattle.model.specs.Prefetch.{hit}
use Rattle.model.specs.DisableBug.{arm_internal, thumb_internal, force_next_fetch_nonseq}
use Rattle.model.specs.declared.PrefetchBuffer.{PrefetchBuffer}
use Rattle.model.specs.declared.TimingInput.{TimingInput}
use Rattle.model.specs.declared.InsnCycles.{InsnCycles}
use Rattle.model.specs.declared.RomWindow.{RomWindow}
use Rattle.model.specs.declared.AccessKind.{AccessKind}
use Rattle.model.specs.declared.AccessKind.TheVariants.{Seq}
use Rattle.model.specs.declared.AccessSize.{AccessSize}
use Rattle.model.specs.declared.AccessSize.TheVariants.{Half, Word}
use Rattle.model.specs.declared.IsaState.{IsaState}
use Rattle.model.specs.declared.IsaState.TheVariants.{Arm, Thumb}
use Rattle.model.specs.declared.Version.{Version}

-- whether an opcode is taken to have an internal cycle, by the test of a sheet's version; a Thumb opcode is the low 16
-- bits (RULES, "Internal cycles")
abbrev pub internal : Version → IsaState → ℕ → Bool
internal v Arm raw = arm_internal raw
internal v Thumb raw = thumb_internal v (raw % 0x1_0000)

abbrev pub code_size : IsaState → AccessSize
code_size Arm = Word
code_size Thumb = Half

-- ---- the beats of a fetch

-- one half from ROM: from the buffer if its head is at its address, else by the address as given, under the rule of 0x20000
unfoldable pub half_beat : PrefetchBuffer → ℕ → RomWindow → AccessKind → Beat
half_beat p a win k = if hit p a then BufferBeat else RomBeat win (kind_at a k)

-- an ARM opcode is two halves, the second sequential.
-- Departures: both halves look at one head, so that at most one is a hit; the second is priced by the first one's window.
abbrev pub rom_beats : PrefetchBuffer → ℕ → RomWindow → AccessKind → IsaState → List Beat
rom_beats p a win k Thumb = half_beat p a win k ∷ []
rom_beats p a win k Arm = half_beat p a win k ∷ half_beat p (further 2 a) win Seq ∷ []

-- outside ROM a fetch is one beat: EWRAM's on page 2, else a fast one. Departure: code in palette, VRAM or SRAM costs more.
unfoldable pub plain_beat : ℕ → IsaState → Beat
plain_beat a isa = if eqb (page a) 0x02 then EwramBeat (code_size isa) else FastBeat

abbrev pub fetch_beats_in : PrefetchBuffer → ℕ → AccessKind → IsaState → Option RomWindow → List Beat
fetch_beats_in p a k isa (Some win) = rom_beats p a win k isa
fetch_beats_in p a k isa None = plain_beat a isa ∷ []

-- departure: a fetch is sequential unless the force flag is set, after a jump too (RULES, "The fetch of an opcode")
unfoldable pub fetch_beats : PrefetchBuffer → Bool → IsaState → ℕ → List Beat
fetch_beats p force isa a = fetch_beats_in p a (nonseq_if force) isa (window a)

-- ---- the price of an instruction

-- the cycles in which the cartridge bus is free: a fetch outside ROM, and the internal cycle
abbrev pub idle_in : Waits → ℕ → IsaState → Option RomWindow → ℕ
idle_in t a isa (Some win) = 0
idle_in t a isa None = beat_cycles t (plain_beat a isa)

unfoldable pub cart_idle_of : Waits → Version → IsaState → ℕ → ℕ → ℕ
cart_idle_of t v isa a raw = idle_in t a isa (window a) + bit (internal v isa raw)

unfoldable pub disable_bug : Bool → Version → IsaState → ℕ → ℕ → Bool → Bool
disable_bug on v isa a raw changed = force_next_fetch_nonseq on (in_window a) (internal v isa raw) changed

-- the fetch and the internal cycle, and what they leave to the bus and to the next opcode (RULES, "What an instruction does")
unfoldable pub price_insn : TimingInput → Waits → PrefetchBuffer → InsnCycles
price_insn i t p =
    record {
      total = price t (fetch_beats p i.force_fetch_n i.isa i.code_addr)
          + bit (internal i.version i.isa i.opcode_raw);
      internal = bit (internal i.version i.isa i.opcode_raw);
      cart_idle = cart_idle_of t i.version i.isa i.code_addr i.opcode_raw;
      latch_disable_bug =
          disable_bug i.prefetch_enabled i.version i.isa i.code_addr i.opcode_raw i.pc_changed;
      fetch_kind = nonseq_if i.force_fetch_n;
    }
