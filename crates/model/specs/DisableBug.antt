-- The opcodes that are taken to have internal cycles, and the prefetch disable bug.
-- From the ARM7TDMI data sheet's instruction formats and GBATEK, "GBA GamePak Prefetch" (disable bug); src/bus/disable_bug.rs;
-- docs/RULES.md, "Internal cycles", "The disable bug" and "The two versions": version 2 moves one of the opcode tests.
use Rattle.std.specs.Prelude.{Bool, not, ◌&&◌, ◌||◌, ℕ, ◌/◌, ◌%◌, ◌^◌, eqb}
use Rattle.std.specs.Prelude.{if◌then◌else◌}
use Rattle.model.specs.declared.AccessKind.{AccessKind}
use Rattle.model.specs.declared.AccessKind.TheVariants.{Nonseq, Seq}
use Rattle.model.specs.declared.Version.{Version}
use Rattle.model.specs.declared.Version.TheVariants.{One, Two}

-- the `w` bits of an opcode from bit `k` on are `v`
abbrev pub bits_are : ℕ → ℕ → ℕ → ℕ → Bool
bits_are raw k w v = eqb (raw / 2 ^ k % 2 ^ w) v

-- ---- ARM. Departures: byte loads (bit 22), halfword loads and long multiplies are missed; every multiply counts one internal
-- cycle whatever its operand; the condition is not looked at.

-- MUL, MLA: bits 27-22 are 000000, bits 7-4 are 1001
abbrev pub arm_mul : ℕ → Bool
arm_mul raw = bits_are raw 4 4 9 && bits_are raw 22 6 0

-- LDR of a word: bits 27-26 are 01, B (22) is 0, L (20) is 1
abbrev pub arm_ldr : ℕ → Bool
arm_ldr raw = bits_are raw 20 1 1 && (bits_are raw 22 1 0 && bits_are raw 26 2 1)

-- LDM: bits 27-25 are 100, L (20) is 1
abbrev pub arm_ldm : ℕ → Bool
arm_ldm raw = bits_are raw 20 1 1 && bits_are raw 25 3 4

-- SWP, SWPB: bits 27-23 are 00010, bits 21-20 are 00, bits 11-4 are 00001001
abbrev pub arm_swp : ℕ → Bool
arm_swp raw = bits_are raw 4 8 9 && (bits_are raw 20 2 0 && bits_are raw 23 5 2)

-- data processing with a shift by register: bits 27-25 are 000, bit 7 is 0, bit 4 is 1; departure: BX is one of these
abbrev pub arm_shift_rs : ℕ → Bool
arm_shift_rs raw = bits_are raw 4 1 1 && (bits_are raw 7 1 0 && bits_are raw 25 3 0)

-- any of the five (RULES, "Internal cycles")
unfoldable pub arm_internal : ℕ → Bool
arm_internal raw = arm_mul raw || arm_ldr raw || arm_ldm raw || arm_swp raw || arm_shift_rs raw

-- ---- Thumb. Departures: byte, halfword and register-offset loads, multiplies and shifts by register are missed.

-- POP, in bits 15-9. The data sheet has it at 1011110: opcodes 0xBCxx and 0xBDxx. Version 2 looks for it there; departure:
-- version 1 does at 1011101, opcodes 0xBAxx and 0xBBxx (RULES, "The two versions")
abbrev pub pop_opcode : Version → ℕ
pop_opcode One = 93
pop_opcode Two = 94

-- LDR by immediate (01101), from PC (01001) and from SP (10011), LDMIA (11001), in bits 15-11, and POP (RULES, "Internal cycles")
unfoldable pub thumb_internal : Version → ℕ → Bool
thumb_internal v raw =
    bits_are raw 11 5 13 || bits_are raw 11 5 9 || bits_are raw 11 5 19 || bits_are raw 11 5 25 || bits_are raw 9 7 (pop_opcode v)

-- ---- with prefetch off, an opcode in ROM with internal cycles that leaves the pc makes the next fetch nonsequential.
-- Departure: GBATEK has the bug on the opcode's own fetch (RULES, "The disable bug").
abbrev pub force_next_fetch_nonseq : Bool → Bool → Bool → Bool → Bool
force_next_fetch_nonseq prefetchOn codeInRom hadInternal pcChanged = not prefetchOn && codeInRom && hadInternal && not pcChanged

-- the kind of the fetch that follows
unfoldable pub next_opcode_access_kind : Bool → Bool → AccessKind
next_opcode_access_kind forced sequential = if forced then Nonseq else if sequential then Seq else Nonseq
