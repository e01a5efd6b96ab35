-- What a sheet meant before version 2 (docs/RULES.md, "The two versions"): the definitions of version 1, as they were when it was
-- the only one, down to a step's time and price. Each that version 2 changed stands here under its name with ₁; what it left
-- alone is not written twice. Of contracts only promises about version 1 cite them; proofs/Laws/VersionOne.antt has that a
-- version 1 sheet still means what they say.
use Rattle.std.specs.Prelude.{Bool, not, ◌&&◌, ◌||◌, List, [], ◌∷◌, ◌++◌, map, ℕ, zero, suc, ◌+◌, ◌*◌, ◌%◌, length, drop, eqb, ltb, leb}
use Rattle.std.specs.Prelude.{if◌then◌else◌}
use Rattle.model.specs.Base.{bit, byte_at, number}
use Rattle.model.specs.Waitcnt.{Waits}
use Rattle.model.specs.Wait.{access_size_of, window, in_window, nonseq_if}
use Rattle.model.specs.DisableBug.{bits_are, arm_internal, force_next_fetch_nonseq}
use Rattle.model.specs.Prefetch.{restart, hit, fetched}
use Rattle.model.specs.Price.{price, previous, no_access, data_cycles}
use Rattle.model.specs.Timing.{fetch_beats, idle_in}
use Rattle.model.specs.Memory.{target}
use Rattle.model.specs.Load.{load}
use Rattle.model.specs.Store.{puts, mode_of, video_count}
use Rattle.model.specs.Step.{waits_of, with_prefetch, accessed, cleared, set_waitcnt, code_hits, code_fetched, Timed, timing, idled}
use Rattle.model.specs.Step.{Media, State, bus_of, half_at, counted_at, with_pc, with_latch, Changed, change, answering}
use Rattle.model.specs.Step.{joined, answer_of, Result, total}
use Rattle.model.specs.Sheet.{is_marked, version_of, is_shaped, record_count, record_start, isa_state, first_of}
use Rattle.model.specs.BoardBytes.{answer_length, board_bytes, answers_bytes}
use Rattle.model.specs.Outcome.{Lent, Outcome, Row, row, first_row, lengths_rows, board_rows, answers_rows}
use Rattle.model.specs.Outcome.{refusal_number, refusal_index, media_of, first_state}
use Rattle.model.specs.declared.PrefetchBuffer.{PrefetchBuffer}
use Rattle.model.specs.declared.TimingInput.{TimingInput}
use Rattle.model.specs.declared.InsnCycles.{InsnCycles}
use Rattle.model.specs.declared.Clock.{Clock}
use Rattle.model.specs.declared.Contents.{Contents}
use Rattle.model.specs.declared.Answer.{Answer}
use Rattle.model.specs.declared.AccessSize.{AccessSize}
use Rattle.model.specs.declared.IsaState.{IsaState}
use Rattle.model.specs.declared.IsaState.TheVariants.{Arm, Thumb}
use Rattle.model.specs.declared.Version.TheVariants.{One}
use Rattle.model.specs.declared.SheetRecord.{SheetRecord}
use Rattle.model.specs.declared.Refusal.TheVariants.{BadMark, BadVersion, BadShape, FaultyRecord}
use Rattle.model.specs.Verdict.{Verdict, Accepted, Refused}

-- ---- the price of an instruction: POP is looked for in opcodes 0xBAxx and 0xBBxx

unfoldable pub thumb_internal₁ : ℕ → Bool
thumb_internal₁ raw =
    bits_are raw 11 5 13 || bits_are raw 11 5 9 || bits_are raw 11 5 19 || bits_are raw 11 5 25 || bits_are raw 9 7 93

abbrev pub internal₁ : IsaState → ℕ → Bool
internal₁ Arm raw = arm_internal raw
internal₁ Thumb raw = thumb_internal₁ (raw % 0x1_0000)

-- the input of its time had no version, and none is read here
unfoldable pub price_insn₁ : TimingInput → Waits → PrefetchBuffer → InsnCycles
price_insn₁ i t p =
    record {
      total = price t (fetch_beats p i.force_fetch_n i.isa i.code_addr) + bit (internal₁ i.isa i.opcode_raw);
      internal = bit (internal₁ i.isa i.opcode_raw);
      cart_idle =
          idle_in t i.code_addr i.isa (window i.code_addr) + bit (internal₁ i.isa i.opcode_raw);
      latch_disable_bug =
          force_next_fetch_nonseq i.prefetch_enabled (in_window i.code_addr) (internal₁ i.isa i.opcode_raw)
          i.pc_changed;
      fetch_kind = nonseq_if i.force_fetch_n;
    }

-- ---- the nine kinds

-- a step: an INSTRUCTION of it has no version
pub data Step₁ : Type 0 where
  Read₁ : AccessSize → ℕ → Step₁
  Write₁ : AccessSize → ℕ → ℕ → Step₁
  Waitcnt₁ : ℕ → Step₁
  Idle₁ : ℕ → Step₁
  Fetch₁ : ℕ → Step₁
  Restart₁ : ℕ → Step₁
  Instruction₁ : IsaState → ℕ → ℕ → Bool → Step₁
  Pc₁ : ℕ → Step₁
  Latch₁ : ℕ → Step₁

-- a record of its time had no version, and none is read here
unfoldable pub record_at₁ : List ℕ → ℕ → SheetRecord
record_at₁ s k =
    record {
      version = One;
      kind = byte_at s (record_start k);
      size = byte_at s (record_start k + 1);
      flag = byte_at s (record_start k + 2);
      zero_byte = byte_at s (record_start k + 3);
      address = number 4 s (record_start k + 4);
      value = number 4 s (record_start k + 8);
    }

unfoldable pub records_from₁ : List ℕ → ℕ → ℕ → List SheetRecord
records_from₁ s k zero = []
records_from₁ s k (suc n) = record_at₁ s k ∷ records_from₁ s (k + 1) n

abbrev pub records_of₁ : List ℕ → List SheetRecord
records_of₁ s = records_from₁ s 0 (record_count s)

unfoldable pub step_of₁ : SheetRecord → Step₁
step_of₁ r =
    if eqb r.kind 1 then Read₁ (access_size_of r.size) r.address
    else if eqb r.kind 2 then Write₁ (access_size_of r.size) r.address r.value
    else if eqb r.kind 3 then Waitcnt₁ (r.value % 0x1_0000)
    else if eqb r.kind 4 then Idle₁ r.value
    else if eqb r.kind 5 then Fetch₁ r.address
    else if eqb r.kind 6 then Restart₁ r.address
    else if eqb r.kind 7 then Instruction₁ (isa_state r.size) r.address r.value (eqb r.flag 1)
    else if eqb r.kind 8 then Pc₁ r.address
    else Latch₁ r.value

abbrev pub steps_of₁ : List ℕ → List Step₁
steps_of₁ s = map step_of₁ (records_of₁ s)

unfoldable pub size_fits₁ : ℕ → ℕ → Bool
size_fits₁ kind size =
    if eqb kind 1 || eqb kind 2 then eqb size 1 || eqb size 2 || eqb size 4
    else if eqb kind 7 then eqb size 2 || eqb size 4
    else eqb size 0

unfoldable pub kind_fault₁ : SheetRecord → Bool
kind_fault₁ r = not (leb 1 r.kind && leb r.kind 9 && size_fits₁ r.kind r.size)

unfoldable pub field_fault₁ : SheetRecord → Bool
field_fault₁ r =
    not (eqb r.zero_byte 0
    && (eqb r.kind 7 || eqb r.flag 0)
    && leb r.flag 1
    && (eqb r.kind 1 || eqb r.kind 2 || eqb r.kind 5 || eqb r.kind 6 || eqb r.kind 7 || eqb r.kind 8
    || eqb r.address 0)
    && (eqb r.kind 2 || eqb r.kind 3 || eqb r.kind 4 || eqb r.kind 7 || eqb r.kind 9 || eqb r.value 0)
    && (not (eqb r.kind 3) || leb r.value 0xFFFF))

abbrev pub faulty₁ : SheetRecord → Bool
faulty₁ r = kind_fault₁ r || field_fault₁ r

-- ---- a step in time

abbrev pub timing_input₁ : Clock → IsaState → ℕ → ℕ → Bool → TimingInput
timing_input₁ c isa a op jump =
    record {
      version = One;
      isa = isa;
      code_addr = a;
      opcode_raw = op;
      pc_changed = jump;
      prefetch_enabled = c.prefetch.enabled;
      force_fetch_n = c.force_next_fetch_n;
    }

abbrev pub priced₁ : Clock → IsaState → ℕ → ℕ → Bool → InsnCycles
priced₁ c isa a op jump = price_insn₁ (timing_input₁ c isa a op jump) (waits_of c) c.prefetch

unfoldable pub code_clock₁ : Clock → IsaState → ℕ → ℕ → Bool → Clock
code_clock₁ c isa a op jump =
    record {
      waitcnt = c.waitcnt;
      force_next_fetch_n = (priced₁ c isa a op jump).latch_disable_bug;
      prefetch = code_fetched c isa a;
      previous = no_access;
    }

abbrev pub timed₁ : Clock → Step₁ → Timed
timed₁ c (Read₁ z a) = timing (accessed c z a) 0 (data_cycles c.waitcnt (previous c) z a) 0
timed₁ c (Write₁ z a v) = timing (accessed c z a) 0 (data_cycles c.waitcnt (previous c) z a) 0
timed₁ c (Waitcnt₁ v) = timing (cleared (set_waitcnt c v)) 0 0 0
timed₁ c (Idle₁ n) = timing c n n 0
timed₁ c (Fetch₁ a) = timing (cleared (with_prefetch c (fetched c.prefetch a))) 0 0 (bit (hit c.prefetch a))
timed₁ c (Restart₁ a) = timing (cleared (with_prefetch c (restart (waits_of c) c.prefetch a))) 0 0 0
timed₁ c (Instruction₁ isa a op jump) =
    timing (code_clock₁ c isa a op jump) (priced₁ c isa a op jump).cart_idle
    (priced₁ c isa a op jump).total (code_hits c isa a)
timed₁ c (Pc₁ a) = timing c 0 0 0
timed₁ c (Latch₁ v) = timing c 0 0 0

abbrev pub clock_after₁ : Clock → Step₁ → Clock
clock_after₁ c x = idled (timed₁ c x)

-- ---- a step in data

unfoldable pub count_store₁ : Media → State → AccessSize → ℕ → Contents
count_store₁ m s z a =
    counted_at (target m.lengths a) (video_count (mode_of m.lengths s.store) z (target m.lengths a)) s.board.contents

abbrev pub changed₁ : Media → State → Step₁ → Changed
changed₁ m s (Read₁ z a) = answering s (load m.lengths (bus_of m s) z a)
changed₁ m s (Write₁ z a v) = change 0 (count_store₁ m s z a) (puts m.lengths (mode_of m.lengths s.store) z a v)
changed₁ m s (Waitcnt₁ v) = answering s 0
changed₁ m s (Idle₁ n) = answering s 0
changed₁ m s (Fetch₁ a) = answering s (half_at s.board a)
changed₁ m s (Restart₁ a) = answering s 0
changed₁ m s (Instruction₁ isa a op jump) = answering s (priced₁ s.board.clock isa a op jump).cart_idle
changed₁ m s (Pc₁ a) = change 0 (with_pc s.board.contents a) []
changed₁ m s (Latch₁ v) = change 0 (with_latch s.board.contents v) []

-- ---- a step, and a run

abbrev pub stepped₁ : Media → State → Step₁ → State
stepped₁ m s x = joined m s (timed₁ s.board.clock x) (changed₁ m s x)

abbrev pub answer₁ : Media → State → Step₁ → Answer
answer₁ m s x = answer_of (timed₁ s.board.clock x) (changed₁ m s x)

unfoldable pub run₁ : Media → State → List Step₁ → Result
run₁ m s [] = record { answers = []; state = s }
run₁ m s (x ∷ xs) =
    let r = run₁ m (stepped₁ m s x) xs in
    record { answers = answer₁ m s x ∷ r.answers; state = r.state }

-- ---- what the run gave back: its reader knew version 1 and no other

abbrev pub sheet_rows₁ : List ℕ → List Row
sheet_rows₁ s =
    row (not (is_marked s)) BadMark
    ∷ row (not (eqb (version_of s) 1)) BadVersion
    ∷ row (not (is_shaped s)) BadShape
    ∷ []

abbrev pub lent_rows₁ : Lent → List Row
lent_rows₁ i =
    sheet_rows₁ i.sheet
    ++ (lengths_rows i.lengths (length i.store) (length i.bios) (length i.rom)
    ++ board_rows i.board)

abbrev pub fault_index₁ : List ℕ → ℕ
fault_index₁ s = first_of faulty₁ (records_of₁ s)

abbrev pub records_rows₁ : List ℕ → List Row
records_rows₁ s = row (ltb (fault_index₁ s) (record_count s)) (FaultyRecord (fault_index₁ s)) ∷ []

abbrev pub rows₁ : Lent → List Row
rows₁ i = lent_rows₁ i ++ (answers_rows (record_count i.sheet) (length i.answers) ++ records_rows₁ i.sheet)

unfoldable pub verdict₁ : Lent → Verdict
verdict₁ i = first_row (rows₁ i)

unfoldable pub ran₁ : Lent → Result
ran₁ i = run₁ (media_of i) (first_state i) (steps_of₁ i.sheet)

abbrev pub outcome_by₁ : Lent → Verdict → Outcome
outcome_by₁ i (Refused r) =
    record {
      number = refusal_number r;
      index = refusal_index r;
      total = 0;
      board = i.board;
      store = i.store;
      answers = i.answers;
    }
outcome_by₁ i Accepted =
    record {
      number = 0;
      index = record_count i.sheet;
      total = total (ran₁ i);
      board = board_bytes (ran₁ i).state.board;
      store = (ran₁ i).state.store;
      answers = answers_bytes (ran₁ i).answers ++ drop (answer_length * record_count i.sheet) i.answers;
    }

unfoldable pub outcome₁ : Lent → Outcome
outcome₁ i = outcome_by₁ i (verdict₁ i)
