-- A version 1 sheet means what it did before version 2: it is examined, priced and run as the definitions of its time have it,
-- down to each step's time and price. And a reader of that time refuses a version 2 sheet with 2.
use Rattle.std.specs.Prelude.{◌≡◌, ◌≢◌, Bool, true, false, List, [], ◌∷◌, ◌++◌, map, ℕ, zero, suc, ◌+◌, ◌/◌, ◌%◌, ◌^◌, ◌≤◌, length, eqb, ltb, leb}
use Rattle.std.proofs.Math.Path.{refl, ap}
use Rattle.std.proofs.Common.{ap₂, ◌∙◌, arith}
use Rattle.std.proofs.Math.Bool.{and-true, and-false, or-true, or-false}
use borrow.Author.Tests.{eq-eqb, ne_eqb, not-false}
use Rattle.std.specs.Prelude.{if◌then◌else◌}
use Rattle.model.specs.Waitcnt.{Waits}
use Rattle.model.specs.DisableBug.{bits_are, pop_opcode, thumb_internal}
use Rattle.model.specs.Timing.{internal, cart_idle_of, disable_bug, price_insn}
use Rattle.model.specs.Step.{Media, State, waits_of, priced, code_hits, code_fetched, code_clock, Timed, timing, timed}
use Rattle.model.specs.Step.{answering, count_store, changed, joined, stepped, answer_of, answer, Result, run}
use Rattle.model.specs.Price.{no_access}
use Rattle.model.specs.Sheet.{is_marked, version_of, rules_of, record_at, records_from, record_count, record_start}
use Rattle.model.specs.Sheet.{is_block, size_fits, kind_fault, field_fault, faulty, first_of, step_of, steps_of}
use Rattle.model.specs.Base.{byte_at, number}
use Rattle.model.specs.Outcome.{Lent, Row, row, first_row, sheet_rows, lengths_rows, board_rows, answers_rows, records_rows}
use Rattle.model.specs.Outcome.{verdict, media_of, first_state, ran, outcome_of, outcome_by, outcome}
use Rattle.model.specs.VersionOne.{thumb_internal₁, internal₁, price_insn₁}
use Rattle.model.specs.VersionOne.{Step₁, Read₁, Write₁, Waitcnt₁, Idle₁, Fetch₁, Restart₁, Instruction₁, Pc₁, Latch₁}
use Rattle.model.specs.VersionOne.{record_at₁, records_from₁, records_of₁, step_of₁, steps_of₁}
use Rattle.model.specs.VersionOne.{size_fits₁, kind_fault₁, field_fault₁, faulty₁}
use Rattle.model.specs.VersionOne.{timing_input₁, priced₁, code_clock₁, timed₁, count_store₁, changed₁, stepped₁, answer₁, run₁}
use Rattle.model.specs.VersionOne.{sheet_rows₁, records_rows₁, verdict₁, ran₁, outcome_by₁, outcome₁}
use Rattle.model.specs.Laws.Choice.{All}
use Rattle.model.proofs.Laws.Choice.{by_test, choose₂, and_true_left, and_true_right, or_false_left, tests}
use Rattle.model.specs.Laws.Limits.{Faultless}
use Rattle.model.proofs.Laws.Limits.{all_faultless}
use Rattle.model.specs.Laws.Refusal.{NoFault}
use Rattle.model.proofs.Laws.Refusal.{accepted_acceptable}
use Rattle.model.specs.declared.PrefetchBuffer.{PrefetchBuffer}
use Rattle.model.specs.declared.TimingInput.{TimingInput}
use Rattle.model.specs.declared.InsnCycles.{InsnCycles}
use Rattle.model.specs.declared.Clock.{Clock}
use Rattle.model.specs.declared.Answer.{Answer}
use Rattle.model.specs.declared.IsaState.{IsaState}
use Rattle.model.specs.declared.IsaState.TheVariants.{Arm, Thumb}
use Rattle.model.specs.declared.Version.{Version}
use Rattle.model.specs.declared.Version.TheVariants.{One, Two}
use Rattle.model.specs.declared.SheetRecord.{SheetRecord}
use Rattle.model.specs.Verdict.{Verdict, Accepted, Refused}
use Rattle.model.specs.declared.Step.{Step}
use Rattle.model.specs.declared.Refusal.TheVariants.{FaultyRecord}
use Rattle.model.specs.Laws.VersionOne.{top7, OfOne, as_step}

-- ---- priced as before

pub same_internal : (isa : IsaState) (raw : ℕ) → internal One isa raw ≡ internal₁ isa raw
unfolding thumb_internal thumb_internal₁
same_internal Arm raw = refl
same_internal Thumb raw = refl

pub same_price : (i : TimingInput) (t : Waits) (p : PrefetchBuffer) → i.version ≡ One → price_insn i t p ≡ price_insn₁ i t p
unfolding price_insn price_insn₁ cart_idle_of disable_bug
same_price i t p e = rw (e, same_internal i.isa i.opcode_raw)

-- ---- what version 2 moves: where POP is looked for, and nothing else of the test

module _ (raw : ℕ) where
  abbrev opcode : ℕ
  opcode = raw % 0x1_0000

  pop_bits : (n : ℕ) → bits_are opcode 9 7 n ≡ eqb (top7 raw) n
  pop_bits n = ap (λ (m : ℕ). eqb m n) (omega arith)

  module _ (v : Version) where
    found : top7 raw ≡ pop_opcode v → internal v Thumb raw ≡ true
    unfolding thumb_internal
    found e = rw (pop_bits (pop_opcode v) ∙ eq-eqb (top7 raw) (pop_opcode v) e) (simp or-true)

    -- neither is one of the opcodes besides POP that are found
    lost : 93 ≤ top7 raw → top7 raw ≤ 94 → top7 raw ≢ pop_opcode v → internal v Thumb raw ≡ false
    unfolding thumb_internal
    lost least most n =
        rw (
          ne_eqb (opcode / 2 ^ 11 % 2 ^ 5) 13 (omega arith),
          ne_eqb (opcode / 2 ^ 11 % 2 ^ 5) 9 (omega arith),
          ne_eqb (opcode / 2 ^ 11 % 2 ^ 5) 19 (omega arith),
          ne_eqb (opcode / 2 ^ 11 % 2 ^ 5) 25 (omega arith),
          pop_bits (pop_opcode v) ∙ ne_eqb (top7 raw) (pop_opcode v) n,
        )

  -- by the top byte 0xBC or 0xBD it is found, and no longer by 0xBA or 0xBB
  pub pop_found : top7 raw ≡ 94 → internal Two Thumb raw ≡ true
  pop_found e = found Two e

  pub pop_lost : top7 raw ≡ 93 → internal Two Thumb raw ≡ false
  pop_lost e = lost Two (omega arith) (omega arith) (omega arith)

  -- where version 1 has it the other way round
  pub one_found : top7 raw ≡ 93 → internal One Thumb raw ≡ true
  one_found e = found One e

  pub one_lost : top7 raw ≡ 94 → internal One Thumb raw ≡ false
  one_lost e = lost One (omega arith) (omega arith) (omega arith)

  pub others_as_before : top7 raw ≢ 93 → top7 raw ≢ 94 → (isa : IsaState) → internal Two isa raw ≡ internal One isa raw
  unfolding thumb_internal
  others_as_before a b Arm = refl
  others_as_before a b Thumb =
      rw (pop_bits 93 ∙ ne_eqb (top7 raw) 93 a, pop_bits 94 ∙ ne_eqb (top7 raw) 94 b)

pub arm_as_before : (raw : ℕ) → internal Two Arm raw ≡ internal One Arm raw
arm_as_before raw = refl

-- ---- examined as before

-- a kind up to 9 is no block's
no_block : (k : ℕ) → leb k 9 ≡ true → is_block k ≡ false
no_block k e = rw (ne_eqb k 10 (omega (arith, tests)), ne_eqb k 11 (omega (arith, tests)))

same_faults : (r : SheetRecord) → r.version ≡ One → faulty r ≡ faulty₁ r
unfolding kind_fault field_fault kind_fault₁ field_fault₁ size_fits size_fits₁
same_faults r e =
    by_test (leb r.kind 9) (λ l. rw (e, no_block r.kind l) (simp (or-false, and-true)))
    (λ l. rw (e, l, and-false (leb 1 r.kind)))

-- ---- a step as before

pub same_priced : (c : Clock) (isa : IsaState) (a op : ℕ) (jump : Bool) → priced c One isa a op jump ≡ priced₁ c isa a op jump
same_priced c isa a op jump = same_price (timing_input₁ c isa a op jump) (waits_of c) c.prefetch refl

-- in time: an INSTRUCTION of this price
abbrev pub instruction_timed : Clock → IsaState → ℕ → InsnCycles → Timed
instruction_timed c isa a y =
    timing
    (record {
      waitcnt = c.waitcnt;
      force_next_fetch_n = y.latch_disable_bug;
      prefetch = code_fetched c isa a;
      previous = no_access;
    })
    y.cart_idle y.total (code_hits c isa a)

pub same_timed : (c : Clock) (x : Step₁) → timed c (as_step x) ≡ timed₁ c x
unfolding code_clock code_clock₁
same_timed c (Read₁ z a) = refl
same_timed c (Write₁ z a v) = refl
same_timed c (Waitcnt₁ v) = refl
same_timed c (Idle₁ n) = refl
same_timed c (Fetch₁ a) = refl
same_timed c (Restart₁ a) = refl
same_timed c (Instruction₁ isa a op jump) = ap (instruction_timed c isa a) (same_priced c isa a op jump)
same_timed c (Pc₁ a) = refl
same_timed c (Latch₁ v) = refl

-- in data
pub same_changed : (m : Media) (s : State) (x : Step₁) → changed m s (as_step x) ≡ changed₁ m s x
unfolding count_store count_store₁
same_changed m s (Read₁ z a) = refl
same_changed m s (Write₁ z a v) = refl
same_changed m s (Waitcnt₁ v) = refl
same_changed m s (Idle₁ n) = refl
same_changed m s (Fetch₁ a) = refl
same_changed m s (Restart₁ a) = refl
same_changed m s (Instruction₁ isa a op jump) =
    ap (λ (y : InsnCycles). answering s y.cart_idle) (same_priced s.board.clock isa a op jump)
same_changed m s (Pc₁ a) = refl
same_changed m s (Latch₁ v) = refl

pub same_stepped : (m : Media) (s : State) (x : Step₁) → stepped m s (as_step x) ≡ stepped₁ m s x
same_stepped m s x = ap₂ (joined m s) (same_timed s.board.clock x) (same_changed m s x)

pub same_answer : (m : Media) (s : State) (x : Step₁) → answer m s (as_step x) ≡ answer₁ m s x
same_answer m s x = ap₂ answer_of (same_timed s.board.clock x) (same_changed m s x)

-- ---- run as before

pub run_as_before : (m : Media) (s : State) (xs : List Step₁) → run m s (map as_step xs) ≡ run₁ m s xs
unfolding run run₁
run_as_before m s [] = refl
run_as_before m s (x ∷ xs) =
    ap₂ (λ (y : Answer) (t : State). behind y (run m t (map as_step xs))) (same_answer m s x) (same_stepped m s x)
    ∙ ap (behind (answer₁ m s x)) (run_as_before m (stepped₁ m s x) xs)
  where
    behind : Answer → Result → Result
    behind y r = record { answers = y ∷ r.answers; state = r.state }

-- ---- the records of a sheet, and their steps

-- a record without fault has a kind up to 9, and its step is one of the nine
same_step : (r : SheetRecord) → r.version ≡ One → Faultless r → step_of r ≡ as_step (step_of₁ r)
unfolding step_of step_of₁ kind_fault
same_step r e f =
    let fits = not-false _ (or_false_left (kind_fault r) (field_fault r) f) in
    let kind : leb r.kind 9 ≡ true = rw e at (and_true_right (leb 1 r.kind) _ (and_true_left _ _ fits)) in
    rw (e, ne_eqb r.kind 10 (omega (arith, tests)), ne_eqb r.kind 11 (omega (arith, tests)))
    (choose₂ Same (eqb r.kind 1) (λ k. refl)
    λ k. choose₂ Same (eqb r.kind 2) (λ k. refl)
    λ k. choose₂ Same (eqb r.kind 3) (λ k. refl)
    λ k. choose₂ Same (eqb r.kind 4) (λ k. refl)
    λ k. choose₂ Same (eqb r.kind 5) (λ k. refl)
    λ k. choose₂ Same (eqb r.kind 6) (λ k. refl)
    λ k. choose₂ Same (eqb r.kind 7) (λ k. refl)
    λ k. choose₂ Same (eqb r.kind 8) (λ k. refl)
    λ k. refl)
  where
    Same : Step → Step₁ → Type 0
    Same x y = x ≡ as_step y

steps_same : (rs : List SheetRecord) → All OfOne rs → All Faultless rs → map step_of rs ≡ map as_step (map step_of₁ rs)
steps_same [] o f = refl
steps_same (r ∷ rs) o f =
    ap₂ (λ (x : Step) (xs : List Step). x ∷ xs) (same_step r o.0 f.0) (steps_same rs o.1 f.1)

first_same : (rs : List SheetRecord) → All OfOne rs → first_of faulty rs ≡ first_of faulty₁ rs
unfolding first_of
first_same [] o = refl
first_same (r ∷ rs) o =
    ap₂ (λ (t : Bool) (n : ℕ). if t then 0 else suc n) (same_faults r o.0) (first_same rs o.1)

rules_one : (s : List ℕ) → version_of s ≡ 1 → rules_of s ≡ One
unfolding rules_of
rules_one s e = ap (λ (v : ℕ). if eqb v 2 then Two else One) e

all_of_one : (s : List ℕ) (k n : ℕ) → All OfOne (records_from₁ s k n)
unfolding records_from₁ record_at₁
all_of_one s k zero = tt
all_of_one s k (suc n) = (refl, all_of_one s (k + 1) n)

module _ (s : List ℕ) (one : version_of s ≡ 1) where
  same_record : (k : ℕ) → record_at s k ≡ record_at₁ s k
  unfolding record_at record_at₁
  same_record k = ap made (rules_one s one)
    where
      made : Version → SheetRecord
      made v =
          record {
            version = v;
            kind = byte_at s (record_start k);
            size = byte_at s (record_start k + 1);
            flag = byte_at s (record_start k + 2);
            zero_byte = byte_at s (record_start k + 3);
            address = number 4 s (record_start k + 4);
            value = number 4 s (record_start k + 8);
          }

  same_records : (k n : ℕ) → records_from s k n ≡ records_from₁ s k n
  unfolding records_from records_from₁
  same_records k zero = refl
  same_records k (suc n) =
      ap₂ (λ (r : SheetRecord) (rs : List SheetRecord). r ∷ rs) (same_record k) (same_records (k + 1) n)

  -- the rows of the sheet and of its records say what they did
  pub same_sheet_rows : sheet_rows s ≡ sheet_rows₁ s
  same_sheet_rows = rw one

  pub same_records_rows : records_rows s ≡ records_rows₁ s
  same_records_rows =
      ap (λ (k : ℕ). row (ltb k (record_count s)) (FaultyRecord k) ∷ [])
      (ap (first_of faulty) (same_records 0 (record_count s)) ∙ first_same (records_of₁ s) (all_of_one s 0 (record_count s)))

  -- and so do its steps, if no record is faulty
  pub same_steps : NoFault s → steps_of s ≡ map as_step (steps_of₁ s)
  same_steps f =
      ap (map step_of) (same_records 0 (record_count s))
      ∙ steps_same (records_of₁ s) (all_of_one s 0 (record_count s))
      (rw (same_records 0 (record_count s)) at (all_faultless s 0 (record_count s) (λ k l. f k (omega arith))))

-- ---- the outcome

module _ (i : Lent) (one : version_of i.sheet ≡ 1) where
  same_verdict : verdict i ≡ verdict₁ i
  unfolding verdict verdict₁
  same_verdict =
      ap₂ (λ (xs ys : List Row).
      first_row ((xs ++ (lengths_rows i.lengths (length i.store) (length i.bios) (length i.rom) ++ board_rows i.board))
      ++ (answers_rows (record_count i.sheet) (length i.answers) ++ ys)))
      (same_sheet_rows i.sheet one) (same_records_rows i.sheet one)

  pub same_ran : NoFault i.sheet → ran i ≡ ran₁ i
  unfolding ran ran₁
  same_ran f =
      ap (run (media_of i) (first_state i)) (same_steps i.sheet one f)
      ∙ run_as_before (media_of i) (first_state i) (steps_of₁ i.sheet)

  -- by any verdict that accepts no faulty record
  pub same_outcome : (v : Verdict) → (v ≡ Accepted → NoFault i.sheet) → outcome_by i v ≡ outcome_by₁ i v
  same_outcome (Refused r) f = refl
  same_outcome Accepted f = ap (λ (d : Result). outcome_of i d Accepted) (same_ran (f refl))

  -- so its outcome is what it was
  pub version_one : outcome i ≡ outcome₁ i
  unfolding outcome outcome₁
  version_one =
      same_outcome (verdict i) (λ e. (accepted_acceptable i e).records) ∙ ap (outcome_by₁ i) same_verdict

-- ---- a reader that knows version 1 only

pub version_two_refused : (i : Lent) → is_marked i.sheet ≡ true → version_of i.sheet ≡ 2 → (outcome₁ i).number ≡ 2
unfolding outcome₁ verdict₁
version_two_refused i m two = rw (m, two)
