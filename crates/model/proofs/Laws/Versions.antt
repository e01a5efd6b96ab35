-- The two versions: the run refuses every version but 1 and 2 with 2, and so do the three other operations; and what version 2
-- moves in the price of an instruction, its `cart_idle` and its force flag, as priced and as answered: Thumb's 0xBA to 0xBD, and
-- nothing else.
use Rattle.std.specs.Prelude.{◌≡◌, refl, ◌≢◌, Bool, true, false, not, ◌&&◌, ◌||◌, List, ◌++◌, ℕ, ◌+◌, ◌≤◌, eqb, leb}
use Rattle.std.proofs.Common.{sym, ap, ap₂, ◌∙◌, arith, add-zero, eqb-true, leb-true}
use Rattle.std.proofs.Math.Bool.{and-true, and-false}
use Rattle.std.proofs.lemmas.Bool.{not-false, not-true}
use Rattle.std.specs.Prelude.{if◌then◌else◌}
use Rattle.model.specs.Base.{bit}
use Rattle.model.specs.Waitcnt.{Waits}
use Rattle.model.specs.Wait.{in_window, nonseq_if}
use Rattle.model.specs.DisableBug.{force_next_fetch_nonseq}
use Rattle.model.specs.Timing.{internal, cart_idle_of, disable_bug, price_insn}
use Rattle.model.specs.Step.{Media, State, waits_of, timing_input, priced, code_clock, timed, answering, changed}
use Rattle.model.specs.Step.{joined, stepped, answer_of, answer}
use Rattle.model.specs.Sheet.{latest_version, knows, version_of, rules_of, record_at, isa_state, step_of}
use Rattle.model.specs.Sheet.{size_fits, kind_fault, field_fault, faulty, fields_fit, is_block, words_of}
use Rattle.model.specs.Outcome.{Lent, Row, sheet_rows, outcome}
use Rattle.model.specs.Tariff.{Tariffed, bill}
use Rattle.model.specs.Preview.{Asked, preview}
use Rattle.model.specs.Grounds.{Explaining, explain}
use Rattle.model.specs.VersionOne.{internal₁, price_insn₁, Instruction₁, priced₁, code_clock₁, timed₁, changed₁}
use Rattle.model.proofs.Laws.Choice.{by_test, never, eqb_ne, or_false_left, or_false_right, or_right, parts, tests}
use Rattle.model.proofs.Laws.Limits.{words_are}
use Rattle.model.specs.Laws.Rows.{TableOf}
use Rattle.model.proofs.Laws.Refusal.{run_table}
use Rattle.model.proofs.Laws.Billed.{tariff_table}
use Rattle.model.proofs.Laws.Previewed.{preview_table}
use Rattle.model.proofs.Laws.Explained.{grounds_table}
use Rattle.model.specs.Laws.VersionOne.{top7}
use Rattle.model.proofs.Laws.VersionOne.{same_internal, one_found, one_lost, pop_found, pop_lost, others_as_before, instruction_timed}
use Rattle.model.specs.declared.PrefetchBuffer.{PrefetchBuffer}
use Rattle.model.specs.declared.TimingInput.{TimingInput}
use Rattle.model.specs.declared.InsnCycles.{InsnCycles}
use Rattle.model.specs.declared.Clock.{Clock}
use Rattle.model.specs.declared.IsaState.{IsaState}
use Rattle.model.specs.declared.IsaState.TheVariants.{Arm, Thumb}
use Rattle.model.specs.declared.Version.{Version}
use Rattle.model.specs.declared.Version.TheVariants.{One, Two}
use Rattle.model.specs.declared.SheetRecord.{SheetRecord}
use Rattle.model.specs.declared.Step.{Step}
use Rattle.model.specs.declared.Step.TheVariants.{Instruction}
use Rattle.model.specs.Base.{Exactly}
use Rattle.model.specs.Laws.Versions.{BlockFits, BlockRecord}
use Rattle.model.specs.Laws.Versions.{RefusesOtherVersions, top_byte, is_pop, was_pop, Elsewhere}
use Rattle.model.specs.Laws.Versions.{thumb_buffer, fetch_alone, fetch_idle, WithInternal, WithoutInternal, AnsweredWith, AnsweredWithout, AsInOne}

-- ---- the versions that are read are 1 and 2

known_one : (v : ℕ) → knows latest_version v ≡ false → v ≢ 1
known_one v e h = never (ap (knows latest_version) h) e

known_two : (v : ℕ) → knows latest_version v ≡ false → v ≢ 2
known_two v e h = never (ap (knows latest_version) h) e

no_other : (v : ℕ) → v ≢ 1 → v ≢ 2 → knows latest_version v ≡ false
no_other v a b =
    by_test (knows latest_version v)
    (λ e.
    let least : leb 1 v ≡ true = search parts in
    let most : leb v latest_version ≡ true = search parts in
    absurd (omega (arith, a, b, tests)))
    (λ e. e)

-- so a table that begins with the rows of a sheet, as all four do, refuses every other with 2
versions_by_table : (s : List ℕ) (more : List Row) {number : ℕ} → TableOf (sheet_rows s ++ more) number
    → RefusesOtherVersions s number
versions_by_table s more t =
    let second = t.row 1 (omega arith) in (
      λ e.
          let d = second.0 e in
          let unknown = not-true _ d.1 in
          record { marked = not-false _ d.0; not_one = known_one _ unknown; not_two = known_two _ unknown },
      λ o. second.1 (ap not o.marked, ap not (no_other _ o.not_one o.not_two)),
    )

pub outcome_versions : (i : Lent) → RefusesOtherVersions i.sheet (outcome i).number
outcome_versions i = versions_by_table i.sheet _ (run_table i)

pub bill_versions : (t : Tariffed) → RefusesOtherVersions t.run.sheet (bill t).run.number
bill_versions t = versions_by_table t.run.sheet _ (tariff_table t)

pub explain_versions : (e : Explaining) → RefusesOtherVersions e.run.sheet (explain e).run.number
explain_versions e = versions_by_table e.run.sheet _ (grounds_table e)

pub preview_versions : (q : Asked) → RefusesOtherVersions q.sheet (preview q).number
preview_versions q = versions_by_table q.sheet _ (preview_table q)

-- ---- a version 2 sheet is read by the rules of version 2

two_rules : (s : List ℕ) → version_of s ≡ 2 → rules_of s ≡ Two
unfolding rules_of
two_rules s e = ap (λ (v : ℕ). if eqb v 2 then Two else One) e

two_version : (s : List ℕ) (k : ℕ) → version_of s ≡ 2 → (record_at s k).version ≡ Two
unfolding record_at
two_version s k e = two_rules s e

instruction_step : (r : SheetRecord) → r.kind ≡ 7
    → step_of r ≡ Instruction r.version (isa_state r.size) r.address r.value (eqb r.flag 1)
unfolding step_of
instruction_step r e = rw e

-- so that its INSTRUCTION steps are those of the laws below
pub two_instruction : (s : List ℕ) (k : ℕ) → version_of s ≡ 2 → (record_at s k).kind ≡ 7
    → let r = record_at s k in step_of r ≡ Instruction Two (isa_state r.size) r.address r.value (eqb r.flag 1)
unfolding record_at
two_instruction s k two e =
    instruction_step (record_at s k) e
    ∙ ap (λ (v : Version).
    let r = record_at s k in Instruction v (isa_state r.size) r.address r.value (eqb r.flag 1)) (two_rules s two)

-- ---- a block's record, in a version 2 sheet

either_not : (b c : Bool) → not b || not c ≡ not (b && c)
either_not true c = refl
either_not false c = refl

-- a record of kind 10 or 11
module _ (z f p a v : ℕ) where
  abbrev block : ℕ → SheetRecord
  block k = record { version = Two; kind = k; size = z; flag = f; zero_byte = p; address = a; value = v }

  abbrev block_test : Bool
  block_test = eqb z 4 && fields_fit (block 10)

  same_faulty : faulty (block 10) ≡ not block_test
  unfolding kind_fault field_fault size_fits
  same_faulty = either_not (eqb z 4) (fields_fit (block 10))

  same_written : faulty (block 11) ≡ faulty (block 10)
  unfolding kind_fault field_fault size_fits
  same_written = refl

  passes : BlockFits (block 10) → block_test ≡ true
  passes h =
      let least : leb 1 v ≡ true = by_test (leb 1 v) (λ e. e) (λ e. absurd (omega (arith, tests, h.least))) in
      let most : leb v 16 ≡ true = by_test (leb v 16) (λ e. e) (λ e. absurd (omega (arith, tests, h.most))) in
      rw (h.size, h.flag, h.unused, least, most)

  passed : block_test ≡ true → BlockFits (block 10)
  passed e =
      record {
        size = eqb-true z 4 (search parts);
        flag = eqb-true f 0 (search parts depth 9);
        unused = eqb-true p 0 (search parts depth 9);
        least = leb-true 1 v (search parts);
        most = leb-true v 16 (search parts);
      }

  block_exactly : Exactly (faulty (block 10) ≡ false) (BlockFits (block 10))
  block_exactly = (λ e. passed (not-false _ (sym same_faulty ∙ e)), λ h. same_faulty ∙ ap not (passes h))

-- its step has as many words as its value says
block_words_are : (v : ℕ) → 1 ≤ v → v ≤ 16 → words_of v ≡ v
block_words_are v l m = words_are v (record { least = l; most = m })

fits_as : (r : SheetRecord) (k : ℕ) → BlockFits (block r.size r.flag r.zero_byte r.address r.value k) → BlockFits r
fits_as r k h = record { size = h.size; flag = h.flag; unused = h.unused; least = h.least; most = h.most }

as_fits : (r : SheetRecord) (k : ℕ) → BlockFits r → BlockFits (block r.size r.flag r.zero_byte r.address r.value k)
as_fits r k h = record { size = h.size; flag = h.flag; unused = h.unused; least = h.least; most = h.most }

-- by its kind and version
is_that : (r : SheetRecord) (k : ℕ) → r.version ≡ Two → r.kind ≡ k → r ≡ block r.size r.flag r.zero_byte r.address r.value k
is_that r k v e =
    ap₂ (λ (w : Version) (n : ℕ). record {
      version = w;
      kind = n;
      size = r.size;
      flag = r.flag;
      zero_byte = r.zero_byte;
      address = r.address;
      value = r.value;
    }) v e

fault_of : (r : SheetRecord) → r.version ≡ Two → is_block r.kind ≡ true
    → faulty r ≡ faulty (block r.size r.flag r.zero_byte r.address r.value 10)
fault_of r v b =
    by_test (eqb r.kind 10) (λ e. ap faulty (is_that r 10 v (eqb-true r.kind 10 e)))
    (λ e.
    ap faulty (is_that r 11 v (eqb-true r.kind 11 (or_right _ _ b e)))
    ∙ same_written r.size r.flag r.zero_byte r.address r.value)

pub block_record : (r : SheetRecord) → r.version ≡ Two → is_block r.kind ≡ true → BlockRecord r
unfolding step_of
block_record r v b =
    let same = fault_of r v b in
    let exactly = block_exactly r.size r.flag r.zero_byte r.address r.value in
    record {
      faultless = (λ e. fits_as r 10 (exactly.0 (sym same ∙ e)), λ h. same ∙ exactly.1 (as_fits r 10 h));
      reads = λ e h. rw (e, block_words_are r.value h.least h.most);
      writes = λ e h. rw (e, block_words_are r.value h.least h.most);
    }

-- of a version 2 sheet
pub two_block : (s : List ℕ) (k : ℕ) → version_of s ≡ 2 → is_block (record_at s k).kind ≡ true → BlockRecord (record_at s k)
two_block s k two b = block_record (record_at s k) (two_version s k two) b

-- ---- the four opcode bytes

module _ (raw : ℕ) where
  pop_place : is_pop raw ≡ true → top7 raw ≡ 94
  pop_place h =
      by_test (eqb (top_byte raw) 0xBC) (λ e. omega (arith, eqb-true (top_byte raw) 0xBC e))
      (λ e. omega (arith, eqb-true (top_byte raw) 0xBD (or_right _ _ h e)))

  old_place : was_pop raw ≡ true → top7 raw ≡ 93
  old_place h =
      by_test (eqb (top_byte raw) 0xBA) (λ e. omega (arith, eqb-true (top_byte raw) 0xBA e))
      (λ e. omega (arith, eqb-true (top_byte raw) 0xBB (or_right _ _ h e)))

  no_pop : is_pop raw ≡ false → top7 raw ≢ 94
  no_pop h e =
      omega (
        arith,
        e,
        eqb_ne (top_byte raw) 0xBC (or_false_left _ _ h),
        eqb_ne (top_byte raw) 0xBD (or_false_right _ _ h),
      )

  no_old : was_pop raw ≡ false → top7 raw ≢ 93
  no_old h e =
      omega (
        arith,
        e,
        eqb_ne (top_byte raw) 0xBA (or_false_left _ _ h),
        eqb_ne (top_byte raw) 0xBB (or_false_right _ _ h),
      )

  two_finds : is_pop raw ≡ true → internal Two Thumb raw ≡ true
  two_finds h = pop_found raw (pop_place h)

  two_loses : was_pop raw ≡ true → internal Two Thumb raw ≡ false
  two_loses h = pop_lost raw (old_place h)

-- every other opcode is told as in version 1
elsewhere_same : (isa : IsaState) (raw : ℕ) → Elsewhere isa raw → internal Two isa raw ≡ internal One isa raw
elsewhere_same Arm raw e = refl
elsewhere_same Thumb raw e = others_as_before raw (no_old raw e.1) (no_pop raw e.0) Thumb

-- version 1 has it the other way round
one_finds : (raw : ℕ) → was_pop raw ≡ true → internal₁ Thumb raw ≡ true
one_finds raw h = sym (same_internal Thumb raw) ∙ one_found raw (old_place raw h)

one_loses : (raw : ℕ) → is_pop raw ≡ true → internal₁ Thumb raw ≡ false
one_loses raw h = sym (same_internal Thumb raw) ∙ one_lost raw (pop_place raw h)

-- ---- as priced

module _ (i : TimingInput) (t : Waits) (p : PrefetchBuffer) where
  -- a price by whether there is an internal cycle
  abbrev made : Bool → InsnCycles
  made inner =
      record {
        total = fetch_alone i t p + bit inner;
        internal = bit inner;
        cart_idle = fetch_idle i t + bit inner;
        latch_disable_bug = force_next_fetch_nonseq i.prefetch_enabled (in_window i.code_addr) inner i.pc_changed;
        fetch_kind = nonseq_if i.force_fetch_n;
      }

  made_with : WithInternal i t p (made true)
  made_with =
      record {
        internal = refl;
        total = refl;
        cart_idle = refl;
        latch = rw (and-true (not i.prefetch_enabled && in_window i.code_addr));
        kind = refl;
      }

  made_without : WithoutInternal i t p (made false)
  made_without =
      record {
        internal = refl;
        total = add-zero _;
        cart_idle = add-zero _;
        latch = rw (and-false (not i.prefetch_enabled && in_window i.code_addr));
        kind = refl;
      }

  with_internal : internal i.version i.isa i.opcode_raw ≡ true → WithInternal i t p (price_insn i t p)
  unfolding price_insn cart_idle_of disable_bug
  with_internal e = rw e made_with

  without_internal : internal i.version i.isa i.opcode_raw ≡ false → WithoutInternal i t p (price_insn i t p)
  unfolding price_insn cart_idle_of disable_bug
  without_internal e = rw e made_without

  -- version 2 finds POP at 0xBC and 0xBD
  pub two_at_bc : i.version ≡ Two → i.isa ≡ Thumb → is_pop i.opcode_raw ≡ true → WithInternal i t p (price_insn i t p)
  two_at_bc v isa h = with_internal (rw (v, isa) (two_finds i.opcode_raw h))

  -- and no longer at 0xBA and 0xBB
  pub two_at_ba : i.version ≡ Two → i.isa ≡ Thumb → was_pop i.opcode_raw ≡ true → WithoutInternal i t p (price_insn i t p)
  two_at_ba v isa h = without_internal (rw (v, isa) (two_loses i.opcode_raw h))

  with_internal₁ : internal₁ i.isa i.opcode_raw ≡ true → WithInternal i t p (price_insn₁ i t p)
  unfolding price_insn₁
  with_internal₁ e = rw e made_with

  without_internal₁ : internal₁ i.isa i.opcode_raw ≡ false → WithoutInternal i t p (price_insn₁ i t p)
  unfolding price_insn₁
  without_internal₁ e = rw e made_without

  -- where version 1 has it the other way round
  pub one_at_ba : i.isa ≡ Thumb → was_pop i.opcode_raw ≡ true → WithInternal i t p (price_insn₁ i t p)
  one_at_ba isa h = with_internal₁ (rw isa (one_finds i.opcode_raw h))

  pub one_at_bc : i.isa ≡ Thumb → is_pop i.opcode_raw ≡ true → WithoutInternal i t p (price_insn₁ i t p)
  one_at_bc isa h = without_internal₁ (rw isa (one_loses i.opcode_raw h))

  -- every other opcode is priced as in version 1
  pub two_elsewhere : i.version ≡ Two → Elsewhere i.isa i.opcode_raw → price_insn i t p ≡ price_insn₁ i t p
  unfolding price_insn price_insn₁ cart_idle_of disable_bug
  two_elsewhere v e = rw (v, elsewhere_same i.isa i.opcode_raw e, same_internal i.isa i.opcode_raw)

-- ---- as answered

module _ (m : Media) (s : State) (a op : ℕ) (jump : Bool) where
  abbrev c : Clock
  c = s.board.clock

  abbrev pop : Step
  pop = Instruction Two Thumb a op jump

  pub answered_at_bc : is_pop op ≡ true → AnsweredWith c a jump (answer m s pop) (stepped m s pop).board.clock
  unfolding code_clock
  answered_at_bc h =
      let x = two_at_bc (timing_input c Two Thumb a op jump) (waits_of c) c.prefetch refl refl h in
      record { cycles = x.total; value = x.cart_idle; force = x.latch; buffer = ap (thumb_buffer c a) x.cart_idle }

  pub answered_at_ba : was_pop op ≡ true → AnsweredWithout c a (answer m s pop) (stepped m s pop).board.clock
  unfolding code_clock
  answered_at_ba h =
      let x = two_at_ba (timing_input c Two Thumb a op jump) (waits_of c) c.prefetch refl refl h in
      record { cycles = x.total; value = x.cart_idle; force = x.latch; buffer = ap (thumb_buffer c a) x.cart_idle }

  module _ (isa : IsaState) (e : Elsewhere isa op) where
    same_elsewhere : priced c Two isa a op jump ≡ priced₁ c isa a op jump
    unfolding price_insn₁
    same_elsewhere = two_elsewhere (timing_input c Two isa a op jump) (waits_of c) c.prefetch refl e

    timed_elsewhere : timed c (Instruction Two isa a op jump) ≡ timed₁ c (Instruction₁ isa a op jump)
    unfolding code_clock code_clock₁
    timed_elsewhere = ap (instruction_timed c isa a) same_elsewhere

    changed_elsewhere : changed m s (Instruction Two isa a op jump) ≡ changed₁ m s (Instruction₁ isa a op jump)
    changed_elsewhere = ap (λ (y : InsnCycles). answering s y.cart_idle) same_elsewhere

    -- hits and count, and all that it leaves, among what is as in version 1
    pub answered_elsewhere : AsInOne m s isa a op jump
    answered_elsewhere =
        record {
          answers = ap₂ answer_of timed_elsewhere changed_elsewhere;
          leaves = ap₂ (joined m s) timed_elsewhere changed_elsewhere;
        }
