-- The examination in parts, as laws: a part that refuses decides the verdict, one that accepts leaves it to the rest; and
-- what an accepted sheet's tests say of its numbers.
use Rattle.std.specs.Prelude.{◌≡◌, refl, ◌≢◌, Bool, true, false, not, ◌&&◌, List, [], ◌++◌, length}
use Rattle.std.specs.Prelude.{ℕ, ◌*◌, ◌≤◌, ◌<◌, eqb, ltb}
use Rattle.std.proofs.Common.{sym, ap, ◌∙◌, arith, eqb-true, lt-ltb, le-ltb}
use Rattle.std.proofs.lemmas.Bool.{not-true, not-false}
use Rattle.std.specs.Prelude.{Result, Ok}
use Rattle.model.specs.Base.{AllBytes}
use Rattle.model.specs.Memory.{lengths_sum}
use Rattle.model.specs.Sheet.{latest_version, knows, is_marked, version_of, is_shaped, max_records}
use Rattle.model.specs.Sheet.{record_count, records_from, least_faulty}
use Rattle.model.specs.BoardBytes.{board_length, answer_length, clock_of}
use Rattle.model.specs.Outcome.{Lent, Row, row, by_row, first_row, sheet_rows, answers_rows}
use Rattle.model.specs.Outcome.{room_rows, fault_index, records_rows, second_rows, sizes_fit, verdict}
use Rattle.model.specs.Outcome.{refusal_index, verdict_number, outcome_by, outcome}
use Rattle.model.specs.Tariff.{share_length, Tariffed, rate_rows, tariff_verdict}
use Rattle.model.specs.Grounds.{grounds_length, Explaining, grounds_verdict}
use Rattle.model.specs.Preview.{Asked, no_memories, lent_with, preview_verdict}
use Rattle.records.specs.Shape.{Shaped, shaped}
use Rattle.model.specs.Laws.Places.{sizes_small, Sized}
use Rattle.model.proofs.Laws.Places.{small_sized}
use Rattle.model.proofs.Laws.Choice.{by_test, eqb_ne, parts, or_true_right, or-false}
use Rattle.model.specs.Laws.Sound.{SoundClock}
use Rattle.model.proofs.Laws.Codec.{sound_formed}
use Rattle.model.specs.Laws.Rows.{Decides, Rising, TableOf, or_else_of}
use Rattle.model.proofs.Laws.Rows.{row_holds, row_passes, first_append, accepts_none, decided}
use Rattle.model.specs.Laws.Refusal.{NoFault, FirstFault, Acceptable, Index}
use Rattle.model.proofs.Laws.Refusal as refusal
use Rattle.model.proofs.Laws.Refusal.{accepted_acceptable}
use Rattle.model.proofs.Laws.Billed as billed
use Rattle.model.proofs.Laws.Explained as explained
use Rattle.model.proofs.Laws.Previewed.{bare_verdict}
use Rattle.model.proofs.Laws.Fits.{sound_clock}
use Rattle.model.proofs.Laws.Second.{fault_told}
use Rattle.model.specs.declared.Lengths.{Lengths}
use Rattle.model.specs.declared.Refusal.{Refusal}
use Rattle.model.specs.declared.Refusal.TheVariants.{BadMark, BadVersion, BadShape, BadLengths}
use Rattle.model.specs.declared.Refusal.TheVariants.{UnsoundBoard, ShortAnswers, FaultyRecord, BadRate}
use Rattle.model.specs.Verdict.{Verdict, Accepted, Refused}
use Rattle.examine.specs.Lent.{verdict_of}

-- ---- a table in two parts

-- the first part accepts: the rest decides
pub passed : (xs ys : List Row) {v : Verdict} → v ≡ first_row xs → v ≡ Accepted → first_row (xs ++ ys) ≡ first_row ys
passed xs ys e a = first_append xs ys ∙ ap (λ (v : Verdict). or_else_of v (first_row ys)) (sym e ∙ a)

-- it refuses, and so does the whole
pub stopped : (xs ys : List Row) {v : Verdict} {q : Refusal} → v ≡ first_row xs → v ≡ Refused q → v ≡ first_row (xs ++ ys)
stopped xs ys e r = r ∙ sym (first_append xs ys ∙ ap (λ (v : Verdict). or_else_of v (first_row ys)) (sym e ∙ r))

-- what is left of the run's table behind its first five rows, and of a preview's behind its first four
abbrev pub rest_rows : List ℕ → ℕ → List Row
rest_rows sheet answers = answers_rows (record_count sheet) answers ++ records_rows sheet

-- what was accepted, was by the verdict
pub accepted_by : {T : Type 0} {r : Result T Refusal} {v : Verdict} {x : T} → verdict_of r ≡ v → r ≡ Ok x → v ≡ Accepted
accepted_by e w = sym e ∙ ap verdict_of w

-- ---- the row of the room

-- n records, and so many bytes for each that their product doesn't wrap
pub record RoomAsked (n each : ℕ) : Type 0 where
  pub few : n ≤ max_records
  pub narrow : each ≤ 0xFFFF

-- a second buffer that is too short decides, and one that is long enough leaves it to the answers
pub too_narrow_law : (n answers each second : ℕ) → second < each * n
    → Refused ShortAnswers ≡ first_row (room_rows n answers each second)
too_narrow_law n answers each second h =
    sym (row_holds _ _ (or_true_right (ltb answers (answer_length * n)) _ (lt-ltb second (each * n) h)))

pub wide_enough : (n answers each second : ℕ) → each * n ≤ second
    → first_row (answers_rows n answers) ≡ first_row (room_rows n answers each second)
wide_enough n answers each second h =
    ap (λ (short : Bool). by_row (row short ShortAnswers) Accepted)
    (sym (or-false (ltb answers (answer_length * n)) _ (le-ltb second (each * n) h)))

-- ---- the row of the records, from the record that was found

pub faulted : (s : List ℕ) {n k : ℕ} → n ≡ record_count s → k ≡ least_faulty (records_from s 0 n) → k < n
    → Refused (FaultyRecord k) ≡ first_row (records_rows s)
faulted s en ek h =
    let found = ek ∙ ap (λ (j : ℕ). least_faulty (records_from s 0 j)) en in
    ap (λ (j : ℕ). Refused (FaultyRecord j)) found
    ∙ sym (row_holds _ _ (lt-ltb (fault_index s) (record_count s) (omega (arith, found, en))))

pub faultless : (s : List ℕ) {n k : ℕ} → n ≡ record_count s → k ≡ least_faulty (records_from s 0 n) → n ≤ k
    → Accepted ≡ first_row (records_rows s)
faultless s en ek h =
    let found = ek ∙ ap (λ (j : ℕ). least_faulty (records_from s 0 j)) en in
    sym (row_passes _ _ (le-ltb (fault_index s) (record_count s) (omega (arith, found, en))))

-- ---- numbers

pub sized : (l : Lengths) (bios rom : ℕ) → not (sizes_small l bios rom) ≡ false → Sized l
sized l bios rom h = small_sized l bios rom (not-false (sizes_small l bios rom) h)

pub too_long : (l : Lengths) (store bios rom : ℕ) → not (sizes_small l bios rom) ≡ true → false ≡ sizes_fit l store bios rom
unfolding sizes_fit
too_long l store bios rom e = sym (ap (λ (t : Bool). t && eqb (lengths_sum l) store) (not-true (sizes_small l bios rom) e))

pub long_enough : (l : Lengths) (store bios rom n : ℕ) → not (sizes_small l bios rom) ≡ false
    → n ≡ lengths_sum l → eqb n store ≡ sizes_fit l store bios rom
unfolding sizes_fit
long_enough l store bios rom n e h =
    ap (λ (k : ℕ). eqb k store) h ∙ sym (ap (λ (t : Bool). t && eqb (lengths_sum l) store) (not-false (sizes_small l bios rom) e))

-- ---- an accepted sheet

pub record Ready (i : Lent) : Type 0 where
  pub board : length i.board ≡ board_length
  pub shaped : Shaped i.sheet
  pub room : answer_length * record_count i.sheet ≤ length i.answers
  pub records : NoFault i.sheet
  pub store : lengths_sum i.lengths ≡ length i.store
  pub clock : AllBytes i.board → SoundClock (clock_of i.board)

fit_sum : (l : Lengths) (store bios rom : ℕ) → sizes_fit l store bios rom ≡ true → lengths_sum l ≡ store
unfolding sizes_fit
fit_sum l store bios rom e = eqb-true (lengths_sum l) store (search parts)

pub accepted_ready : (i : Lent) → verdict i ≡ Accepted → Ready i
accepted_ready i e =
    let a : Acceptable i = accepted_acceptable i e in
    record {
      board = (sound_formed i.board a.board).size;
      shaped = shaped i.sheet a.shaped;
      room = a.answers;
      records = a.records;
      store = fit_sum i.lengths (length i.store) (length i.bios) (length i.rom) a.lengths;
      clock = λ b. sound_clock i.board b a.board;
    }

-- a sheet that was examined, with whatever else, has its shape
pub sheet_shaped : (s : List ℕ) (more : List Row) {v : Verdict} → v ≡ first_row (sheet_rows s ++ more) → v ≡ Accepted → Shaped s
sheet_shaped s more e a = shaped s (not-false (is_shaped s) (accepts_none (sheet_rows s ++ more) (sym e ∙ a)).1.1.0)

-- ---- the index of a call fits: it is 0, that of a record, or the number of records

small_index : (r : Refusal) → ((k : ℕ) → r ≡ FaultyRecord k → k ≤ max_records) → refusal_index r ≤ max_records
small_index BadMark h = omega arith
small_index BadVersion h = omega arith
small_index BadShape h = omega arith
small_index BadLengths h = omega arith
small_index UnsoundBoard h = omega arith
small_index ShortAnswers h = omega arith
small_index (FaultyRecord k) h = h k refl
small_index BadRate h = omega arith

-- the faulty record of a sheet that has its shape
few_faulty : (s : List ℕ) (number index : ℕ) → Index s number index → not (is_shaped s) ≡ false → number ≡ 7 → index ≤ max_records
few_faulty s number index x e seven =
    let f : FirstFault s index = x.faulty_record seven in
    omega (arith, f.within, (shaped s (not-false (is_shaped s) e)).few)

-- of a table that begins with the sheet's rows: a number that is none of theirs is that of a sheet with its shape
module _ (s : List ℕ) {more : List Row} {number : ℕ} (t : TableOf (sheet_rows s ++ more) number) where
  marked : number ≢ 1 → not (is_marked s) ≡ false
  marked h = by_test (not (is_marked s)) (λ e. absurd (h ((t.row 0 (omega arith)).1 e))) (λ e. e)

  versioned : number ≢ 1 → number ≢ 2 → not (knows latest_version (version_of s)) ≡ false
  versioned h g =
      by_test (not (knows latest_version (version_of s)))
      (λ e. absurd (g ((t.row 1 (omega arith)).1 (marked h, e)))) (λ e. e)

  has_shape : number ≢ 1 → number ≢ 2 → number ≢ 3 → not (is_shaped s) ≡ false
  has_shape h g f =
      by_test (not (is_shaped s))
      (λ e. absurd (f ((t.row 2 (omega arith)).1 (marked h, (versioned h g, e))))) (λ e. e)

  pub told_shaped : number ≢ 1 → number ≢ 2 → number ≢ 3 → Shaped s
  told_shaped h g f = shaped s (not-false (is_shaped s) (has_shape h g f))

  pub few_index : {index : ℕ} → Index s number index → index ≤ max_records
  few_index {index} x =
      by_test (eqb number 0)
      (λ e.
      let z = eqb-true number 0 e in
      let k = told_shaped (λ h. omega (arith, z, h)) (λ h. omega (arith, z, h)) (λ h. omega (arith, z, h)) in
      omega (arith, x.accepted z, k.few))
      (λ e. by_test (eqb number 7)
      (λ f.
      let z = eqb-true number 7 f in
      few_faulty s number index x
      (has_shape (λ h. omega (arith, z, h)) (λ h. omega (arith, z, h)) (λ h. omega (arith, z, h))) z)
      (λ f. omega (arith, x.refused (eqb_ne number 0 e) (eqb_ne number 7 f))))

-- and so that of a refusal, whichever operation makes it
pub index_small : (i : Lent) (r : Refusal) → verdict i ≡ Refused r → refusal_index r ≤ max_records
unfolding outcome
index_small i r e =
    rw (ap (λ (v : Verdict). (outcome_by i v).index) e) at (few_index i.sheet (refusal.run_table i) (refusal.index i))

-- that of a table with a second buffer, with whatever rows behind it
second_small : (i : Lent) (each second : ℕ) (more : List Row) (r : Refusal) → Rising 0 (second_rows i each second ++ more)
    → first_row (second_rows i each second ++ more) ≡ Refused r → refusal_index r ≤ max_records
second_small i each second more r rising e =
    small_index r λ k z.
    let rs = second_rows i each second ++ more in
    let v : first_row rs ≡ Refused (FaultyRecord k) = e ∙ ap (λ (q : Refusal). Refused q) z in
    let d : Decides rs 6 = (decided 0 rs rising 6 (omega arith)).0 (ap verdict_number v) in
    let f : FirstFault i.sheet k = rw v at (fault_told i each second more d) in
    omega (arith, f.within, (shaped i.sheet (not-false (is_shaped i.sheet) d.1.1.0)).few)

pub tariff_index_small : (t : Tariffed) (r : Refusal) → tariff_verdict t ≡ Refused r → refusal_index r ≤ max_records
unfolding tariff_verdict
tariff_index_small t r e =
    second_small t.run share_length (length t.shares) (rate_rows t.rate) r (billed.rising t) e

pub grounds_index_small : (e : Explaining) (r : Refusal) → grounds_verdict e ≡ Refused r → refusal_index r ≤ max_records
unfolding grounds_verdict
grounds_index_small e r v = second_small e.run grounds_length (length e.grounds) [] r (explained.rising e) v

-- a preview's is that of a run over no memories
pub preview_index_small : (q : Asked) (r : Refusal) → preview_verdict q ≡ Refused r → refusal_index r ≤ max_records
preview_index_small q r e = index_small (lent_with q no_memories) r (bare_verdict q ∙ e)
