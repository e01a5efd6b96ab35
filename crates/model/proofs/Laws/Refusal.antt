-- The table of docs/RULES.md, "What a run is refused with", as theorems: each number exactly when its row's condition holds and
-- no earlier one does; the index; and what a refusal leaves.
use Rattle.std.specs.Prelude.{◌≡◌, refl, Bool, true, false, not, ◌||◌, ◌≢◌, List, [], ◌∷◌, ℕ, zero, suc, ◌+◌, ◌≤◌, ◌<◌, min, length, get_or, ltb}
use Rattle.std.proofs.Common.{sym, ap, ◌∙◌, arith, lit<, le-ltb, ltb-true, ltb-false}
use Rattle.std.proofs.lemmas.Bool.{not-false, false≢true}
use Rattle.model.specs.Base.{Exactly}
use Rattle.model.specs.Sheet.{record_count}
use Rattle.model.specs.Sheet.{record_at, records_from, records_of, kind_fault, field_fault, faulty, first_of}
use Rattle.model.specs.Outcome.{Lent, Outcome, fault_index, rows, verdict}
use Rattle.model.specs.Outcome.{verdict_number, outcome_by, outcome}
use Rattle.model.specs.Laws.Choice.{All}
use Rattle.model.proofs.Laws.Choice.{choose, by_test}
use Rattle.model.specs.Laws.Limits.{Faultless}
use Rattle.model.proofs.Laws.Limits.{all_faultless, records_length}
use Rattle.model.specs.Laws.Rows.{Decides, NoneHolds, Rising, TableOf}
use Rattle.model.proofs.Laws.Rows.{table_of, undecided}
use Rattle.model.proofs.Laws.Rows.{at_most, decides_refusal, zero_accepted}
use Rattle.model.specs.declared.Refusal.TheVariants.{BadMark, BadVersion, BadShape, BadLengths}
use Rattle.model.specs.declared.Refusal.TheVariants.{UnsoundBoard, ShortAnswers, FaultyRecord, BadRate}
use Rattle.model.specs.declared.SheetRecord.{SheetRecord}
use Rattle.model.specs.Verdict.{Verdict, Accepted, Refused}
use Rattle.model.specs.Laws.Refusal.{FirstFound, NoneFound, FirstFault, NoFault, FirstBy, LowerOfTwo}
use Rattle.model.specs.Laws.Refusal.{Table, Index, Acceptable, Untouched}

-- ---- the least faulty record

fine_first : (f : SheetRecord → Bool) (r : SheetRecord) (rs : List SheetRecord) (d : SheetRecord) (n : ℕ) → f r ≡ false
    → ((k : ℕ) → k < n → f (get_or rs k d) ≡ false) → (k : ℕ) → k < suc n → f (get_or (r ∷ rs) k d) ≡ false
fine_first f r rs d n e g zero h = e
fine_first f r rs d n e g (suc k) h = g k (omega arith)

-- no record before it is found
pub fine_before : (f : SheetRecord → Bool) (rs : List SheetRecord) (d : SheetRecord) (k : ℕ)
    → k < first_of f rs → f (get_or rs k d) ≡ false
unfolding first_of
fine_before f [] d = λ k h. absurd (omega arith)
fine_before f (r ∷ rs) d =
    choose (λ (n : ℕ). (k : ℕ) → k < n → f (get_or (r ∷ rs) k d) ≡ false) (f r) (λ e k h. absurd (omega arith))
    (λ e. fine_first f r rs d (first_of f rs) e (fine_before f rs d))

-- and it is, if it is one of them
pub found_there : (f : SheetRecord → Bool) (rs : List SheetRecord) (d : SheetRecord)
    → first_of f rs < length rs → f (get_or rs (first_of f rs) d) ≡ true
unfolding first_of
found_there f [] d = λ h. absurd (omega arith)
found_there f (r ∷ rs) d =
    choose (λ (n : ℕ). n < suc (length rs) → f (get_or (r ∷ rs) n d) ≡ true)
    (f r) (λ e h. e) (λ e h. found_there f rs d (omega arith))

-- it is at most the number of records
first_most : (f : SheetRecord → Bool) (rs : List SheetRecord) → first_of f rs ≤ length rs
unfolding first_of
first_most f [] = omega arith
first_most f (r ∷ rs) =
    choose (λ (n : ℕ). n ≤ suc (length rs)) (f r) (λ e. omega arith) (λ e. omega (arith, first_most f rs))

-- the first that either of two tests finds is the lesser of what each finds: one pass or two
pub first_either : (f g : SheetRecord → Bool) (rs : List SheetRecord)
    → first_of (λ (r : SheetRecord). f r || g r) rs ≡ min (first_of f rs) (first_of g rs)
unfolding first_of
first_either f g [] = omega arith
first_either f g (r ∷ rs) =
    by_test (f r) (λ e. simp e (omega arith))
    (λ e. by_test (g r) (λ d. simp (e, d) (omega arith)) (λ d. simp (e, d) (omega (arith, first_either f g rs))))

-- ---- the records of a sheet

pub record_in : (s : List ℕ) (k n j : ℕ) (d : SheetRecord) → j < n → get_or (records_from s k n) j d ≡ record_at s (k + j)
unfolding records_from
record_in s k zero j d h = absurd (omega arith)
record_in s k (suc n) zero d h = ap (record_at s) (omega arith)
record_in s k (suc n) (suc j) d h = record_in s (k + 1) n j d (omega arith) ∙ ap (record_at s) (omega arith)

-- a record of the list, by its number
listed : (s : List ℕ) (k : ℕ) → k < record_count s → get_or (records_of s) k (record_at s 0) ≡ record_at s k
listed s k h = record_in s 0 (record_count s) k (record_at s 0) h ∙ ap (record_at s) (omega arith)

module _ (f : SheetRecord → Bool) (s : List ℕ) where
  -- the first record that a test finds
  abbrev first : ℕ
  first = first_of f (records_of s)

  fine : (k : ℕ) → k < record_count s → k < first → f (record_at s k) ≡ false
  fine k h l = ap f (sym (listed s k h)) ∙ fine_before f (records_of s) (record_at s 0) k l

  pub first_found : first < record_count s → FirstFound f s first
  first_found h =
      record {
        within = h;
        there =
            ap f (sym (listed s first h))
            ∙ found_there f (records_of s) (record_at s 0) (omega (arith, records_length s 0 (record_count s)));
        before = λ j l. fine j (omega arith) l;
      }

  pub none_found : record_count s ≤ first → NoneFound f s
  none_found h k l = fine k l (omega arith)

  pub first_by : FirstBy f s first
  first_by =
      record {
        found = first_found;
        none = none_found;
        most = omega (arith, first_most f (records_of s), records_length s 0 (record_count s));
      }

module _ (s : List ℕ) where
  pub first_fault : fault_index s < record_count s → FirstFault s (fault_index s)
  first_fault h = first_found faulty s h

  pub no_fault : record_count s ≤ fault_index s → NoFault s
  no_fault h = none_found faulty s h

  pub fault_none : NoFault s → record_count s ≤ fault_index s
  fault_none f =
      by_test (ltb (fault_index s) (record_count s))
      (λ e.
      let h : fault_index s < record_count s = ltb-true _ _ e in
      let z = sym (first_fault h).there ∙ f (fault_index s) h in
      let y : ◌≡◌ {A = ℕ} 0 1 = cc in absurd (omega arith))
      (λ e. ltb-false _ _ e)

  -- the least faulty record is the lower of what the two walks find
  pub lower_of_two : LowerOfTwo s (fault_index s)
  lower_of_two =
      record {
        kinds = first_of kind_fault (records_of s);
        fields = first_of field_fault (records_of s);
        first_kind = first_by kind_fault s;
        first_field = first_by field_fault s;
        lower = first_either kind_fault field_fault (records_of s);
      }

-- there is one first faulty record
one_first : (s : List ℕ) (k : ℕ) → FirstFault s k → k ≡ fault_index s
one_first s k h =
    by_test (ltb k (fault_index s))
    (λ e. absurd (false≢true (sym (fine faulty s k h.within (ltb-true _ _ e)) ∙ h.there)))
    (λ e.
    by_test (ltb (fault_index s) k)
    (λ d.
    let l : fault_index s < k = ltb-true _ _ d in
    let f = first_fault s (omega (arith, h.within)) in
    absurd (false≢true (sym (h.before (fault_index s) l) ∙ f.there)))
    (λ d. omega (arith, ltb-false _ _ e, ltb-false _ _ d)))

-- so what is said of the first faulty record, as any table's index tells it, is said of the lower of two
pub first_lower : (s : List ℕ) (k : ℕ) → FirstFault s k → LowerOfTwo s k
first_lower s k h = rw (one_first s k h) (lower_of_two s)

-- ---- the rows

rising : (i : Lent) → Rising 0 (rows i)
rising i = (lit< tt, (lit< tt, (lit< tt, (lit< tt, (lit< tt, (lit< tt, (lit< tt, tt)))))))

pub by_number : (i : Lent) (v : Verdict) → (outcome_by i v).number ≡ verdict_number v
by_number i Accepted = refl
by_number i (Refused r) = refl

number_is : (i : Lent) → (outcome i).number ≡ verdict_number (verdict i)
unfolding outcome
number_is i = by_number i (verdict i)

-- what the verdict's number says of a row, the outcome's says
pub exactly_row : (i : Lent) (k n : ℕ) → k < 7 → Exactly (verdict_number (verdict i) ≡ n) (Decides (rows i) k)
    → Exactly ((outcome i).number ≡ n) (Decides (rows i) k)
exactly_row i k n h e = (λ x. e.0 (sym (number_is i) ∙ x), λ d. number_is i ∙ e.1 d)

-- each number exactly when its row decides
pub run_table : (i : Lent) → TableOf (rows i) (outcome i).number
unfolding verdict
run_table i = table_of (rows i) (rising i) (number_is i)

pub table : (i : Lent) → Table i (outcome i)
table i =
    let t = run_table i in
    record {
      mark = t.row 0 (lit< tt);
      version = t.row 1 (lit< tt);
      shape = t.row 2 (lit< tt);
      lengths = t.row 3 (lit< tt);
      board = t.row 4 (lit< tt);
      answers = t.row 5 (lit< tt);
      records = t.row 6 (lit< tt);
      none = t.none;
    }

-- a run makes none but these seven
pub seven_refusals : (i : Lent) → (outcome i).number ≤ 7
unfolding verdict
seven_refusals i =
    rw (number_is i)
    (at_most 7 (rows i)
    (omega arith, (omega arith, (omega arith, (omega arith, (omega arith, (omega arith, (omega arith, tt))))))))

-- ---- the index

pub zero_index : (i : Lent) (v : Verdict) → (outcome_by i v).number ≢ 0 → (outcome_by i v).number ≢ 7 → (outcome_by i v).index ≡ 0
zero_index i Accepted h k = absurd (h refl)
zero_index i (Refused BadMark) h k = refl
zero_index i (Refused BadVersion) h k = refl
zero_index i (Refused BadShape) h k = refl
zero_index i (Refused BadLengths) h k = refl
zero_index i (Refused UnsoundBoard) h k = refl
zero_index i (Refused ShortAnswers) h k = refl
zero_index i (Refused (FaultyRecord n)) h k = absurd (k refl)
zero_index i (Refused BadRate) h k = refl

pub number_zero : (i : Lent) → (outcome i).number ≡ 0 → verdict i ≡ Accepted
number_zero i h = zero_accepted (verdict i) (sym (number_is i) ∙ h)

pub was_accepted : (i : Lent) → (outcome i).number ≡ 0 → outcome i ≡ outcome_by i Accepted
unfolding outcome
was_accepted i h = ap (outcome_by i) (number_zero i h)

fault_index_law : (i : Lent) → Decides (rows i) 6 → FirstFault i.sheet (outcome i).index
unfolding outcome verdict
fault_index_law i d =
    rw (decides_refusal (rows i) 6 d) (first_fault i.sheet (ltb-true _ _ d.1.1.1.1.1.1))

pub index : (i : Lent) → Index i.sheet (outcome i).number (outcome i).index
unfolding outcome
index i =
    record {
      refused = zero_index i (verdict i);
      faulty_record = λ h. fault_index_law i ((table i).records.0 h);
      accepted = λ h. ap (λ (o : Outcome). o.index) (was_accepted i h);
    }

-- the record that 7 names is the lower of the two, of any table with such an index
pub faulty_lower : (s : List ℕ) {number k : ℕ} → Index s number k → number ≡ 7 → LowerOfTwo s k
faulty_lower s {number} {k} told h = first_lower s k (told.faulty_record h)

-- ---- an accepted run

pub none_acceptable : (i : Lent) → NoneHolds (rows i) → Acceptable i
none_acceptable i h =
    record {
      marked = not-false _ h.0;
      version = not-false _ h.1.0;
      shaped = not-false _ h.1.1.0;
      lengths = not-false _ h.1.1.1.0;
      board = not-false _ h.1.1.1.1.0;
      answers = ltb-false _ _ h.1.1.1.1.1.0;
      records = no_fault i.sheet (ltb-false _ _ h.1.1.1.1.1.1.0);
    }

pub acceptable_none : (i : Lent) → Acceptable i → NoneHolds (rows i)
acceptable_none i a = (
  ap not a.marked,
  (
    ap not a.version,
    (
      ap not a.shaped,
      (
        ap not a.lengths,
        (ap not a.board, (le-ltb _ _ a.answers, (le-ltb _ _ (fault_none i.sheet a.records), tt))),
      ),
    ),
  ),
)

pub accepted_acceptable : (i : Lent) → verdict i ≡ Accepted → Acceptable i
unfolding verdict
accepted_acceptable i e = none_acceptable i ((undecided (rows i)).0 (ap verdict_number e))

pub zero_exactly : (i : Lent) → Exactly ((outcome i).number ≡ 0) (Acceptable i)
zero_exactly i = (λ h. none_acceptable i ((table i).none.0 h), λ a. (table i).none.1 (acceptable_none i a))

-- its records have no fault, as a list
pub accepted_faultless : (i : Lent) → (outcome i).number ≡ 0 → All Faultless (records_of i.sheet)
accepted_faultless i h =
    let a : Acceptable i = (zero_exactly i).0 h in
    all_faultless i.sheet 0 (record_count i.sheet) (λ k l. a.records k (omega arith))

-- ---- a refused run

pub by_refusal : (i : Lent) (v : Verdict) → (outcome_by i v).number ≢ 0 → Untouched i (outcome_by i v)
by_refusal i Accepted h = absurd (h refl)
by_refusal i (Refused r) h = record { total = refl; board = refl; store = refl; answers = refl }

pub refused_untouched : (i : Lent) → (outcome i).number ≢ 0 → Untouched i (outcome i)
unfolding outcome
refused_untouched i h = by_refusal i (verdict i) h
