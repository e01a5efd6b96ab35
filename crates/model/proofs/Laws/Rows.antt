-- Tables of refusals, whatever their rows: the verdict is that of the first row that holds. A table whose numbers rise is
-- decided by row k exactly when the verdict has row k's number, and no row holds exactly when it has number 0.
use Rattle.std.specs.Prelude.{◌≡◌, refl, true, false, ◌≢◌, List, [], ◌∷◌, ◌++◌, ℕ, zero, suc, ◌≤◌, ◌<◌, length}
use Rattle.std.proofs.Common.{sym, ap, ◌∙◌, arith}
use Rattle.model.specs.Base.{Exactly}
use Rattle.model.specs.Outcome.{Row, by_row, first_row, refusal_number, verdict_number}
use Rattle.model.proofs.Laws.Choice.{by_test, if_true, if_false}
use Rattle.model.specs.declared.Refusal.{Refusal}
use Rattle.model.specs.declared.Refusal.TheVariants.{BadMark, BadVersion, BadShape, BadLengths}
use Rattle.model.specs.declared.Refusal.TheVariants.{UnsoundBoard, ShortAnswers, FaultyRecord, BadRate}
use Rattle.model.specs.Verdict.{Verdict, Accepted, Refused}
use Rattle.model.specs.Laws.Rows.{Decides, NoneHolds, refusal_at, number_at, Rising, or_else_of, UpTo, TableOf}

-- ---- what a row says

pub row_holds : (r : Row) (v : Verdict) → r.holds ≡ true → by_row r v ≡ Refused r.refusal
row_holds r v e = if_true _ _ _ e

pub row_passes : (r : Row) (v : Verdict) → r.holds ≡ false → by_row r v ≡ v
row_passes r v e = if_false _ _ _ e

pub first_append : (xs ys : List Row) → first_row (xs ++ ys) ≡ or_else_of (first_row xs) (first_row ys)
first_append [] ys = refl
first_append (r ∷ xs) ys =
    by_test r.holds
    (λ e. row_holds r _ e ∙ sym (ap (λ (v : Verdict). or_else_of v (first_row ys)) (row_holds r (first_row xs) e)))
    (λ e. row_passes r _ e ∙ first_append xs ys
    ∙ sym (ap (λ (v : Verdict). or_else_of v (first_row ys)) (row_passes r (first_row xs) e)))

-- a row whose number the verdict doesn't have can be left out
pub left_out : (xs : List Row) (r : Row) (ys : List Row)
    → verdict_number (first_row (xs ++ (r ∷ ys))) ≢ refusal_number r.refusal → first_row (xs ++ (r ∷ ys)) ≡ first_row (xs ++ ys)
left_out [] r ys h =
    by_test r.holds
    (λ e. absurd (h (ap verdict_number (row_holds r (first_row ys) e))))
    (λ e. row_passes r (first_row ys) e)
left_out (x ∷ xs) r ys h =
    by_test x.holds
    (λ e. row_holds x _ e ∙ sym (row_holds x _ e))
    (λ e.
    let same = row_passes x (first_row (xs ++ (r ∷ ys))) e in
    same ∙ left_out xs r ys (λ z. h (ap verdict_number same ∙ z)) ∙ sym (row_passes x (first_row (xs ++ ys)) e))

-- ---- no row

pub none_accepts : (rs : List Row) → NoneHolds rs → first_row rs ≡ Accepted
none_accepts [] h = refl
none_accepts (r ∷ rs) h = row_passes r (first_row rs) h.0 ∙ none_accepts rs h.1

pub accepts_none : (rs : List Row) → first_row rs ≡ Accepted → NoneHolds rs
accepts_none [] h = tt
accepts_none (r ∷ rs) h =
    by_test r.holds
    (λ e.
    let z : Refused r.refusal ≡ Accepted = sym (row_holds r (first_row rs) e) ∙ h in
    let y : ◌≡◌ {A = ℕ} 0 1 = cc in
    absurd (omega arith))
    (λ e. (e, accepts_none rs (sym (row_passes r (first_row rs) e) ∙ h)))

-- no row of a table in two parts holds exactly when none of either does
pub none_of_both : (xs ys : List Row) → Exactly (NoneHolds (xs ++ ys)) (NoneHolds xs × NoneHolds ys)
none_of_both [] ys = (λ h. (tt, h), λ h. h.1)
none_of_both (r ∷ xs) ys =
    let e = none_of_both xs ys in
    (λ h. let k = e.0 h.1 in ((h.0, k.0), k.1), λ h. (h.0.0, e.1 (h.0.1, h.1)))

-- the first row behind a part decides exactly when none of that part holds, and it does
pub next_decides : (xs : List Row) (r : Row) (ys : List Row)
    → Exactly (Decides (xs ++ r ∷ ys) (length xs)) (NoneHolds xs × (r.holds ≡ true))
next_decides [] r ys = (λ h. (tt, h), λ h. h.1)
next_decides (x ∷ xs) r ys =
    let e = next_decides xs r ys in
    (λ h. let k = e.0 h.1 in ((h.0, k.0), k.1), λ h. (h.0.0, e.1 (h.0.1, h.1)))

-- ---- numbers

-- so no verdict's is: a refusal is one of the table's
pub at_most : (n : ℕ) (rs : List Row) → UpTo n rs → verdict_number (first_row rs) ≤ n
at_most n [] h = omega arith
at_most n (r ∷ rs) h =
    by_test r.holds
    (λ e. rw (row_holds r (first_row rs) e) h.0)
    (λ e. rw (row_passes r (first_row rs) e) (at_most n rs h.1))

-- a verdict of a table whose numbers rise from above n is none, or has one above n
pub above : (n : ℕ) (rs : List Row) → Rising n rs → verdict_number (first_row rs) ≢ 0 → n < verdict_number (first_row rs)
above n [] h z = absurd (z refl)
above n (r ∷ rs) h z =
    by_test r.holds
    (λ e. rw (row_holds r (first_row rs) e) h.0)
    (λ e.
    let same = ap verdict_number (row_passes r (first_row rs) e) in
    let more = above (refusal_number r.refusal) rs h.1 (λ y. z (same ∙ y)) in
    omega (arith, h.0, same))

number_above : (n : ℕ) (rs : List Row) → Rising n rs → (k : ℕ) → k < length rs → n < number_at rs k
number_above n [] h k l = absurd (omega arith)
number_above n (r ∷ rs) h zero l = h.0
number_above n (r ∷ rs) h (suc k) l = omega (arith, h.0, number_above (refusal_number r.refusal) rs h.1 k (omega arith))

-- the row that decides makes its refusal
pub decides_refusal : (rs : List Row) (k : ℕ) → Decides rs k → first_row rs ≡ Refused (refusal_at rs k)
decides_refusal [] k d = absurd d
decides_refusal (r ∷ rs) zero d = row_holds r (first_row rs) d
decides_refusal (r ∷ rs) (suc k) d = row_passes r (first_row rs) d.0 ∙ decides_refusal rs k d.1

number_decides : (n : ℕ) (rs : List Row) → Rising n rs → (k : ℕ)
    → k < length rs → verdict_number (first_row rs) ≡ number_at rs k → Decides rs k
number_decides n [] h k l e = absurd (omega arith)
number_decides n (r ∷ rs) h zero l e =
    by_test r.holds (λ t. t)
    (λ t.
    let same = ap verdict_number (row_passes r (first_row rs) t) in
    let more = above (refusal_number r.refusal) rs h.1 (λ z. omega (arith, h.0, same, e, z)) in
    absurd (omega (arith, same, e, more)))
number_decides n (r ∷ rs) h (suc k) l e =
    by_test r.holds
    (λ t.
    let same = ap verdict_number (row_holds r (first_row rs) t) in
    absurd (omega (arith, same, e, number_above (refusal_number r.refusal) rs h.1 k (omega arith))))
    (λ t.
    let same = ap verdict_number (row_passes r (first_row rs) t) in
    (t, number_decides (refusal_number r.refusal) rs h.1 k (omega arith) (sym same ∙ e)))

-- the verdict has row k's number exactly when row k decides
pub decided : (n : ℕ) (rs : List Row) → Rising n rs → (k : ℕ) → k < length rs
    → Exactly (verdict_number (first_row rs) ≡ number_at rs k) (Decides rs k)
decided n rs h k l = (number_decides n rs h k l, λ d. ap verdict_number (decides_refusal rs k d))

-- no refusal has number 0
pub refused_number : (q : Refusal) → refusal_number q ≢ 0
refused_number BadMark h = omega arith
refused_number BadVersion h = omega arith
refused_number BadShape h = omega arith
refused_number BadLengths h = omega arith
refused_number UnsoundBoard h = omega arith
refused_number ShortAnswers h = omega arith
refused_number (FaultyRecord k) h = omega arith
refused_number BadRate h = omega arith

pub zero_accepted : (v : Verdict) → verdict_number v ≡ 0 → v ≡ Accepted
zero_accepted Accepted h = refl
zero_accepted (Refused q) h = absurd (refused_number q h)

-- it has number 0 exactly when no row holds
pub undecided : (rs : List Row) → Exactly (verdict_number (first_row rs) ≡ 0) (NoneHolds rs)
undecided rs = (λ h. accepts_none rs (zero_accepted (first_row rs) h), λ h. ap verdict_number (none_accepts rs h))

-- what a table says of the number that an operation gives: row k's exactly when its condition holds and no earlier one does, 0

pub table_of : (rs : List Row) → Rising 0 rs → {number : ℕ} → number ≡ verdict_number (first_row rs) → TableOf rs number
table_of rs rising e =
    record {
      row = λ k h. let d = decided 0 rs rising k h in (λ x. d.0 (sym e ∙ x), λ z. e ∙ d.1 z);
      none = (λ x. (undecided rs).0 (sym e ∙ x), λ z. e ∙ (undecided rs).1 z);
    }
