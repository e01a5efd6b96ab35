-- What the records of a sheet bound: I + A + D and 19 I + 18 A + D for the total, and 32 bits for each step's cycles.
use Rattle.std.specs.Prelude.{◌≡◌, refl, true, not, ◌&&◌, ◌||◌, List, [], ◌∷◌, ◌++◌, map, ℕ, zero, suc, ◌+◌, ◌≤◌, ◌<◌, length, take, leb}
use Rattle.std.proofs.Common.{ap, ◌∙◌, arith, leb-true}
use Rattle.std.proofs.lemmas.List.{map-append}
use Rattle.std.proofs.lemmas.Bool.{not-false}
use Rattle.model.specs.Base.{sum}
use Rattle.model.specs.Step.{timed, clock_after, cycles_in}
use Rattle.model.specs.Sheet.{record_at, records_from, max_words, words_of, step_of, is_block, kind_fault}
use Rattle.model.specs.Sheet.{fields_fit, field_fault}
use Rattle.model.specs.Alike.{Limits}
use Rattle.model.specs.Preview.{previewed}
use Rattle.model.specs.Laws.Choice.{All}
use Rattle.model.proofs.Laws.Choice.{parts, and_true_left, and_true_right, or_false_right, or_right}
use Rattle.model.proofs.Laws.Kinds.{by_kind}
use Rattle.model.specs.Laws.Bounds.{Between, weighing, weight, Short, most, Bounded}
use Rattle.model.proofs.Laws.Bounds.{step_bounded}
use Rattle.model.specs.declared.Clock.{Clock}
use Rattle.model.specs.declared.SheetRecord.{SheetRecord}
use Rattle.model.specs.declared.Step.{Step}
use Rattle.model.specs.Laws.Limits.{weight_of, record_weight, Faultless}

pub few_words : (r : SheetRecord) → Faultless r → is_block r.kind ≡ true → Between 1 max_words r.value
unfolding field_fault
few_words r f b =
    let fits : fields_fit r ≡ true = not-false (fields_fit r) (or_false_right (kind_fault r) (field_fault r) f) in
    let words : not (is_block r.kind) || leb 1 r.value && leb r.value max_words ≡ true = search parts in
    let some = or_right _ _ words (ap not b) in
    record {
      least = leb-true 1 r.value (and_true_left (leb 1 r.value) _ some);
      most = leb-true r.value max_words (and_true_right (leb 1 r.value) _ some);
    }

-- the words of a block are as many as its value says
pub words_are : (n : ℕ) → Between 1 max_words n → words_of n ≡ n
unfolding words_of
words_are n h = omega (arith, h.least, h.most)

pub words_between : (n : ℕ) → Between 1 max_words (words_of n)
unfolding words_of
words_between n = omega arith

-- the step of such a record adds the same
pub step_weighs : (r : SheetRecord) → Faultless r → weight (step_of r) ≡ record_weight r
step_weighs r f =
    by_kind W r (λ h. refl) (λ h. refl) (λ h. refl) (λ h. refl) (λ h. refl) (λ h. refl) (λ h. refl) (λ h. refl)
    (λ h. ap (λ (n : ℕ). weighing 0 n 0) (words_are r.value (h refl)))
    (λ h. ap (λ (n : ℕ). weighing 0 n 0) (words_are r.value (h refl)))
    (λ o h. rw (o.read, o.write, o.idle, o.instruction, o.block_read, o.block_write)) (few_words r f)
  where
    W : ℕ → Step → Type 0
    W k x = (is_block k ≡ true → Between 1 max_words r.value) → weight x ≡ weight_of k r.value

-- what a step of such a record costs at least and at most
pub record_bounded : (c : Clock) (r : SheetRecord) → Faultless r → Bounded (record_weight r) (timed c (step_of r))
record_bounded c r f = rw (step_weighs r f) at (step_bounded c (step_of r))

pub preview_limits : (c : Clock) (rs : List SheetRecord) → All Faultless rs
    → Limits rs (sum (cycles_in (previewed c (map step_of rs))))
unfolding previewed
preview_limits c [] f = omega arith
preview_limits c (r ∷ rs) f =
    let b : Bounded (record_weight r) (timed c (step_of r)) = record_bounded c r f.0 in
    let l : Limits rs (sum (cycles_in (previewed (clock_after c (step_of r)) (map step_of rs)))) =
    preview_limits (clock_after c (step_of r)) rs f.1 in
    omega arith

-- the records of a sheet, of which none is faulty
pub all_faultless : (s : List ℕ) (k n : ℕ) → ((j : ℕ) → j < k + n → Faultless (record_at s j))
    → All Faultless (records_from s k n)
unfolding records_from
all_faultless s k zero h = tt
all_faultless s k (suc n) h = (h k (omega arith), all_faultless s (k + 1) n (λ j l. h j (omega arith)))

-- every record's step is short, and costs no more than 32 bits hold where its value has no more
pub short_step : (r : SheetRecord) → Short (step_of r)
short_step r =
    by_kind (λ (k : ℕ) (x : Step). Short x) r
    (record { some = tt; short = omega arith }) (record { some = tt; short = omega arith })
    (record { some = tt; short = omega arith }) (record { some = tt; short = omega arith })
    (record { some = tt; short = omega arith }) (record { some = tt; short = omega arith })
    (record { some = tt; short = omega arith }) (record { some = tt; short = omega arith })
    (record { some = between.least; short = between.most }) (record { some = between.least; short = between.most })
    (λ o. record { some = tt; short = omega arith })
  where
    between : Between 1 max_words (words_of r.value)
    between = words_between r.value

pub steps_short : (s : List ℕ) (k n : ℕ) → All Short (map step_of (records_from s k n))
unfolding records_from
steps_short s k zero = tt
steps_short s k (suc n) = (short_step (record_at s k), steps_short s (k + 1) n)

pub cycles_fit : (c : Clock) (r : SheetRecord) → r.value ≤ 0xFFFF_FFFF → (timed c (step_of r)).cycles ≤ 0xFFFF_FFFF
cycles_fit c r h =
    let b : Bounded (weight (step_of r)) (timed c (step_of r)) = step_bounded c (step_of r) in
    let m : most (weight (step_of r)) ≤ 0xFFFF_FFFF =
    by_kind (λ (k : ℕ) (x : Step). most (weight x) ≤ 0xFFFF_FFFF) r (omega arith) (omega arith) (omega arith) (omega arith)
    (omega arith) (omega arith) (omega arith) (omega arith) (omega (arith, words_between r.value))
    (omega (arith, words_between r.value)) (λ o. omega arith) in
    omega arith

pub records_length : (s : List ℕ) (k n : ℕ) → length (records_from s k n) ≡ n
unfolding records_from
records_length s k zero = refl
records_length s k (suc n) = rw (records_length s (k + 1) n)

-- one record more
records_snoc : (sheet : List ℕ) (k n : ℕ) → records_from sheet k (suc n) ≡ records_from sheet k n ++ record_at sheet (k + n) ∷ []
unfolding records_from
records_snoc sheet k zero = ap (λ (j : ℕ). record_at sheet j ∷ []) (omega arith)
records_snoc sheet k (suc n) =
    ap (λ (rs : List SheetRecord). record_at sheet k ∷ rs)
    (records_snoc sheet (k + 1) n ∙ ap (λ (j : ℕ). records_from sheet (k + 1) n ++ record_at sheet j ∷ []) (omega arith))

-- and its step
pub steps_snoc : (sheet : List ℕ) (k : ℕ)
    → map step_of (records_from sheet 0 (k + 1)) ≡ map step_of (records_from sheet 0 k) ++ step_of (record_at sheet k) ∷ []
steps_snoc sheet k =
    let next : k + 1 ≡ suc k = omega arith in
    let own : 0 + k ≡ k = omega arith in
    ap (λ (n : ℕ). map step_of (records_from sheet 0 n)) next
    ∙ ap (map step_of) (records_snoc sheet 0 k ∙ ap (λ (j : ℕ). records_from sheet 0 k ++ record_at sheet j ∷ []) own)
    ∙ map-append step_of (records_from sheet 0 k) (record_at sheet k ∷ [])

-- the steps of the first k records
pub steps_take : (sheet : List ℕ) (i k n : ℕ) → k ≤ n
    → take k (map step_of (records_from sheet i n)) ≡ map step_of (records_from sheet i k)
unfolding records_from
steps_take sheet i zero n h = refl
steps_take sheet i (suc k) zero h = absurd (omega arith)
steps_take sheet i (suc k) (suc n) h =
    ap (λ (xs : List Step). step_of (record_at sheet i) ∷ xs) (steps_take sheet (i + 1) k n (omega arith))
