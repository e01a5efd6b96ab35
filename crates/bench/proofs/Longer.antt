-- Of input that is longer than any sheet the beginning says enough: it is refused by its header and its length alone.
use Rattle.std.specs.Prelude.{◌≡◌, refl, Bool, true, false, not, List, ℕ, ◌+◌, ◌*◌, ◌≤◌, ◌<◌, length, take, leb, eqb}
use Rattle.std.specs.Prelude.{if◌then◌else◌}
use Rattle.std.proofs.Common.{sym, ap, ◌∙◌, arith, length-take-le, take_all, eqb-true, leb-true, leb-false, le-leb}
use Rattle.std.proofs.lemmas.List.{get_or-take}
use Rattle.model.specs.Base.{byte_at}
use Rattle.model.specs.Sheet.{header_length, record_length, max_records, latest_version, knows, is_marked, version_of, is_shaped, record_count}
use Rattle.model.specs.Outcome.{Lent, refusal_number, refusal_index, outcome_by}
use Rattle.model.specs.Grounds.{grounds_verdict, explain, explain_by}
use Rattle.model.specs.Verdict.{Verdict, Refused}
use Rattle.model.specs.declared.Refusal.{Refusal}
use Rattle.model.specs.declared.Refusal.TheVariants.{BadMark, BadVersion, BadShape, BadLengths}
use Rattle.model.specs.declared.Refusal.TheVariants.{UnsoundBoard, ShortAnswers, FaultyRecord, BadRate}
use Rattle.model.proofs.Laws.Choice.{by_test, if_true, parts}
use Rattle.bench.specs.Text.{bench_lends, refusal_text, text_of, bench_text, ending_by, bench_ending}

-- the longest sheet
abbrev pub longest : ℕ
longest = header_length + record_length * max_records

-- what is refused of input whose shape is wrong
early : List ℕ → Refusal
early s =
    if not (is_marked s) then BadMark else if not (knows latest_version (version_of s)) then BadVersion else BadShape

by_header : (a b c : Bool) (v : Verdict) → c ≡ true
    → (if a then Refused BadMark else if b then Refused BadVersion else if c then Refused BadShape else v)
    ≡ Refused (if a then BadMark else if b then BadVersion else BadShape)
by_header true b c v h = refl
by_header false true c v h = refl
by_header false false c v h = if_true c _ _ h

shapeless : (s : List ℕ) → longest < length s → not (is_shaped s) ≡ true
shapeless s h =
    by_test (is_shaped s)
    (λ t.
    let few : leb (record_count s) max_records ≡ true = search (parts, t) in
    let long : eqb (length s) (header_length + record_length * record_count s) ≡ true = search (parts, t) in
    absurd (omega (arith, h, leb-true (record_count s) max_records few, eqb-true (length s) _ long)))
    (λ f. ap not f)

early_verdict : (s : List ℕ) → longest < length s → grounds_verdict (bench_lends s) ≡ Refused (early s)
unfolding grounds_verdict early
early_verdict s h = by_header _ _ _ _ (shapeless s h)

-- what is written of a refusal, and how it ends
refused_text : (i : Lent) (q : Refusal) → text_of i (outcome_by i (Refused q)) ≡ refusal_text (refusal_number q) (refusal_index q)
refused_text i BadMark = refl
refused_text i BadVersion = refl
refused_text i BadShape = refl
refused_text i BadLengths = refl
refused_text i UnsoundBoard = refl
refused_text i ShortAnswers = refl
refused_text i (FaultyRecord k) = refl
refused_text i BadRate = refl

early_text : (s : List ℕ) → longest < length s → bench_text s ≡ refusal_text (refusal_number (early s)) (refusal_index (early s))
unfolding explain
early_text s h =
    ap (λ (v : Verdict). text_of (bench_lends s).run (explain_by (bench_lends s) v).run) (early_verdict s h)
    ∙ refused_text (bench_lends s).run (early s)

early_ending : (s : List ℕ) → longest < length s → bench_ending s ≡ ending_by (refusal_number (early s))
unfolding explain
early_ending s h =
    ap (λ (v : Verdict). ending_by (explain_by (bench_lends s) v).run.number) (early_verdict s h)

module _ (n : ℕ) (s : List ℕ) (more : longest < n) (long : n ≤ length s) where
  size : length (take n s) ≡ n
  size = length-take-le n s long

  byte_same : (j : ℕ) → j ≤ longest → byte_at (take n s) j ≡ byte_at s j
  byte_same j h = get_or-take n s j 0 (omega (arith, h, more))

  marked_same : is_marked (take n s) ≡ is_marked s
  marked_same =
      rw (
        le-leb header_length (length (take n s)) (omega (arith, size, more)),
        le-leb header_length (length s) (omega (arith, long, more)),
        byte_same 0 (omega arith),
        byte_same 1 (omega arith),
        byte_same 2 (omega arith),
      )
      refl

  version_same : version_of (take n s) ≡ version_of s
  version_same = rw (byte_same 3 (omega arith), byte_same 4 (omega arith)) refl

  early_same : early (take n s) ≡ early s
  unfolding early
  early_same = rw (marked_same, version_same) refl

  cut_text : bench_text (take n s) ≡ bench_text s
  cut_text =
      early_text (take n s) (omega (arith, size, more))
      ∙ ap (λ (q : Refusal). refusal_text (refusal_number q) (refusal_index q)) early_same
      ∙ sym (early_text s (omega (arith, long, more)))

  cut_ending : bench_ending (take n s) ≡ bench_ending s
  cut_ending =
      early_ending (take n s) (omega (arith, size, more))
      ∙ ap (λ (q : Refusal). ending_by (refusal_number q)) early_same
      ∙ sym (early_ending s (omega (arith, long, more)))

-- of as many bytes as the program reads
pub text_read : (n : ℕ) (s : List ℕ) → longest < n → bench_text (take n s) ≡ bench_text s
text_read n s more =
    by_test (leb n (length s)) (λ t. cut_text n s more (leb-true n (length s) t))
    (λ f. ap bench_text (take_all n s (omega (arith, leb-false n (length s) f))))

pub ending_read : (n : ℕ) (s : List ℕ) → longest < n → bench_ending (take n s) ≡ bench_ending s
ending_read n s more =
    by_test (leb n (length s)) (λ t. cut_ending n s more (leb-true n (length s) t))
    (λ f. ap bench_ending (take_all n s (omega (arith, leb-false n (length s) f))))
