-- What the program writes of its input, by what is known of the bytes that it read.
use Rattle.std.specs.Prelude.{◌≡◌, List, ℕ, ◌==◌, ◌<◌, length, take, Option, Some, None, IfSome}
use Rattle.std.proofs.Common.{sym, ap, subst, ◌∙◌}
use Rattle.std.specs.Io.KnownBytes.{Appends}
use Rattle.model.specs.Grounds.{explain}
use Rattle.model.proofs.Laws.Choice.{by_test, if_true, if_false}
use Rattle.bench.specs.declared.Ending.{Ending}
use Rattle.bench.specs.declared.Ending.TheVariants.{Figures, Refusal}
use Rattle.bench.specs.Text.{bench_lends, bench_text, bench_ending, Wrote}
use Rattle.bench.proofs.Longer.{longest, text_read, ending_read}

-- of bytes that were read and run
wrote : (sheet : List ℕ) (a b : Option (List ℕ)) → Appends a b (bench_text sheet) → Wrote sheet (bench_ending sheet) a b
wrote sheet a b text =
    by_test ((explain (bench_lends sheet)).run.number == 0)
    (λ t.
    let figures : bench_ending sheet ≡ Figures = if_true _ _ _ t in
    subst (λ (e : Ending). Wrote sheet e a b) (sym figures) (figures, text))
    (λ f.
    let refusal : bench_ending sheet ≡ Refusal = if_false _ _ _ f in
    subst (λ (e : Ending). Wrote sheet e a b) (sym refusal) (refusal, text))

-- what was read went into a buffer with room for one byte more than the longest sheet has
pub priced : (input a b : Option (List ℕ)) (read buffer : List ℕ) (e : Ending) → longest < length buffer
    → IfSome input (λ (sheet : List ℕ). read ≡ take (length buffer) sheet)
    → e ≡ bench_ending read → Appends a b (bench_text read)
    → IfSome input (λ (sheet : List ℕ). Wrote sheet e a b)
priced None a b read buffer e room q end text = tt
priced (Some sheet) a b read buffer e room q end text =
    let same = end ∙ ap bench_ending q ∙ ending_read (length buffer) sheet room in
    subst (λ (x : Ending). Wrote sheet x a b) (sym same)
    (wrote sheet a b (subst (Appends a b) (ap bench_text q ∙ text_read (length buffer) sheet room) text))
