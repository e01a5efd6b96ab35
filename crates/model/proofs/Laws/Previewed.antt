-- A preview, of bytes as lent: it is the run on a copy of the board, but for the named zeros, for all memories that the run
-- accepts; when it is refused, and with what; and what two alike ones have. That the answers are the run's is the law
-- `run_blanked` of Times.antt, put into bytes.
use Rattle.std.specs.Prelude.{◌≡◌, Bool, not, ◌≢◌, ℕ, ◌*◌, ◌≤◌, ◌<◌, length, drop, eqb}
use Rattle.std.proofs.Math.Path.{refl, sym, ap}
use Rattle.std.proofs.Common.{ap₂, ◌∙◌, arith, lit<, ne_eqb}
use Rattle.std.proofs.Math.ListN.{length-map, get_or-append}
use Rattle.std.proofs.Math.Bool.{false≢true}
use mathlib.Core.List.{List, [], ◌∷◌, ◌++◌, map, append_assoc}
use Rattle.std.specs.Prelude.{if◌then◌else◌}
use Rattle.model.specs.Base.{sum, byte_at}
use Rattle.model.specs.Step.{clock_after, cycles_in, total}
use Rattle.model.specs.Sheet.{record_count, records_from, records_of, step_of, steps_of}
use Rattle.model.specs.BoardBytes.{answer_length, clock_of, answer_bytes, answers_bytes}
use Rattle.model.specs.Outcome.{Lent, row, first_row, sheet_rows, board_rows, answers_rows, records_rows}
use Rattle.model.specs.Outcome.{sizes_fit, verdict, refusal_number, refusal_index, verdict_number}
use Rattle.model.specs.Outcome.{media_of, first_state, ran, outcome_by, outcome}
use Rattle.model.specs.Alike.{AlikeSheets, AlikeBoards, Limits}
use Rattle.model.specs.Preview.{previewed, Asked, Previewed, preview_rows, preview_verdict, preview_answers, giving, preview_by, preview}
use Rattle.model.specs.Preview.{Memories, no_memories, lent_with, zeroed, each_answer, with_zeros, AsRun}
use Rattle.model.proofs.Laws.Kinds.{by_kind}
use Rattle.model.specs.Laws.Times.{blanked, each_step}
use Rattle.model.proofs.Laws.Times.{run_blanked, run_total}
use Rattle.model.proofs.Laws.Limits.{preview_limits, records_length}
use Rattle.model.specs.Laws.Rows.{Rising}
use Rattle.model.proofs.Laws.Rows.{table_of, left_out}
use Rattle.model.proofs.Laws.Rows.{refused_number, zero_accepted}
use Rattle.model.specs.Laws.Refusal.{Index}
use Rattle.model.proofs.Laws.Refusal.{index, by_number, table, accepted_faultless, seven_refusals}
use Rattle.model.proofs.Laws.Fits.{answers_count}
use Rattle.model.proofs.Laws.Demand3.{same_preview, alike_count}
use Rattle.model.proofs.Laws.Codec.{OfWidth, blocks_length}
use Rattle.model.proofs.Laws.Choice.{all_of}
use Rattle.model.specs.declared.Answer.{Answer}
use Rattle.model.specs.declared.Clock.{Clock}
use Rattle.model.specs.declared.SheetRecord.{SheetRecord}
use Rattle.model.specs.declared.Refusal.{Refusal}
use Rattle.model.specs.declared.Refusal.TheVariants.{BadLengths}
use Rattle.model.specs.Verdict.{Verdict, Accepted, Refused}
use Rattle.model.specs.declared.Step.{Step}
use Rattle.model.specs.Laws.Previewed.{PreviewTable, Unwritten, SamePreview}

-- ---- what is done to an answer's bytes is done to the answer

-- for any two, of bytes and of answers, that agree on one answer
pub each_answer_law : (f : ℕ → List ℕ → List ℕ) (g : Step → Answer → Answer)
    → ((r : SheetRecord) (y : Answer) → f r.kind (answer_bytes y) ≡ answer_bytes (g (step_of r) y))
    → (rs : List SheetRecord) (ys : List Answer) (rest : List ℕ) → length ys ≡ length rs
    → each_answer f rs (answers_bytes ys ++ rest) ≡ answers_bytes (each_step g (map step_of rs) ys) ++ rest
each_answer_law f g h [] [] rest l = refl
each_answer_law f g h [] (y ∷ ys) rest l = absurd (omega (arith, l))
each_answer_law f g h (r ∷ rs) [] rest l = absurd (omega (arith, l))
each_answer_law f g h (r ∷ rs) (y ∷ ys) rest l =
    ap₂ (λ (a b : List ℕ). a ++ b) (h r y) (each_answer_law f g h rs ys rest (omega (arith, l)))
    ∙ sym (append_assoc (answer_bytes (g (step_of r) y)) (answers_bytes (each_step g (map step_of rs) ys)) rest)

-- the zeros are the blanks
zeroed_answer : (r : SheetRecord) (y : Answer) → zeroed r.kind (answer_bytes y) ≡ answer_bytes (blanked (step_of r) y)
unfolding zeroed
zeroed_answer r y =
    by_kind (λ (k : ℕ) (x : Step). zeroed k (answer_bytes y) ≡ answer_bytes (blanked x y))
    r refl refl refl refl refl refl refl refl
    refl refl (λ o. rw (o.read, o.write, o.fetch, o.block_read, o.block_write))

-- ---- a preview is the run, but for the zeros

module _ (q : Asked) (m : Memories) where
  -- the run's answers with the zeros
  zeroed_run : (rest : List ℕ)
      → each_answer zeroed (records_of q.sheet) (answers_bytes (ran (lent_with q m)).answers ++ rest)
      ≡ answers_bytes (preview_answers q) ++ rest
  unfolding ran preview_answers
  zeroed_run rest =
      let i = lent_with q m in
      each_answer_law zeroed blanked zeroed_answer (records_of q.sheet) (ran i).answers rest
      (answers_count i ∙ sym (records_length q.sheet 0 (record_count q.sheet)))
      ∙ ap (λ (ys : List Answer). answers_bytes ys ++ rest) (run_blanked (media_of i) (first_state i) (steps_of q.sheet))

  pub preview_total : total (ran (lent_with q m)) ≡ sum (cycles_in (preview_answers q))
  unfolding ran preview_answers
  preview_total = let i = lent_with q m in run_total (media_of i) (first_state i) (steps_of q.sheet)

  -- a refused run has answered no record
  none_answered : (r : Refusal) (b : List ℕ)
      → each_answer zeroed (records_from q.sheet 0 (if eqb (refusal_number r) 0 then refusal_index r else 0)) b ≡ b
  unfolding records_from
  none_answered r b =
      ap (λ (t : Bool). each_answer zeroed (records_from q.sheet 0 (if t then refusal_index r else 0)) b)
      (ne_eqb (refusal_number r) 0 (refused_number r))

  by_verdict : (v : Verdict) → with_zeros q (outcome_by (lent_with q m) v) ≡ preview_by q v
  by_verdict Accepted =
      ap₂ (giving q 0 (record_count q.sheet)) preview_total
      (zeroed_run (drop (answer_length * record_count q.sheet) q.answers))
  by_verdict (Refused r) = ap (giving q (refusal_number r) (refusal_index r) 0) (none_answered r q.answers)

  -- the run's fourth row is left out, where it doesn't decide
  same_verdict : (outcome (lent_with q m)).number ≢ 4 → verdict (lent_with q m) ≡ preview_verdict q
  unfolding outcome verdict preview_verdict
  same_verdict h =
      left_out (sheet_rows q.sheet)
      (row (not (sizes_fit m.lengths (length m.store) (length m.bios) (length m.rom))) BadLengths)
      (board_rows q.board ++ (answers_rows (record_count q.sheet) (length q.answers) ++ records_rows q.sheet))
      (λ z. h (by_number (lent_with q m) (verdict (lent_with q m)) ∙ z))

  same_run : (outcome (lent_with q m)).number ≢ 4 → preview q ≡ with_zeros q (outcome (lent_with q m))
  unfolding outcome preview
  same_run h = ap (preview_by q) (sym (same_verdict h)) ∙ sym (by_verdict (verdict (lent_with q m)))

-- ---- no memories are some memories

module _ (q : Asked) where
  abbrev bare : Lent
  bare = lent_with q no_memories

  -- their lengths are not refused
  pub bare_verdict : verdict bare ≡ preview_verdict q
  unfolding verdict preview_verdict sizes_fit
  bare_verdict = refl

  -- of which the run makes no 4
  never_four : (outcome bare).number ≢ 4
  unfolding sizes_fit
  never_four h = false≢true ((table bare).lengths.0 h).1.1.1

  -- so all that is promised of a run's number, index and total holds of a preview's
  pub bare_run : preview q ≡ with_zeros q (outcome bare)
  bare_run = same_run q no_memories never_four

  pub as_run : AsRun q (preview q)
  as_run =
      record {
        same = same_run q;
        some_run = λ h. record { memories = no_memories; accepted = sym (ap (λ (p : Previewed). p.number) bare_run) ∙ h };
        no_other = λ r.
            ap (λ (p : Previewed). p.number)
            (same_run q r.memories (λ four. let z : ◌≡◌ {A = ℕ} 0 4 = sym r.accepted ∙ four in absurd (omega (arith, z))))
            ∙ r.accepted;
      }

-- ---- the table

number_is : (q : Asked) → (preview q).number ≡ verdict_number (first_row (preview_rows q))
unfolding preview preview_verdict
number_is q = by (preview_verdict q)
  where
    by : (v : Verdict) → (preview_by q v).number ≡ verdict_number v
    by Accepted = refl
    by (Refused r) = refl

rising : (q : Asked) → Rising 0 (preview_rows q)
rising q = (lit< tt, (lit< tt, (lit< tt, (lit< tt, (lit< tt, (lit< tt, tt))))))

pub preview_table : (q : Asked) → PreviewTable q (preview q)
preview_table q = table_of (preview_rows q) (rising q) (number_is q)

-- a preview makes none but the run's seven, and no 4
pub six_refusals : (q : Asked) → ((preview q).number ≤ 7) × ((preview q).number ≢ 4)
six_refusals q =
    (rw (bare_run q) (seven_refusals (bare q)), λ h. never_four q (sym (ap (λ (p : Previewed). p.number) (bare_run q)) ∙ h))

-- the index is the run's
pub preview_index : (q : Asked) → Index q.sheet (preview q).number (preview q).index
preview_index q = rw (bare_run q) (index (bare q))

-- ---- what it leaves

pub unwritten : (q : Asked) → Unwritten q (preview q)
unfolding preview
unwritten q = by (preview_verdict q)
  where
    by : (v : Verdict) → Unwritten q (preview_by q v)
    by Accepted =
        record { sheet = refl; board = refl; refused_total = λ h. absurd (h refl); refused_answers = λ h. absurd (h refl) }
    by (Refused r) = record { sheet = refl; board = refl; refused_total = λ h. refl; refused_answers = λ h. refl }

-- ---- an accepted preview

pub accepted_preview : (q : Asked) → (preview q).number ≡ 0 → preview q ≡ preview_by q Accepted
unfolding preview preview_verdict
accepted_preview q h = ap (preview_by q) (zero_accepted (preview_verdict q) (sym (number_is q) ∙ h))

-- its total lies within the limits of a run's
pub total_limits : (q : Asked) → (preview q).number ≡ 0 → Limits (records_of q.sheet) (preview q).total
unfolding preview_answers
total_limits q h =
    let ok = sym (ap (λ (p : Previewed). p.number) (bare_run q)) ∙ h in
    rw (accepted_preview q h)
    (preview_limits (clock_of q.board) (records_of q.sheet) (accepted_faultless (bare q) ok))

-- two accepted ones whose sheets and boards are alike have the same total and the same answers
pub same_previews : (q r : Asked) → (preview q).number ≡ 0 → (preview r).number ≡ 0
    → AlikeSheets q.sheet r.sheet → AlikeBoards q.board r.board
    → (preview_answers q ≡ preview_answers r) × ((preview q).total ≡ (preview r).total)
unfolding preview_answers
same_previews q r h g s b =
    let same = same_preview (bare q) (bare r) s b in (
      same,
      ap (λ (p : Previewed). p.total) (accepted_preview q h)
          ∙ ap (λ (ys : List Answer). sum (cycles_in ys)) same
          ∙ sym (ap (λ (p : Previewed). p.total) (accepted_preview r g)),
    )

-- ---- of two calls, in the bytes of their answers

previewed_length : (c : Clock) (xs : List Step) → length (previewed c xs) ≡ length xs
unfolding previewed
previewed_length c [] = refl
previewed_length c (x ∷ xs) = rw (previewed_length (clock_after c x) xs)

-- an answer a record
as_many_bytes : (q : Asked) → length (answers_bytes (preview_answers q)) ≡ answer_length * record_count q.sheet
unfolding preview_answers
as_many_bytes q =
    blocks_length answer_length answer_bytes (preview_answers q)
    (all_of (OfWidth answer_length answer_bytes) (λ x. refl) (preview_answers q))
    ∙ ap (λ (n : ℕ). answer_length * n)
    (previewed_length (clock_of q.board) (steps_of q.sheet)
    ∙ length-map (records_of q.sheet) step_of ∙ records_length q.sheet 0 (record_count q.sheet))

-- a byte of them, as the call left it
answer_byte : (q : Asked) (p : Previewed) → p ≡ preview q → p.number ≡ 0 → (j : ℕ) → j < answer_length * record_count q.sheet
    → byte_at p.answers j ≡ byte_at (answers_bytes (preview_answers q)) j
answer_byte q p e ok j h =
    ap (λ (o : Previewed). byte_at o.answers j) (e ∙ accepted_preview q (sym (ap (λ (o : Previewed). o.number) e) ∙ ok))
    ∙ get_or-append (answers_bytes (preview_answers q)) _ 0 j (omega (arith, as_many_bytes q))

pub same_previewed : (q r : Asked) (p o : Previewed) → p ≡ preview q → o ≡ preview r → p.number ≡ 0 → o.number ≡ 0
    → AlikeSheets q.sheet r.sheet → AlikeBoards q.board r.board → SamePreview q p o
same_previewed q r p o e f h g s b =
    let numbers = λ (x y : Previewed) (z : x ≡ y). ap (λ (v : Previewed). v.number) z in
    let same = same_previews q r (sym (numbers p (preview q) e) ∙ h) (sym (numbers o (preview r) f) ∙ g) s b in
    record {
      answers = λ j l.
          answer_byte q p e h j l
          ∙ ap (λ (ys : List Answer). byte_at (answers_bytes ys) j) same.0
          ∙ sym (answer_byte r o f g j (omega (arith, alike_count q.sheet r.sheet s)));
      totals = ap (λ (v : Previewed). v.total) e ∙ same.1 ∙ sym (ap (λ (v : Previewed). v.total) f);
    }
