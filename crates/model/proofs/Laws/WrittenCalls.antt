-- A block is its words, of a call: what an accepted run leaves, costs, answers and tells is what the run does of the sheet's
-- records with each block written out; and so is it of any second call whose sheet has those records.
use Rattle.std.specs.Prelude.{◌≡◌, List, [], ◌∷◌, map, ℕ, zero, suc, ◌+◌, ◌≤◌, ◌<◌, length, take, get_or}
use Rattle.std.proofs.Math.Path.{refl, sym, ap, ap₂}
use Rattle.std.proofs.Common.{◌∙◌, arith}
use Rattle.std.proofs.Math.Seq.{take-length}
use Rattle.model.specs.Step.{Result, run, total, answer}
use Rattle.model.specs.Sheet.{record_at, record_count, records_of, step_of, steps_of}
use Rattle.model.specs.BoardBytes.{clock_of, board_of, board_bytes, answer_bytes}
use Rattle.model.specs.Outcome.{Lent, Outcome, media_of, first_state, ran, outcome_by, outcome}
use Rattle.model.specs.Alike.{state_at, answer_at}
use Rattle.model.specs.Grounds.{beat_bytes, Explaining, Explained, explain, Explains, grounds, grounds_after, run_grounds, grounds_at}
use Rattle.model.specs.Laws.Choice.{All}
use Rattle.model.proofs.Laws.Run.{run_at}
use Rattle.model.proofs.Laws.Times.{run_clock}
use Rattle.model.specs.Laws.Limits.{Faultless}
use Rattle.model.proofs.Laws.Limits.{records_length}
use Rattle.model.proofs.Laws.Refusal.{was_accepted, record_in, accepted_faultless}
use Rattle.model.specs.Laws.Demand3.{no_answer}
use Rattle.model.proofs.Laws.Demand3.{step_there, step_is, accounts}
use Rattle.model.proofs.Laws.Explained.{grounds_at_law, explains}
use Rattle.model.specs.Laws.Blocks.{joined_grounds}
use Rattle.model.specs.Laws.WrittenOut.{written_out, words_in, picked, joined_answer}
use Rattle.model.proofs.Laws.WrittenOut.{written_faultless, written_state, written_total, written_answers, written_grounds_at}
use Rattle.model.proofs.Laws.WrittenOut.{written_grounds_all, words_next, words_most, words_picked, words_length}
use Rattle.model.proofs.Laws.WrittenOut.{as_many, grounds_many}
use Rattle.model.specs.Laws.WrittenCalls.{written_run, written_grounds, word_answers, word_grounds, OfWords, ToldByWords}
use Rattle.model.specs.Laws.WrittenCalls.{SameLoan, answers_from, grounds_from, word_start, AsWords}
use Rattle.model.specs.declared.Answer.{Answer}
use Rattle.model.specs.declared.Ground.{Ground}
use Rattle.model.specs.declared.SheetRecord.{SheetRecord}
use Rattle.model.specs.declared.Step.TheVariants.{Latch}
use Rattle.model.specs.Verdict.{Accepted}

-- ---- a step of a sheet, by its number

-- so many records, and which they are
many_records : (i : Lent) → length (records_of i.sheet) ≡ record_count i.sheet
many_records i = records_length i.sheet 0 (record_count i.sheet)

listed : (i : Lent) (k : ℕ) → k < record_count i.sheet → get_or (records_of i.sheet) k (record_at i.sheet 0) ≡ record_at i.sheet k
listed i k h =
    record_in i.sheet 0 (record_count i.sheet) k (record_at i.sheet 0) h ∙ ap (record_at i.sheet) (omega arith)

-- its answer and its grounds, in the run
ran_answer : (i : Lent) (k : ℕ) → k < record_count i.sheet → get_or (ran i).answers k no_answer ≡ answer_at i k
unfolding ran state_at answer_at
ran_answer i k h =
    run_at (media_of i) (first_state i) (steps_of i.sheet) k no_answer (Latch 0) (step_there i k h)
    ∙ ap (answer (media_of i) (state_at i k)) (step_is i k h)

run_ground : (i : Lent) (k : ℕ) → k < record_count i.sheet → get_or (run_grounds i) k [] ≡ grounds_at i k
unfolding run_grounds state_at
run_ground i k h =
    grounds_at_law (clock_of i.board) (steps_of i.sheet) k (step_there i k h)
    ∙ ap₂ grounds (sym (run_clock (media_of i) (first_state i) (take k (steps_of i.sheet)))) (step_is i k h)

-- read one by one
answers_picked : (j : Lent) (k n : ℕ) → k + n ≤ record_count j.sheet → picked (ran j).answers no_answer k n ≡ answers_from j k n
answers_picked j k zero h = refl
answers_picked j k (suc n) h =
    ap₂ (λ (x : Answer) (xs : List Answer). x ∷ xs) (ran_answer j k (omega arith)) (answers_picked j (suc k) n (omega arith))

grounds_picked : (j : Lent) (k n : ℕ) → k + n ≤ record_count j.sheet → picked (run_grounds j) [] k n ≡ grounds_from j k n
grounds_picked j k zero h = refl
grounds_picked j k (suc n) h =
    ap₂ (λ (g : List Ground) (gs : List (List Ground)). g ∷ gs) (run_ground j k (omega arith))
    (grounds_picked j (suc k) n (omega arith))

-- ---- one call

module _ (i : Lent) (o : Outcome) (ok : o ≡ outcome i) (zero_number : o.number ≡ 0) where
  accepted : (outcome i).number ≡ 0
  accepted = sym (ap (λ (x : Outcome). x.number) ok) ∙ zero_number

  whole : o ≡ outcome_by i Accepted
  whole = ok ∙ was_accepted i accepted

  fine : All Faultless (records_of i.sheet)
  fine = accepted_faultless i accepted

  in_list : (k : ℕ) → k < record_count i.sheet → k < length (records_of i.sheet)
  in_list k h = omega (arith, many_records i)

  of_state : (ran i).state ≡ (written_run i).state
  unfolding ran written_run
  of_state = written_state (media_of i) (first_state i) (records_of i.sheet) fine

  of_total : total (ran i) ≡ total (written_run i)
  unfolding ran written_run
  of_total = written_total (media_of i) (first_state i) (records_of i.sheet) fine

  run_many : length (written_run i).answers ≡ length (written_out (records_of i.sheet))
  unfolding written_run
  run_many = as_many (media_of i) (first_state i) (written_out (records_of i.sheet))

  of_answer : (k : ℕ) → k < record_count i.sheet → answer_at i k ≡ joined_answer (word_answers i k)
  unfolding ran written_run
  of_answer k h =
      sym (ran_answer i k h)
      ∙ written_answers (media_of i) (first_state i) (records_of i.sheet) k no_answer fine (in_list k h)

  of_grounds : (k : ℕ) → k < record_count i.sheet → grounds_at i k ≡ joined_grounds (word_grounds i k)
  unfolding run_grounds written_grounds
  of_grounds k h =
      sym (run_ground i k h)
      ∙ written_grounds_at (media_of i) (first_state i) (records_of i.sheet) k fine (in_list k h)

  of_all_grounds : joined_grounds (run_grounds i) ≡ joined_grounds (written_grounds i)
  unfolding run_grounds written_grounds
  of_all_grounds = written_grounds_all (media_of i) (first_state i) (records_of i.sheet) fine

  pub of_words : OfWords i o
  of_words =
      record {
        faultless = written_faultless (records_of i.sheet) fine;
        board = ap (λ (x : Outcome). x.board) whole ∙ ap (λ s. board_bytes s.board) of_state;
        store = ap (λ (x : Outcome). x.store) whole ∙ ap (λ s. s.store) of_state;
        total = ap (λ (x : Outcome). x.total) whole ∙ of_total;
        many = λ k h.
            words_length (records_of i.sheet) (written_run i).answers run_many k (record_at i.sheet 0) (in_list k h)
            ∙ ap words_in (listed i k h);
        answers = of_answer;
        bytes = λ k h. (accounts i o ok zero_number).bytes k h ∙ ap answer_bytes (of_answer k h);
        grounds = of_grounds;
        all_grounds = of_all_grounds;
      }

pub told_by_words : (e : Explaining) (x : Explained) → x ≡ explain e → x.run.number ≡ 0 → ToldByWords e x
told_by_words e x ok zero_number =
    let told : Explains e x = explains e x ok zero_number in
    let words : OfWords e.run x.run = of_words e.run x.run told.run zero_number in
    record { run = words; bytes = λ k h. told.bytes k h ∙ ap beat_bytes (words.grounds k h) }

-- ---- two calls

module _ (i j : Lent) (o p : Outcome) (ok : o ≡ outcome i) (also : p ≡ outcome j) (zero_number : o.number ≡ 0)
    (no_number : p.number ≡ 0) (l : SameLoan i j) (out : records_of j.sheet ≡ written_out (records_of i.sheet)) where
  -- the second runs the words of the first
  same_run : ran j ≡ written_run i
  unfolding ran written_run
  same_run =
      ap (λ (rs : List SheetRecord). run (media_of j) (first_state j) (map step_of rs)) out
      ∙ sym
      (λ x.
      run (record { bios = l.bios x; rom = l.rom x; lengths = l.lengths x })
      (record { board = board_of (l.board x); store = l.store x })
      (map step_of (written_out (records_of i.sheet))))

  same_grounds_run : run_grounds j ≡ written_grounds i
  unfolding run_grounds written_grounds
  same_grounds_run =
      ap₂ (λ (b : List ℕ) (rs : List SheetRecord). grounds_after (clock_of b) (map step_of rs)) (sym l.board) out

  there : p ≡ outcome_by j Accepted
  there = whole j p also no_number

  one : OfWords i o
  one = of_words i o ok zero_number

  out_many : record_count j.sheet ≡ length (written_out (records_of i.sheet))
  out_many = sym (many_records j) ∙ ap length out

  all_words : record_count j.sheet ≡ word_start i (record_count i.sheet)
  all_words =
      out_many
      ∙ ap (λ (rs : List SheetRecord). length (written_out rs)) (sym (take-length (records_of i.sheet)))
      ∙ ap (word_start i) (many_records i)

  next_start : (k : ℕ) → k < record_count i.sheet → word_start i (suc k) ≡ word_start i k + words_in (record_at i.sheet k)
  next_start k h =
      words_next (records_of i.sheet) k (record_at i.sheet 0) (omega (arith, many_records i))
      ∙ ap (λ (r : SheetRecord). word_start i k + words_in r) (listed i k h)

  -- the words of record k are there
  words_there : (k : ℕ) → k < record_count i.sheet → word_start i k + words_in (record_at i.sheet k) ≤ record_count j.sheet
  words_there k h = omega (arith, next_start k h, words_most (records_of i.sheet) (suc k), out_many)

  word_answers_are : (k : ℕ) → k < record_count i.sheet
      → word_answers i k ≡ answers_from j (word_start i k) (words_in (record_at i.sheet k))
  word_answers_are k h =
      words_picked (records_of i.sheet) (written_run i).answers (run_many i o ok zero_number) k (record_at i.sheet 0)
      (omega (arith, many_records i)) no_answer
      ∙ ap (λ (r : SheetRecord). picked (written_run i).answers no_answer (word_start i k) (words_in r)) (listed i k h)
      ∙ ap (λ (q : Result). picked q.answers no_answer (word_start i k) (words_in (record_at i.sheet k))) (sym same_run)
      ∙ answers_picked j (word_start i k) (words_in (record_at i.sheet k)) (words_there k h)

  told_many : length (written_grounds i) ≡ length (written_out (records_of i.sheet))
  unfolding written_grounds
  told_many = grounds_many (clock_of i.board) (written_out (records_of i.sheet))

  word_grounds_are : (k : ℕ) → k < record_count i.sheet
      → word_grounds i k ≡ grounds_from j (word_start i k) (words_in (record_at i.sheet k))
  word_grounds_are k h =
      words_picked (records_of i.sheet) (written_grounds i) told_many k (record_at i.sheet 0) (omega (arith, many_records i)) []
      ∙ ap (λ (r : SheetRecord). picked (written_grounds i) [] (word_start i k) (words_in r)) (listed i k h)
      ∙ ap (λ (gs : List (List Ground)). picked gs [] (word_start i k) (words_in (record_at i.sheet k))) (sym same_grounds_run)
      ∙ grounds_picked j (word_start i k) (words_in (record_at i.sheet k)) (words_there k h)

  pub as_words : AsWords i j o p
  as_words =
      record {
        board = one.board ∙ sym (ap (λ (x : Outcome). x.board) there ∙ ap (λ (q : Result). board_bytes q.state.board) same_run);
        store = one.store ∙ sym (ap (λ (x : Outcome). x.store) there ∙ ap (λ (q : Result). q.state.store) same_run);
        total = one.total ∙ sym (ap (λ (x : Outcome). x.total) there ∙ ap total same_run);
        many = all_words;
        next = next_start;
        answers = λ k h. one.answers k h ∙ ap joined_answer (word_answers_are k h);
        grounds = λ k h. one.grounds k h ∙ ap joined_grounds (word_grounds_are k h);
        all_grounds = one.all_grounds ∙ ap joined_grounds (sym same_grounds_run);
      }
