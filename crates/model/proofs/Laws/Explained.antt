-- A run with grounds, of bytes as lent: when it is refused, and with what; what a refusal leaves; and what an accepted run's
-- grounds are.
use Rattle.std.specs.Prelude.{◌≡◌, refl, ◌≢◌, ℕ, zero, suc, ◌-◌, ◌≤◌, ◌<◌, length, get_or, drop, replicate}
use Rattle.std.proofs.Common.{sym, ◌∙◌, arith, length-append, lit<}
use Rattle.std.proofs.Math.Path.{ap, ap₂}
use mathlib.Core.List.{List, [], ◌∷◌, ◌++◌, map}
use Rattle.std.proofs.Math.ListN.{take, length-map, get_or-append}
use Rattle.std.proofs.lemmas.List.{length-replicate}
use Rattle.std.proofs.Math.Seq.{drop_at}
use Rattle.model.specs.Base.{byte_at, Exactly}
use Rattle.model.specs.Step.{clock_after}
use Rattle.model.specs.Sheet.{record_at, record_count, records_of, step_of, steps_of}
use Rattle.model.specs.BoardBytes.{clock_of}
use Rattle.model.specs.Outcome.{first_row, media_of, first_state, verdict, verdict_number, outcome_by, outcome}
use Rattle.model.specs.Alike.{AlikeSheets, AlikeBoards, state_at, answer_at}
use Rattle.model.specs.Grounds.{ground_byte, grounds, grounds_after, grounds_length, beat_bytes, grounds_bytes, Explaining}
use Rattle.model.specs.Grounds.{Explained, grounds_rows, grounds_verdict, run_grounds, explain_by, explain, grounds_start}
use Rattle.model.specs.Grounds.{clock_at, step_at, grounds_at, Explains, SameGrounds}
use Rattle.model.specs.Laws.Choice.{All}
use Rattle.model.specs.Laws.Rows.{NoneHolds, Rising}
use Rattle.model.proofs.Laws.Rows.{table_of, none_accepts, undecided, at_most, zero_accepted}
use Rattle.model.specs.Laws.Refusal.{Index}
use Rattle.model.proofs.Laws.Refusal.{by_number, zero_index, by_refusal}
use Rattle.model.proofs.Laws.Second.{same_verdict, none_of_second, fault_told}
use Rattle.model.proofs.Laws.Codec.{OfWidth, blocks_length, block_there}
use Rattle.model.specs.Laws.Times.{clock_past}
use Rattle.model.proofs.Laws.Times.{run_clock}
use Rattle.model.proofs.Laws.Limits.{short_step, steps_short, records_length}
use Rattle.model.specs.Laws.Bounds.{Short}
use Rattle.model.proofs.Laws.Demand3.{step_there, step_is, alike_count, same_grounds, demand3}
use Rattle.model.proofs.Laws.Grounds.{cycles_explained, none_unpriced, each_worth, few_grounds, grounds_fit, named_exactly}
use Rattle.model.specs.declared.Ground.{Ground}
use Rattle.model.specs.declared.Clock.{Clock}
use Rattle.model.specs.Verdict.{Verdict, Accepted, Refused}
use Rattle.model.specs.declared.Step.{Step}
use Rattle.model.specs.declared.Step.TheVariants.{Latch}
use Rattle.model.specs.Laws.Explained.{GroundsTable, GroundsRoom, GroundsAcceptable, Untold}

-- ---- the table

pub rising : (e : Explaining) → Rising 0 (grounds_rows e)
rising e = (lit< tt, (lit< tt, (lit< tt, (lit< tt, (lit< tt, (lit< tt, (lit< tt, tt)))))))

number_is : (e : Explaining) → (explain e).run.number ≡ verdict_number (first_row (grounds_rows e))
unfolding explain grounds_verdict
number_is e = by_number e.run (grounds_verdict e)

pub grounds_table : (e : Explaining) → GroundsTable e (explain e)
grounds_table e = table_of (grounds_rows e) (rising e) (number_is e)

-- it makes none but the run's seven
pub seven_refusals : (e : Explaining) → (explain e).run.number ≤ 7
seven_refusals e =
    rw (number_is e)
    (at_most 7 (grounds_rows e) (
      omega arith,
      (omega arith, (omega arith, (omega arith, (omega arith, (omega arith, (omega arith, tt)))))),
    ))

-- ---- it is a whole run besides

-- with room for the grounds it gives and leaves what the run does, refused or not
pub whole_run : (e : Explaining) → GroundsRoom e → (explain e).run ≡ outcome e.run
unfolding explain grounds_verdict outcome verdict
whole_run e r = ap (outcome_by e.run) (same_verdict e.run grounds_length (length e.grounds) r)

-- ---- accepted exactly when the run is and there is room for the grounds

none_of_all : (e : Explaining) → Exactly (NoneHolds (grounds_rows e)) (GroundsAcceptable e)
none_of_all e = none_of_second e.run grounds_length (length e.grounds)

pub grounds_zero : (e : Explaining) → Exactly ((explain e).run.number ≡ 0) (GroundsAcceptable e)
grounds_zero e =
    let none = (grounds_table e).none in
    (λ h. (none_of_all e).0 (none.0 h), λ a. none.1 ((none_of_all e).1 a))

pub grounds_accepted : (e : Explaining) → grounds_verdict e ≡ Accepted → GroundsAcceptable e
unfolding grounds_verdict
grounds_accepted e v = (none_of_all e).0 ((undecided (grounds_rows e)).0 (ap verdict_number v))

-- ---- a refused run

untold_by : (e : Explaining) (v : Verdict) → (explain_by e v).run.number ≢ 0 → Untold e (explain_by e v)
untold_by e Accepted h = absurd (h refl)
untold_by e (Refused r) h = record { run = by_refusal e.run (Refused r) h; grounds = refl }

pub refused_untold : (e : Explaining) → (explain e).run.number ≢ 0 → Untold e (explain e)
unfolding explain
refused_untold e h = untold_by e (grounds_verdict e) h

-- the index is that of the run's table
pub grounds_index : (e : Explaining) → Index e.run.sheet (explain e).run.number (explain e).run.index
unfolding explain grounds_verdict
grounds_index e =
    record {
      refused = zero_index e.run (grounds_verdict e);
      faulty_record = λ h. fault_told e.run grounds_length (length e.grounds) [] (((grounds_table e).row 6 (lit< tt)).0 h);
      accepted = λ h.
          ap (λ (v : Verdict). (outcome_by e.run v).index) (zero_accepted (grounds_verdict e) (sym (number_is e) ∙ h));
    }

-- ---- the bytes of grounds

-- 32 for a step that has no more
pub beat_width : (gs : List Ground) → length gs ≤ grounds_length → OfWidth grounds_length beat_bytes gs
beat_width gs h =
    length-append (map ground_byte gs) (replicate (grounds_length - length gs) 0)
    ∙ omega (arith, length-map gs ground_byte, length-replicate {A = ℕ} (grounds_length - length gs) 0)

pub all_widths : (c : Clock) (xs : List Step) → All Short xs → All (OfWidth grounds_length beat_bytes) (grounds_after c xs)
unfolding grounds_after
all_widths c [] s = tt
all_widths c (x ∷ xs) s = (beat_width (grounds c x) (grounds_fit c x s.0), all_widths (clock_after c x) xs s.1)

pub grounds_length_law : (c : Clock) (xs : List Step) → length (grounds_after c xs) ≡ length xs
unfolding grounds_after
grounds_length_law c [] = refl
grounds_length_law c (x ∷ xs) = ap suc (grounds_length_law (clock_after c x) xs)

-- those of step k, by the clock that the steps before it leave
pub grounds_at_law : (c : Clock) (xs : List Step) (k : ℕ) → k < length xs
    → get_or (grounds_after c xs) k [] ≡ grounds (clock_past c (take k xs)) (get_or xs k (Latch 0))
unfolding grounds_after clock_past
grounds_at_law c [] k h = absurd (omega arith)
grounds_at_law c (x ∷ xs) zero h = refl
grounds_at_law c (x ∷ xs) (suc k) h = grounds_at_law (clock_after c x) xs k (omega arith)

-- ---- an accepted run

module _ (e : Explaining) (x : Explained) (ok : x ≡ explain e) (zero_number : x.run.number ≡ 0) where
  abbrev steps : List Step
  steps = steps_of e.run.sheet

  abbrev n : ℕ
  n = record_count e.run.sheet

  asked : GroundsAcceptable e
  asked = (grounds_zero e).0 (sym (ap (λ (y : Explained). y.run.number) ok) ∙ zero_number)

  whole : x ≡ explain_by e Accepted
  unfolding explain grounds_verdict
  whole = ok ∙ ap (explain_by e) (none_accepts (grounds_rows e) ((none_of_all e).1 asked))

  run_is : x.run ≡ outcome e.run
  run_is = ap (λ (y : Explained). y.run) ok ∙ whole_run e asked.room

  grounds_are : x.grounds ≡ grounds_bytes (run_grounds e.run) ++ drop (grounds_start n) e.grounds
  grounds_are = ap (λ (y : Explained). y.grounds) whole

  as_many : length (run_grounds e.run) ≡ n
  unfolding run_grounds
  as_many =
      grounds_length_law (clock_of e.run.board) steps
      ∙ length-map (records_of e.run.sheet) step_of ∙ records_length e.run.sheet 0 n

  widths : All (OfWidth grounds_length beat_bytes) (run_grounds e.run)
  unfolding run_grounds
  widths = all_widths (clock_of e.run.board) steps (steps_short e.run.sheet 0 n)

  bytes_many : length (grounds_bytes (run_grounds e.run)) ≡ grounds_start n
  bytes_many = blocks_length grounds_length beat_bytes (run_grounds e.run) widths ∙ ap grounds_start as_many

  -- the grounds of step k are those of its own moment
  at_step : (k : ℕ) → k < n → get_or (run_grounds e.run) k [] ≡ grounds_at e.run k
  unfolding run_grounds state_at
  at_step k h =
      grounds_at_law (clock_of e.run.board) steps k (step_there e.run k h)
      ∙ ap₂ grounds (sym (run_clock (media_of e.run) (first_state e.run) (take k steps))) (step_is e.run k h)

  pub explains : Explains e x
  unfolding answer_at
  explains =
      record {
        run = run_is;
        bytes = λ k h.
            ap (λ (b : List ℕ). take grounds_length (drop (grounds_start k) b)) grounds_are
            ∙ block_there grounds_length beat_bytes (run_grounds e.run) _ k [] widths (omega (arith, as_many))
            ∙ ap beat_bytes (at_step k h);
        cycles = λ k. cycles_explained (clock_at e.run k) (step_at e.run k);
        none = λ k. none_unpriced (clock_at e.run k) (step_at e.run k);
        named = λ k. named_exactly (clock_at e.run k) (step_at e.run k);
        each = λ k. each_worth (clock_at e.run k) (step_at e.run k);
        few = λ k. few_grounds (clock_at e.run k) (step_at e.run k);
        room = λ k. grounds_fit (clock_at e.run k) (step_at e.run k) (short_step (record_at e.run.sheet k));
        beyond = ap (drop (grounds_start n)) grounds_are ∙ drop_at (grounds_bytes (run_grounds e.run)) _ _ bytes_many;
      }

-- ---- the same for every memory: two runs' grounds

pub same_explained : (e f : Explaining) (x y : Explained) → x ≡ explain e → y ≡ explain f → x.run.number ≡ 0
    → y.run.number ≡ 0 → AlikeSheets e.run.sheet f.run.sheet → AlikeBoards e.run.board f.run.board
    → SameGrounds e f x y
same_explained e f x y p q ok ok' s b =
    record {
      times = demand3 e.run f.run x.run y.run (run_is e x p ok) (run_is f y q ok') ok ok' s b;
      same_grounds = λ j l.
          ap (λ (t : List ℕ). byte_at t j) (grounds_are e x p ok)
          ∙ get_or-append (grounds_bytes (run_grounds e.run)) _ 0 j (omega (arith, bytes_many e x p ok))
          ∙ ap (λ (gs : List (List Ground)). byte_at (grounds_bytes gs) j) (same_grounds e.run f.run s b)
          ∙ sym (get_or-append (grounds_bytes (run_grounds f.run)) _ 0 j
          (omega (arith, bytes_many f y q ok', alike_count e.run.sheet f.run.sheet s)))
          ∙ sym (ap (λ (t : List ℕ). byte_at t j) (grounds_are f y q ok'));
      one = explains e x p ok;
      other = explains f y q ok';
    }
