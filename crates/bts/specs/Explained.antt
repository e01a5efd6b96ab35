-- What the run with grounds gives back, as the definitions have it; and that an accepted run's answers tell the pass over them
-- what it asks.
use Rattle.std.specs.Prelude.{◌≡◌, refl, ◌≢◌, true, false, ◌&&◌, List, [], ◌++◌, ℕ, ◌*◌, ◌≤◌, ◌<◌, length, take, leb}
use Rattle.std.proofs.Common.{sym, ◌∙◌, arith, leb-true}
use Rattle.std.proofs.Math.Path.{ap, ap₂}
use Rattle.std.proofs.Math.ListN.{drop}
use Rattle.std.proofs.lemmas.Bool.{not-false}
use Rattle.model.specs.Step.{Media, State, changed, answer}
use Rattle.model.specs.Sheet.{record_at, record_count, step_of, steps_of, last_kind, size_fits, kind_fault}
use Rattle.model.specs.Sheet.{field_fault, faulty}
use Rattle.model.specs.BoardBytes.{clock_of}
use Rattle.model.specs.Outcome.{LentBytes, media_of, first_state, verdict, refusal_number, refusal_index}
use Rattle.model.specs.Outcome.{outcome_by}
use Rattle.model.specs.Alike.{state_at, answer_at, ReadBack}
use Rattle.model.specs.Grounds.{grounds_length, grounds_bytes, grounds_after, Explaining, Explained, grounds_verdict, run_grounds}
use Rattle.model.specs.Grounds.{explain_by, explain}
use Rattle.model.proofs.Laws.Choice.{parts, or_false_left}
use Rattle.model.proofs.Laws.Kinds.{by_kind}
use Rattle.model.proofs.Laws.Refusal.{number_zero, zero_exactly}
use Rattle.model.proofs.Laws.Landed.{other_hits}
use Rattle.model.specs.Laws.Times.{clock_past}
use Rattle.model.proofs.Laws.Times.{run_clock}
use Rattle.model.proofs.Laws.Limits.{steps_take}
use Rattle.model.proofs.Laws.Demand3.{accounts}
use Rattle.model.specs.Laws.Explained.{GroundsAcceptable}
use Rattle.model.proofs.Laws.Explained.{grounds_accepted}
use Rattle.examine.specs.Verdicts.{Ready, accepted_ready}
use Rattle.grounds.specs.Turns.{Shows, OfOneRun, steps_to}
use Rattle.model.specs.declared.Clock.{Clock}
use Rattle.model.specs.declared.SheetRecord.{SheetRecord}
use Rattle.model.specs.declared.Step.{Step}
use Rattle.model.specs.declared.Refusal.{Refusal}
use Rattle.model.specs.Verdict.{Accepted, Refused}
use Rattle.bts.specs.declared.Report.{Report}
use Rattle.bts.specs.Reported.{reported, outcome_is, no_refusal, all_records, answers_long, refused_by}

-- a report, with what stands in the lent buffers then
abbrev pub reported_grounds : Report → List ℕ → List ℕ → List ℕ → List ℕ → Explained
reported_grounds r board store answers grounds = record { run = reported r board store answers; grounds = grounds }

-- a report of a refusal, with the buffers as they were lent, is the refused one
pub refused_explained : (e : Explaining) (q : Refusal) (r : Report) → grounds_verdict e ≡ Refused q
    → r.number ≡ refusal_number q → r.index ≡ refusal_index q → r.total ≡ 0
    → reported_grounds r e.run.board e.run.store e.run.answers e.grounds ≡ explain e
unfolding explain
refused_explained e q r v n k z = same ∙ sym (ap (explain_by e) v)
  where
    same : reported_grounds r e.run.board e.run.store e.run.answers e.grounds ≡ explain_by e (Refused q)
    same x = record { run = refused_by e.run q r n k z x; grounds = e.grounds }

-- ---- what the answers of a run tell

-- a record without fault has a kind
some_kind : (r : SheetRecord) → faulty r ≡ false → 1 ≤ r.kind
unfolding kind_fault
some_kind r f =
    let k : leb 1 r.kind && leb r.kind (last_kind r.version) && size_fits r.kind r.size ≡ true =
    not-false _ (or_false_left (kind_fault r) (field_fault r) f) in
    leb-true 1 r.kind (search parts)

-- no step but WRITE and BLOCK WRITE stores
stores_nothing : (m : Media) (s : State) (r : SheetRecord) → r.kind ≢ 2 → r.kind ≢ 11 → (changed m s (step_of r)).puts ≡ []
stores_nothing m s r =
    by_kind (λ (k : ℕ) (x : Step). k ≢ 2 → k ≢ 11 → (changed m s x).puts ≡ []) r (λ h g. refl) (λ h g. absurd (h refl))
    (λ h g. refl) (λ h g. refl) (λ h g. refl) (λ h g. refl) (λ h g. refl) (λ h g. refl) (λ h g. refl) (λ h g. absurd (g refl))
    (λ o h g. refl)

-- an answer, in the bytes, shows what its step does to the clock
shows_answer : (m : Media) (s : State) (r : SheetRecord) (b : List ℕ) (k : ℕ) → ReadBack b k (answer m s (step_of r))
    → Shows b k s.board.clock r
shows_answer m s r b k x =
    record {
      hits = λ h g. x.hits ∙ other_hits m s (step_of r) (stores_nothing m s r h g);
      count = x.count;
      force = x.force;
    }

-- ---- an accepted run

module _ (e : Explaining) (yes : grounds_verdict e ≡ Accepted) where
  asked : GroundsAcceptable e
  asked = grounds_accepted e yes

  -- the run accepts too
  pub explained_accepts : verdict e.run ≡ Accepted
  explained_accepts = number_zero e.run ((zero_exactly e.run).1 asked.run)

  pub here : Ready e.run
  here = accepted_ready e.run explained_accepts

  -- the clock before step k
  clock_at_law : (k : ℕ) → k < record_count e.run.sheet
      → (state_at e.run k).board.clock ≡ clock_past (clock_of e.run.board) (steps_to e.run.sheet k)
  unfolding state_at
  clock_at_law k h =
      run_clock (media_of e.run) (first_state e.run) (take k (steps_of e.run.sheet))
      ∙ ap (clock_past (clock_of e.run.board)) (steps_take e.run.sheet 0 k (record_count e.run.sheet) (omega arith))

  module _ {r : Report} {board store answers : List ℕ} (ran_is : reported r board store answers ≡ outcome_by e.run Accepted)
      (lent : LentBytes e.run) where
    abbrev records_here : r.index ≡ record_count e.run.sheet
    records_here = all_records e.run explained_accepts ran_is

    shown : (k : ℕ) → k < record_count e.run.sheet
        → Shows answers k (clock_past (clock_of e.run.board) (steps_to e.run.sheet k)) (record_at e.run.sheet k)
    unfolding answer_at
    shown k h =
        let o = accounts e.run (reported r board store answers) (outcome_is e.run explained_accepts ran_is)
        (no_refusal e.run explained_accepts ran_is) in
        rw (← clock_at_law k h)
        (shows_answer (media_of e.run) (state_at e.run k) (record_at e.run.sheet k) answers k (o.fields lent k h))

    -- there is room for the grounds of all
    pub groundable : grounds_length * r.index ≤ length e.grounds
    groundable = omega (arith, records_here, asked.room.fits)

    pub of_one_run : {c : Clock} → c ≡ clock_of e.run.board → OfOneRun c r.index e.run.sheet answers
    of_one_run {c} q =
        rw q
        (record {
          within = omega (arith, records_here);
          answered = omega (arith, records_here, answers_long e.run ran_is);
          sound = here.clock lent.board;
          kinds = λ k h. some_kind (record_at e.run.sheet k) (here.records k (omega (arith, records_here)));
          shown = λ k h. shown k (omega (arith, records_here));
        })

    -- with the grounds told it is the accepted one
    pub explained_from : {c : Clock} {told : List ℕ} → c ≡ clock_of e.run.board
        → told
        ≡ grounds_bytes (grounds_after c (steps_to e.run.sheet r.index)) ++ drop (grounds_length * r.index) e.grounds
        → reported_grounds r board store answers told ≡ explain_by e Accepted
    unfolding run_grounds
    explained_from {c} {told} q w x =
        record {
          run = ran_is x;
          grounds =
              (w
              ∙ ap₂ (λ (d : Clock) (n : ℕ).
              grounds_bytes (grounds_after d (steps_to e.run.sheet n)) ++ drop (grounds_length * n) e.grounds) q
              records_here) x;
        }
