-- What the exported runs give back, as the definitions have it; and what an accepted run's parts make of it.
use Rattle.std.specs.Prelude.{◌≡◌, refl, List, ◌++◌, ℕ, ◌*◌, ◌≤◌, length, take, drop, replicate}
use Rattle.std.proofs.Math.Path.{sym}
use Rattle.std.proofs.Common.{ap, ap₂, ◌∙◌, append-nil, arith, length-append, take_all}
use Rattle.model.specs.Base.{sum}
use Rattle.model.specs.Step.{Media, State, cycles_of}
use Rattle.model.specs.Sheet.{record_count, records_from}
use Rattle.model.specs.BoardBytes.{board_length, answer_length, clock_of, halves_from, contents_of, board_bytes, answers_bytes}
use Rattle.model.specs.Outcome.{Lent, LentBytes, Outcome, media_of, first_state, ran, verdict, refusal_number, refusal_index}
use Rattle.model.specs.Outcome.{outcome_by, outcome}
use Rattle.model.specs.Alike.{cycles_from}
use Rattle.model.specs.Tariff.{max_rate, share_length, charge, shares_in, Tariffed, Billed, tariff_verdict, bill_by, bill}
use Rattle.model.specs.Preview.{Asked, Previewed, preview_verdict, preview_by, preview, no_memories, lent_with, each_answer}
use Rattle.model.proofs.Laws.Refusal.{number_zero, zero_exactly}
use Rattle.model.proofs.Laws.Fits.{answers_count, total_fits}
use Rattle.model.proofs.Laws.Demand3.{cycles_there}
use Rattle.model.specs.Laws.Billed.{TariffAcceptable}
use Rattle.model.proofs.Laws.Billed.{tariff_accepted}
use Rattle.model.proofs.Laws.Previewed.{bare_verdict, preview_total}
use Rattle.step.specs.Begun.{state_from}
use Rattle.examine.specs.Lent.{lending}
use Rattle.examine.specs.Verdicts.{Ready, accepted_ready}
use Rattle.tariff.specs.Shares.{Payable, Summed}
use Rattle.preview.specs.Values.{clock_valued, Answered, preview_from}
use Rattle.bts.specs.Beginning.{Beginning, Ends, answers_size}
use Rattle.model.specs.declared.Answer.{Answer}
use Rattle.model.specs.declared.Clock.{Clock}
use Rattle.model.specs.declared.Contents.{Contents}
use Rattle.model.specs.declared.Refusal.{Refusal}
use Rattle.model.specs.Verdict.{Accepted, Refused}
use Rattle.bts.specs.declared.Report.{Report}
use Rattle.bts.specs.declared.Bill.{Bill}
use Rattle.bts.specs.declared.run.Done.{Done}

-- a report, with what stands in the lent buffers then
abbrev pub reported : Report → List ℕ → List ℕ → List ℕ → Outcome
reported r board store answers =
    record { number = r.number; index = r.index; total = r.total; board = board; store = store; answers = answers }

-- all that a run is lent, of which the media travel together
abbrev pub lent_by : List ℕ → List ℕ → List ℕ → Media → List ℕ → Lent
lent_by sheet board store m answers = lending sheet board store m.bios m.rom answers m.lengths

-- the beginning that is the whole sheet, with its board written, is the accepted outcome
accepted : (i : Lent) (s : State) (r : Report) (board answers : List ℕ)
    → Beginning (media_of i) (first_state i) i.sheet i.answers (record_count i.sheet) s answers r.total
    → board ≡ board_bytes s.board → r.number ≡ 0 → r.index ≡ record_count i.sheet
    → reported r board s.store answers ≡ outcome_by i Accepted
unfolding ran
accepted i s r board answers b e n k x =
    record {
      number = n x;
      index = k x;
      total = b.summed x;
      board = (e ∙ ap (λ (t : State). board_bytes t.board) b.state) x;
      store = ap (λ (t : State). t.store) b.state x;
      answers = b.written x;
    }

-- the same, from the board's parts as they were read
module _ (i : Lent) (n : ℕ) (c : Clock) (h : List ℕ) (d : Contents) (en : n ≡ record_count i.sheet)
    (ec : c ≡ clock_of i.board) (eh : h ≡ halves_from i.board 20 8) (ed : d ≡ contents_of i.board) where
  pub accepted_from : (r : Report) (done : Done) (halves store board answers : List ℕ)
      → Ends (media_of i) (state_from c h d i.store) i.sheet n i.answers done halves store answers
      → board ≡ board_bytes (record { clock = done.machine.clock; halves = halves; contents = done.machine.contents })
      → r ≡ record { number = 0; index = n; total = done.total }
      → reported r board store answers ≡ outcome_by i Accepted
  accepted_from r done halves store board answers e eb er =
      ap (λ (x : Report). reported x board store answers) er
      ∙ accepted i (state_from done.machine.clock halves done.machine.contents store)
      (record { number = 0; index = n; total = done.total }) board answers
      (rw (e.all, en, ec, eh, ed) at e.beginning) eb refl en

-- its answers stand
pub answers_long : (i : Lent) {r : Report} {board store answers : List ℕ} → reported r board store answers ≡ outcome_by i Accepted
    → answer_length * record_count i.sheet ≤ length answers
answers_long i ran_is =
    let xs : List Answer = (ran i).answers in
    omega (
      arith,
      ap (λ (o : Outcome). length o.answers) ran_is,
      length-append (answers_bytes xs) (drop (answer_length * record_count i.sheet) i.answers),
      answers_size xs,
      answers_count i,
    )

-- a report of a refusal, with the buffers as they were lent, is the refused outcome
pub refused_by : (i : Lent) (q : Refusal) (r : Report) → r.number ≡ refusal_number q → r.index ≡ refusal_index q → r.total ≡ 0
    → reported r i.board i.store i.answers ≡ outcome_by i (Refused q)
refused_by i q r n k t x =
    record { number = n x; index = k x; total = t x; board = i.board; store = i.store; answers = i.answers }

pub refused_from : (i : Lent) (q : Refusal) (r : Report) → verdict i ≡ Refused q
    → r.number ≡ refusal_number q → r.index ≡ refusal_index q → r.total ≡ 0
    → reported r i.board i.store i.answers ≡ outcome i
unfolding outcome
refused_from i q r e n k t = refused_by i q r n k t ∙ sym (ap (outcome_by i) e)

-- ---- under a tariff

-- what a bill has of a report
abbrev report_of : Bill → Report
report_of r = record { number = r.number; index = r.index; total = r.total }

-- a bill, with what stands in the lent buffers then
abbrev pub reported_bill : Bill → List ℕ → List ℕ → List ℕ → List ℕ → Billed
reported_bill r board store answers shares =
    record { run = reported (report_of r) board store answers; charge = r.charge; shares = shares }

-- a refusal's bill, with the buffers as they were lent, is the refused one
pub refused_bill : (t : Tariffed) (q : Refusal) (r : Bill) → tariff_verdict t ≡ Refused q
    → r.number ≡ refusal_number q → r.index ≡ refusal_index q → r.total ≡ 0 → r.charge ≡ 0
    → reported_bill r t.run.board t.run.store t.run.answers t.shares ≡ bill t
unfolding bill
refused_bill t q r e n k z c = same ∙ sym (ap (bill_by t) e)
  where
    same : reported_bill r t.run.board t.run.store t.run.answers t.shares ≡ bill_by t (Refused q)
    same x = record { run = refused_by t.run q (report_of r) n k z x; charge = c x; shares = t.shares }

-- an accepted run, of which `r` was reported
module _ (i : Lent) (yes : verdict i ≡ Accepted) {r : Report} {board store answers : List ℕ}
    (ran_is : reported r board store answers ≡ outcome_by i Accepted) where
  -- it is the run's outcome
  pub outcome_is : reported r board store answers ≡ outcome i
  unfolding outcome
  outcome_is = ran_is ∙ sym (ap (outcome_by i) yes)

  pub no_refusal : r.number ≡ 0
  no_refusal = ap (λ (o : Outcome). o.number) ran_is

  pub all_records : r.index ≡ record_count i.sheet
  all_records = ap (λ (o : Outcome). o.index) ran_is

module _ (t : Tariffed) (yes : tariff_verdict t ≡ Accepted) where
  asked : TariffAcceptable t
  asked = tariff_accepted t yes

  -- the run accepts too
  pub run_accepts : verdict t.run ≡ Accepted
  run_accepts = number_zero t.run ((zero_exactly t.run).1 asked.all.run)

  module _ {r : Report} {board store answers : List ℕ}
      (ran_is : reported r board store answers ≡ outcome_by t.run Accepted) where
    abbrev outcome_here : reported r board store answers ≡ outcome t.run
    outcome_here = outcome_is t.run run_accepts ran_is

    abbrev records_here : r.index ≡ record_count t.run.sheet
    records_here = all_records t.run run_accepts ran_is

    module _ (lent : LentBytes t.run) where
      -- the cycles that stand in its answers are the run's
      cycles_are : cycles_from answers 0 r.index ≡ cycles_of (ran t.run)
      cycles_are =
          ap (cycles_from answers 0) records_here
          ∙ cycles_there t.run (reported r board store answers) outcome_here (no_refusal t.run run_accepts ran_is) lent

      pub payable : Payable t.rate r.total
      payable =
          record {
            most = asked.rate.most;
            few =
                rw (← outcome_here)
                at (total_fits t.run lent
                (sym (ap (λ (o : Outcome). o.number) outcome_here) ∙ no_refusal t.run run_accepts ran_is));
          }

      -- the answers come to the total
      pub summed : Summed r.index r.total answers
      summed =
          record {
            few = omega (arith, records_here, (accepted_ready t.run run_accepts).shaped.few);
            answered = omega (arith, records_here, answers_long t.run ran_is);
            summed = ap (λ (o : Outcome). o.total) ran_is ∙ sym (ap sum cycles_are);
            most = payable.few;
          }

      -- there is room for their shares, at a rate that is not too high
      pub shareable : (t.rate ≤ max_rate) × (share_length * r.index ≤ length t.shares)
      shareable = (payable.most, omega (arith, records_here, asked.all.room.fits))

      -- with the shares and the charge it is the accepted bill
      pub billed_from : {cents : ℕ} {written : List ℕ} → cents ≡ charge t.rate r.total
          → written ≡ shares_in t.shares t.rate (cycles_from answers 0 r.index) r.index
          → reported_bill (record { number = r.number; index = r.index; total = r.total; charge = cents }) board store answers
          written ≡ bill_by t Accepted
      billed_from e w x =
          record {
            run = ran_is x;
            charge = (e ∙ ap (λ (o : Outcome). charge t.rate o.total) ran_is) x;
            shares = (w ∙ ap₂ (shares_in t.shares t.rate) cycles_are records_here) x;
          }

-- ---- a preview

-- a report, with what stands in the buffers then
abbrev pub reported_preview : Report → List ℕ → List ℕ → List ℕ → Previewed
reported_preview r sheet board answers =
    record { number = r.number; index = r.index; total = r.total; sheet = sheet; board = board; answers = answers }

-- a report of a refusal, with the buffers as they were lent, is the refused preview
pub refused_preview : (q : Asked) (r : Refusal) (t : Report) → preview_verdict q ≡ Refused r
    → t.number ≡ refusal_number r → t.index ≡ refusal_index r → t.total ≡ 0
    → reported_preview t q.sheet q.board q.answers ≡ preview q
unfolding preview
refused_preview q r t e n k z = same ∙ sym (ap (preview_by q) e)
  where
    same : reported_preview t q.sheet q.board q.answers ≡ preview_by q (Refused r)
    same x =
        record { number = n x; index = k x; total = z x; sheet = q.sheet; board = q.board; answers = q.answers }

-- a board is copied over as many zeros
pub copied : (b : List ℕ) (n : ℕ) → n ≡ length b → length b ≡ board_length → take n b ++ drop n (replicate board_length 0) ≡ b
copied b n e h =
    ap (λ (k : ℕ). take k b ++ drop k (replicate board_length 0)) (e ∙ h)
    ∙ append-nil (take board_length b) ∙ take_all board_length b (omega (arith, h))

-- an accepted sheet
module _ (q : Asked) (yes : preview_verdict q ≡ Accepted) where
  abbrev bare : Lent
  bare = lent_with q no_memories

  -- the run over no memories accepts it too
  pub bare_accepts : verdict bare ≡ Accepted
  bare_accepts = bare_verdict q ∙ yes

  pub bare_ready : Ready bare
  bare_ready = accepted_ready bare bare_accepts

  module _ {r : Report} {board store answers : List ℕ} (ran_is : reported r board store answers ≡ outcome_by bare Accepted) where
    all_answered : r.index ≡ record_count q.sheet
    all_answered = ap (λ (o : Outcome). o.index) ran_is

    -- its answers stand
    pub answers_stand : Answered r.index q.sheet answers
    answers_stand =
        record {
          within = omega (arith, all_answered);
          room = omega (arith, all_answered, answers_long bare ran_is);
        }

    -- with their values told it is the accepted preview
    pub previewed_from : {told : List ℕ} → told ≡ each_answer clock_valued (records_from q.sheet 0 r.index) answers
        → reported_preview r q.sheet q.board told ≡ preview_by q Accepted
    previewed_from w x =
        record {
          number = ap (λ (o : Outcome). o.number) ran_is x;
          index = all_answered x;
          total = (ap (λ (o : Outcome). o.total) ran_is ∙ preview_total q no_memories) x;
          sheet = q.sheet;
          board = q.board;
          answers =
              (w
              ∙ ap₂ (λ (n : ℕ) (l : List ℕ). each_answer clock_valued (records_from q.sheet 0 n) l) all_answered
              (ap (λ (o : Outcome). o.answers) ran_is)
              ∙ preview_from q (drop (answer_length * record_count q.sheet) q.answers)) x;
        }
