-- A version 1 sheet means what it did before version 2 to the three other operations too: what is charged and shared, what a
-- preview tells, and each beat's ground.
use Rattle.std.specs.Prelude.{◌≡◌, true, List, [], ◌∷◌, ◌++◌, map, ℕ, ◌*◌, length, drop}
use Rattle.std.proofs.Math.Path.{refl, ap}
use Rattle.std.proofs.Common.{ap₂, ◌∙◌}
use Rattle.model.specs.Base.{sum}
use Rattle.model.specs.Step.{Timed, idled, clock_after, cycles_in, cycles_of, Result, total}
use Rattle.model.specs.Sheet.{is_marked, version_of, record_count}
use Rattle.model.specs.BoardBytes.{answer_length, clock_of, answers_bytes}
use Rattle.model.specs.Outcome.{Lent, Outcome, Row, first_row, lengths_rows, board_rows, answers_rows, room_rows}
use Rattle.model.specs.Tariff.{charge, share_length, shares_in, Tariffed, rate_rows, tariff_verdict, bill_by, bill}
use Rattle.model.specs.Preview.{clock_value, foretold, previewed, Asked, giving, no_memories, lent_with}
use Rattle.model.specs.Preview.{preview_verdict, preview_answers, preview_by, preview}
use Rattle.model.specs.Grounds.{grounds, grounds_after, grounds_length, grounds_bytes, Explaining}
use Rattle.model.specs.Grounds.{grounds_verdict, run_grounds, explain_by, explain}
use Rattle.model.specs.VersionOne.{Step₁, Read₁, Write₁, Waitcnt₁, Idle₁, Fetch₁, Restart₁, Instruction₁, Pc₁, Latch₁}
use Rattle.model.specs.VersionOne.{steps_of₁, clock_after₁}
use Rattle.model.specs.VersionOneCalls.{second_rows₁, tariff_verdict₁, bill_by₁, bill₁}
use Rattle.model.specs.VersionOneCalls.{clock_value₁, foretold₁, previewed₁, preview_verdict₁, preview_answers₁, preview_by₁, preview₁}
use Rattle.model.specs.VersionOneCalls.{grounds₁, grounds_after₁, grounds_verdict₁, run_grounds₁, explain_by₁, explain₁}
use Rattle.model.specs.Outcome.{second_rows}
use Rattle.model.specs.Laws.Refusal.{NoFault}
use Rattle.model.proofs.Laws.Refusal.{accepted_acceptable}
use Rattle.model.proofs.Laws.Billed.{tariff_accepted}
use Rattle.model.proofs.Laws.Previewed.{bare_verdict}
use Rattle.model.proofs.Laws.Explained.{grounds_accepted}
use Rattle.model.proofs.Laws.VersionOne.{same_priced, same_timed, same_sheet_rows, same_records_rows, same_steps, same_ran, same_outcome}
use Rattle.model.specs.declared.Answer.{Answer}
use Rattle.model.specs.declared.Clock.{Clock}
use Rattle.model.specs.declared.Ground.{Ground}
use Rattle.model.specs.declared.InsnCycles.{InsnCycles}
use Rattle.model.specs.Verdict.{Verdict, Accepted, Refused}
use Rattle.model.specs.Laws.VersionOne.{as_step}

-- ---- a table with a second buffer

same_second_rows : (i : Lent) → version_of i.sheet ≡ 1 → (each second : ℕ)
    → second_rows i each second ≡ second_rows₁ i each second
same_second_rows i one each second =
    ap₂ (λ (xs ys : List Row).
    (xs ++ (lengths_rows i.lengths (length i.store) (length i.bios) (length i.rom) ++ board_rows i.board))
    ++ (room_rows (record_count i.sheet) (length i.answers) each second ++ ys))
    (same_sheet_rows i.sheet one) (same_records_rows i.sheet one)

-- ---- a run under a tariff

module _ (t : Tariffed) (one : version_of t.run.sheet ≡ 1) where
  same_tariff_verdict : tariff_verdict t ≡ tariff_verdict₁ t
  unfolding tariff_verdict tariff_verdict₁
  same_tariff_verdict =
      ap (λ (rs : List Row). first_row (rs ++ rate_rows t.rate)) (same_second_rows t.run one share_length (length t.shares))

  bill_as_before : (v : Verdict) → (v ≡ Accepted → NoFault t.run.sheet) → bill_by t v ≡ bill_by₁ t v
  bill_as_before (Refused r) f = refl
  bill_as_before Accepted f =
      ap₂ (λ (o : Outcome) (d : Result).
      record {
        run = o;
        charge = charge t.rate (total d);
        shares = shares_in t.shares t.rate (cycles_of d) (record_count t.run.sheet);
      })
      (same_outcome t.run one Accepted f) (same_ran t.run one (f refl))

  -- cycles, charge and shares, refused or not
  pub bill_version_one : bill t ≡ bill₁ t
  unfolding bill bill₁
  bill_version_one =
      bill_as_before (tariff_verdict t) (λ e. (tariff_accepted t e).all.run.records) ∙ ap (bill_by₁ t) same_tariff_verdict

-- ---- a preview

same_value : (c : Clock) (x : Step₁) → clock_value c (as_step x) ≡ clock_value₁ c x
same_value c (Read₁ z a) = refl
same_value c (Write₁ z a v) = refl
same_value c (Waitcnt₁ v) = refl
same_value c (Idle₁ n) = refl
same_value c (Fetch₁ a) = refl
same_value c (Restart₁ a) = refl
same_value c (Instruction₁ isa a op jump) = ap (λ (y : InsnCycles). y.cart_idle) (same_priced c isa a op jump)
same_value c (Pc₁ a) = refl
same_value c (Latch₁ v) = refl

same_clock : (c : Clock) (x : Step₁) → clock_after c (as_step x) ≡ clock_after₁ c x
same_clock c x = ap idled (same_timed c x)

same_foretold : (c : Clock) (x : Step₁) → foretold c (as_step x) ≡ foretold₁ c x
same_foretold c x =
    ap₂ (λ (v : ℕ) (t : Timed).
    record {
      value = v;
      cycles = t.cycles;
      hits = t.hits;
      count = (idled t).prefetch.count;
      force = (idled t).force_next_fetch_n;
    })
    (same_value c x) (same_timed c x)

same_previewed : (c : Clock) (xs : List Step₁) → previewed c (map as_step xs) ≡ previewed₁ c xs
unfolding previewed previewed₁
same_previewed c [] = refl
same_previewed c (x ∷ xs) =
    ap₂ (λ (y : Answer) (d : Clock). y ∷ previewed d (map as_step xs)) (same_foretold c x) (same_clock c x)
    ∙ ap (λ (ys : List Answer). foretold₁ c x ∷ ys) (same_previewed (clock_after₁ c x) xs)

module _ (q : Asked) (one : version_of q.sheet ≡ 1) where
  same_preview_verdict : preview_verdict q ≡ preview_verdict₁ q
  unfolding preview_verdict preview_verdict₁
  same_preview_verdict =
      ap₂ (λ (xs ys : List Row).
      first_row (xs ++ (board_rows q.board ++ (answers_rows (record_count q.sheet) (length q.answers) ++ ys))))
      (same_sheet_rows q.sheet one) (same_records_rows q.sheet one)

  same_answers : NoFault q.sheet → preview_answers q ≡ preview_answers₁ q
  unfolding preview_answers preview_answers₁
  same_answers f =
      ap (previewed (clock_of q.board)) (same_steps q.sheet one f) ∙ same_previewed (clock_of q.board) (steps_of₁ q.sheet)

  preview_as_before : (v : Verdict) → (v ≡ Accepted → NoFault q.sheet) → preview_by q v ≡ preview_by₁ q v
  preview_as_before (Refused r) f = refl
  preview_as_before Accepted f =
      ap (λ (ys : List Answer).
      giving q 0 (record_count q.sheet) (sum (cycles_in ys))
      (answers_bytes ys ++ drop (answer_length * record_count q.sheet) q.answers))
      (same_answers (f refl))

  -- number, index, total and answers, refused or not
  pub preview_version_one : preview q ≡ preview₁ q
  unfolding preview preview₁
  preview_version_one =
      preview_as_before (preview_verdict q) (λ e. (accepted_acceptable (lent_with q no_memories) (bare_verdict q ∙ e)).records)
      ∙ ap (preview_by₁ q) same_preview_verdict

-- ---- a run with grounds

grounds_as_before : (c : Clock) (x : Step₁) → grounds c (as_step x) ≡ grounds₁ c x
grounds_as_before c (Read₁ z a) = refl
grounds_as_before c (Write₁ z a v) = refl
grounds_as_before c (Waitcnt₁ v) = refl
grounds_as_before c (Idle₁ n) = refl
grounds_as_before c (Fetch₁ a) = refl
grounds_as_before c (Restart₁ a) = refl
grounds_as_before c (Instruction₁ isa a op jump) = refl
grounds_as_before c (Pc₁ a) = refl
grounds_as_before c (Latch₁ v) = refl

same_grounds_after : (c : Clock) (xs : List Step₁) → grounds_after c (map as_step xs) ≡ grounds_after₁ c xs
unfolding grounds_after grounds_after₁
same_grounds_after c [] = refl
same_grounds_after c (x ∷ xs) =
    ap₂ (λ (gs : List Ground) (d : Clock). gs ∷ grounds_after d (map as_step xs)) (grounds_as_before c x) (same_clock c x)
    ∙ ap (λ (rest : List (List Ground)). grounds₁ c x ∷ rest) (same_grounds_after (clock_after₁ c x) xs)

module _ (e : Explaining) (one : version_of e.run.sheet ≡ 1) where
  same_grounds_verdict : grounds_verdict e ≡ grounds_verdict₁ e
  unfolding grounds_verdict grounds_verdict₁
  same_grounds_verdict = ap first_row (same_second_rows e.run one grounds_length (length e.grounds))

  same_run_grounds : NoFault e.run.sheet → run_grounds e.run ≡ run_grounds₁ e.run
  unfolding run_grounds run_grounds₁
  same_run_grounds f =
      ap (grounds_after (clock_of e.run.board)) (same_steps e.run.sheet one f)
      ∙ same_grounds_after (clock_of e.run.board) (steps_of₁ e.run.sheet)

  explain_as_before : (v : Verdict) → (v ≡ Accepted → NoFault e.run.sheet) → explain_by e v ≡ explain_by₁ e v
  explain_as_before (Refused r) f = refl
  explain_as_before Accepted f =
      ap₂ (λ (o : Outcome) (gs : List (List Ground)).
      record {
        run = o;
        grounds = grounds_bytes gs ++ drop (grounds_length * record_count e.run.sheet) e.grounds;
      })
      (same_outcome e.run one Accepted f) (same_run_grounds (f refl))

  -- the whole run and each step's grounds, refused or not
  pub explain_version_one : explain e ≡ explain₁ e
  unfolding explain explain₁
  explain_version_one =
      explain_as_before (grounds_verdict e) (λ v. (grounds_accepted e v).run.records) ∙ ap (explain_by₁ e) same_grounds_verdict

-- ---- a reader that knows version 1 only

pub bill_two_refused : (t : Tariffed) → is_marked t.run.sheet ≡ true → version_of t.run.sheet ≡ 2 → (bill₁ t).run.number ≡ 2
unfolding bill₁ tariff_verdict₁
bill_two_refused t m two = rw (m, two)

pub preview_two_refused : (q : Asked) → is_marked q.sheet ≡ true → version_of q.sheet ≡ 2 → (preview₁ q).number ≡ 2
unfolding preview₁ preview_verdict₁
preview_two_refused q m two = rw (m, two)

pub explain_two_refused : (e : Explaining) → is_marked e.run.sheet ≡ true → version_of e.run.sheet ≡ 2
    → (explain₁ e).run.number ≡ 2
unfolding explain₁ grounds_verdict₁
explain_two_refused e m two = rw (m, two)
