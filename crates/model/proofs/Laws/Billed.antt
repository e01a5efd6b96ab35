-- A run under a tariff, of bytes as lent: when it is refused, and with what; what a refusal leaves; and what an accepted run's
-- charge and shares are.
use Rattle.std.specs.Prelude.{◌≡◌, refl, true, false, ◌||◌, ◌≢◌, List, [], ◌∷◌, ℕ, zero, suc, ◌+◌, ◌-◌, ◌*◌, ◌^◌, ◌≤◌, ◌<◌, length, get_or, take, drop, eqb, ltb}
use Rattle.std.proofs.Common.{sym, ap₂, ◌∙◌, arith, drop_at, lit<, ltb-false, le-ltb, ne_eqb}
use Rattle.std.proofs.Math.Path.{ap}
use Rattle.std.proofs.lemmas.List.{length-map}
use Rattle.std.proofs.Math.ListN.{get_or-append}
use Rattle.model.specs.Base.{sum, byte_at, number, numbers_from, numbers_bytes, Exactly}
use Rattle.model.specs.Step.{cycles_of}
use Rattle.model.specs.Sheet.{record_count}
use Rattle.model.specs.Outcome.{LentBytes, Outcome, row, first_row, second_rows}
use Rattle.model.specs.Outcome.{ran, verdict, verdict_number, outcome_by, outcome}
use Rattle.model.specs.Alike.{AlikeSheets, AlikeBoards, answer_start, cycles_from}
use Rattle.model.specs.Tariff.{max_rate, cost, charge, charge_down, shares, share_length, shares_in, Tariffed, Billed}
use Rattle.model.specs.Tariff.{rate_rows, tariff_rows, tariff_verdict, bill_by, bill}
use Rattle.model.specs.Tariff.{share_at, cycles_at, cycles_to, Bills, SameBill}
use Rattle.model.proofs.Laws.Choice.{by_test, never, eqb_ne, or_false_left, or_false_right}
use Rattle.model.specs.Laws.Rows.{NoneHolds, Rising, or_else_of}
use Rattle.model.proofs.Laws.Rows.{table_of, row_passes, first_append}
use Rattle.model.proofs.Laws.Rows.{none_accepts, none_of_both, next_decides, undecided}
use Rattle.model.proofs.Laws.Rows.{at_most, zero_accepted}
use Rattle.model.specs.Laws.Refusal.{Index}
use Rattle.model.proofs.Laws.Refusal.{by_number, zero_index, by_refusal}
use Rattle.model.proofs.Laws.Second.{same_verdict, none_of_second, fault_told}
use Rattle.model.proofs.Laws.Fits.{answers_count, total_fits}
use Rattle.model.proofs.Laws.Codec.{numbers_length, numbers_back, numbers_at}
use Rattle.model.proofs.Laws.Demand3.{cycles_there, alike_count, same_cycles, demand3}
use Rattle.model.proofs.Laws.Charge.{rounded_up, cost_fits, adds_at_most, adds_at_least}
use Rattle.model.proofs.Laws.Charge.{shares_length, shares_add_up, share_is, cycles_further}
use Rattle.model.specs.declared.Refusal.TheVariants.{BadRate}
use Rattle.model.specs.Verdict.{Verdict, Accepted, Refused}
use Rattle.model.specs.Laws.Billed.{TariffTable, Fair, SharesRoom, AllButRate, TariffAcceptable, RateAlone, Unbilled}

-- ---- the table

pub rising : (t : Tariffed) → Rising 0 (tariff_rows t)
rising t = (lit< tt, (lit< tt, (lit< tt, (lit< tt, (lit< tt, (lit< tt, (lit< tt, (lit< tt, tt))))))))

number_is : (t : Tariffed) → (bill t).run.number ≡ verdict_number (first_row (tariff_rows t))
unfolding bill tariff_verdict
number_is t = by_number t.run (tariff_verdict t)

pub tariff_table : (t : Tariffed) → TariffTable t (bill t)
tariff_table t = table_of (tariff_rows t) (rising t) (number_is t)

-- a run under a tariff makes none but these eight
pub eight_refusals : (t : Tariffed) → (bill t).run.number ≤ 8
eight_refusals t =
    rw (number_is t)
    (at_most 8 (tariff_rows t) (
      omega arith,
      (omega arith, (omega arith, (omega arith, (omega arith, (omega arith, (omega arith, (omega arith, tt))))))),
    ))

-- ---- what is asked besides the run's conditions

-- the row of the rate
fair_passes : (rate : ℕ) → Fair rate → eqb rate 0 || ltb max_rate rate ≡ false
fair_passes rate f = simp (ne_eqb rate 0 (λ e. omega (arith, f.some, e)), le-ltb max_rate rate f.most)

passes_fair : (rate : ℕ) → eqb rate 0 || ltb max_rate rate ≡ false → Fair rate
passes_fair rate h =
    let some = eqb_ne rate 0 (or_false_left (eqb rate 0) (ltb max_rate rate) h) in
    record { some = omega (arith, some); most = ltb-false max_rate rate (or_false_right (eqb rate 0) (ltb max_rate rate) h) }

-- ---- it is a whole run besides

-- with room for the shares and a fair rate it gives and leaves what the run does, refused or not
pub whole_run : (t : Tariffed) → SharesRoom t → Fair t.rate → (bill t).run ≡ outcome t.run
unfolding bill tariff_verdict outcome verdict
whole_run t r f =
    ap (outcome_by t.run)
    (first_append (second_rows t.run share_length (length t.shares)) (rate_rows t.rate)
    ∙ ap (or_else_of (first_row (second_rows t.run share_length (length t.shares))))
    (row_passes _ Accepted (fair_passes t.rate f))
    ∙ or_else_accepted (first_row (second_rows t.run share_length (length t.shares)))
    ∙ same_verdict t.run share_length (length t.shares) r)
  where
    or_else_accepted : (v : Verdict) → or_else_of v Accepted ≡ v
    or_else_accepted Accepted = refl
    or_else_accepted (Refused q) = refl

-- ---- accepted exactly when the run is, there is room for the shares, and the rate is fair

none_of_seven : (t : Tariffed) → Exactly (NoneHolds (second_rows t.run share_length (length t.shares))) (AllButRate t)
none_of_seven t = none_of_second t.run share_length (length t.shares)

none_of_all : (t : Tariffed) → Exactly (NoneHolds (tariff_rows t)) (TariffAcceptable t)
none_of_all t =
    let both = none_of_both (second_rows t.run share_length (length t.shares)) (rate_rows t.rate) in (
      λ h. record { all = (none_of_seven t).0 (both.0 h).0; rate = passes_fair t.rate (both.0 h).1.0 },
      λ a. both.1 ((none_of_seven t).1 a.all, (fair_passes t.rate a.rate, tt)),
    )

pub tariff_zero : (t : Tariffed) → Exactly ((bill t).run.number ≡ 0) (TariffAcceptable t)
tariff_zero t =
    let none = (tariff_table t).none in
    (λ h. (none_of_all t).0 (none.0 h), λ a. none.1 ((none_of_all t).1 a))

pub tariff_accepted : (t : Tariffed) → tariff_verdict t ≡ Accepted → TariffAcceptable t
unfolding tariff_verdict
tariff_accepted t e = (none_of_all t).0 ((undecided (tariff_rows t)).0 (ap verdict_number e))

pub bad_rate : (t : Tariffed) → Exactly ((bill t).run.number ≡ 8) (RateAlone t)
bad_rate t =
    let eight = (tariff_table t).row 7 (lit< tt) in
    let last =
    next_decides (second_rows t.run share_length (length t.shares))
    (row (eqb t.rate 0 || ltb max_rate t.rate) BadRate) [] in (
      λ h.
          let d = last.0 (eight.0 h) in
          record { all = (none_of_seven t).0 d.0; unfair = λ f. never d.1 (fair_passes t.rate f) },
      λ a. eight.1 (last.1 ((none_of_seven t).1 a.all, holds a.unfair)),
    )
  where
    holds : ¬ (Fair t.rate) → eqb t.rate 0 || ltb max_rate t.rate ≡ true
    holds unfair =
        by_test (eqb t.rate 0 || ltb max_rate t.rate) (λ e. e) (λ e. absurd (unfair (passes_fair t.rate e)))

-- ---- a refused run

unbilled_by : (t : Tariffed) (v : Verdict) → (bill_by t v).run.number ≢ 0 → Unbilled t (bill_by t v)
unbilled_by t Accepted h = absurd (h refl)
unbilled_by t (Refused r) h = record { run = by_refusal t.run (Refused r) h; charge = refl; shares = refl }

pub refused_unbilled : (t : Tariffed) → (bill t).run.number ≢ 0 → Unbilled t (bill t)
unfolding bill
refused_unbilled t h = unbilled_by t (tariff_verdict t) h

-- the index is that of the run's table: 0 for 8 as well
pub tariff_index : (t : Tariffed) → Index t.run.sheet (bill t).run.number (bill t).run.index
unfolding bill tariff_verdict
tariff_index t =
    record {
      refused = zero_index t.run (tariff_verdict t);
      faulty_record = λ h.
          fault_told t.run share_length (length t.shares) (rate_rows t.rate) (((tariff_table t).row 6 (lit< tt)).0 h);
      accepted = λ h.
          ap (λ (v : Verdict). (outcome_by t.run v).index) (zero_accepted (tariff_verdict t) (sym (number_is t) ∙ h));
    }

-- ---- an accepted run

-- a number of a list is at most their sum
part_of_sum : (xs : List ℕ) (k : ℕ) → get_or xs k 0 ≤ sum xs
part_of_sum [] k = omega arith
part_of_sum (x ∷ xs) zero = omega arith
part_of_sum (x ∷ xs) (suc k) = omega (arith, part_of_sum xs k)

-- the cycles of the first k steps among those of all
cycles_to_law : (b : List ℕ) (j k n : ℕ) → k ≤ n → cycles_from b j k ≡ take k (cycles_from b j n)
cycles_to_law b j zero n h = refl
cycles_to_law b j (suc k) zero h = absurd (omega arith)
cycles_to_law b j (suc k) (suc n) h =
    ap (λ (cs : List ℕ). number 4 b (answer_start j + 4) ∷ cs) (cycles_to_law b (suc j) k n (omega arith))

module _ (t : Tariffed) (b : Billed) (ok : b ≡ bill t) (zero_number : b.run.number ≡ 0) where
  asked : TariffAcceptable t
  asked = (tariff_zero t).0 (sym (ap (λ (x : Billed). x.run.number) ok) ∙ zero_number)

  abbrev n : ℕ
  n = record_count t.run.sheet

  whole : b ≡ bill_by t Accepted
  unfolding bill tariff_verdict
  whole = ok ∙ ap (bill_by t) (none_accepts (tariff_rows t) ((none_of_all t).1 asked))

  run_is : b.run ≡ outcome t.run
  run_is = ap (λ (x : Billed). x.run) ok ∙ whole_run t asked.all.room asked.rate

  charged : b.charge ≡ charge t.rate b.run.total
  charged = ap (λ (x : Billed). x.charge) whole ∙ sym (ap (λ (x : Billed). charge t.rate x.run.total) whole)

  abbrev cycles : List ℕ
  cycles = cycles_of (ran t.run)

  as_many : length cycles ≡ n
  as_many = length-map (ran t.run).answers _ ∙ answers_count t.run

  shares_are : b.shares ≡ shares_in t.shares t.rate cycles n
  shares_are = ap (λ (x : Billed). x.shares) whole

  bytes_many : length (numbers_bytes share_length (shares t.rate cycles)) ≡ share_length * n
  bytes_many =
      numbers_length share_length (shares t.rate cycles)
      ∙ ap (λ (k : ℕ). share_length * k) (shares_length t.rate 0 cycles ∙ as_many)

  behind_shares : drop (share_length * n) b.shares ≡ drop (share_length * n) t.shares
  behind_shares =
      ap (drop (share_length * n)) shares_are
      ∙ drop_at (numbers_bytes share_length (shares t.rate cycles)) _ _ bytes_many

  module _ (lent : LentBytes t.run) where
    small : cost t.rate b.run.total < 2 ^ 64
    small = cost_fits t.rate b.run.total asked.rate.most
        (omega (arith, rw (← run_is) at (total_fits t.run lent (sym (ap (λ (x : Outcome). x.number) run_is) ∙ zero_number))))

    -- the shares, read back
    share_fits : (k : ℕ) → get_or (shares t.rate cycles) k 0 < 256 ^ share_length
    share_fits k =
        omega (
          arith,
          small,
          part_of_sum (shares t.rate cycles) k,
          shares_add_up t.rate cycles,
          rounded_up t.rate (sum cycles),
          ap (λ (x : Billed). x.run.total * t.rate) whole,
        )

    shares_there : numbers_from share_length b.shares 0 n ≡ shares t.rate cycles
    shares_there =
        ap₂ (λ (l : List ℕ) (k : ℕ). numbers_from share_length l 0 k) shares_are (sym (shares_length t.rate 0 cycles ∙ as_many))
        ∙ numbers_back share_length (shares t.rate cycles) _ share_fits

    cycles_are : cycles_from b.run.answers 0 n ≡ cycles
    cycles_are = cycles_there t.run b.run run_is zero_number lent

    -- the cycles of the first steps
    abbrev to : ℕ → ℕ
    to k = cycles_to b.run.answers k

    module _ (k : ℕ) (h : k < n) where
      share_there : share_at b k ≡ get_or (shares t.rate cycles) k 0
      share_there =
          sym (numbers_at share_length b.shares 0 n k h ∙ ap (number share_length b.shares) (omega arith))
          ∙ ap (λ (xs : List ℕ). get_or xs k 0) shares_there

      up_to : (j : ℕ) → j ≤ n → to j ≡ sum (take j cycles)
      up_to j l = ap sum (cycles_to_law b.run.answers 0 j n l ∙ ap (take j) cycles_are)

      share_told : share_at b k ≡ charge t.rate (to (suc k)) - charge t.rate (to k)
      share_told =
          share_there ∙ share_is t.rate cycles k (omega (arith, as_many))
          ∙ sym (ap₂ (λ (x y : ℕ). charge t.rate x - charge t.rate y) (up_to (suc k) (omega arith)) (up_to k (omega arith)))

      added : share_at b k ≡ charge t.rate (to k + cycles_at b k) - charge t.rate (to k)
      added = share_told ∙ ap (λ (x : ℕ). charge t.rate x - charge t.rate (to k)) (cycles_further b.run.answers k)

      most_told : share_at b k ≤ charge t.rate (cycles_at b k)
      most_told = rw added (adds_at_most t.rate (to k) (cycles_at b k))

      least_told : charge_down t.rate (cycles_at b k) ≤ share_at b k
      least_told = rw added (adds_at_least t.rate (to k) (cycles_at b k))

  pub bills : Bills t b
  bills =
      record {
        run = run_is;
        charged = charged;
        small = small;
        share = share_told;
        most = most_told;
        least = least_told;
        summed = λ lent.
            ap sum (shares_there lent) ∙ shares_add_up t.rate cycles ∙ sym (ap (λ (x : Billed). x.charge) whole);
        beyond = behind_shares;
      }

-- ---- the same for every memory: two bills

-- under one rate two accepted runs whose sheets and first boards are alike have the same shares and charge
pub same_bill : (t u : Tariffed) (a b : Billed) → a ≡ bill t → b ≡ bill u → a.run.number ≡ 0 → b.run.number ≡ 0
    → t.rate ≡ u.rate → AlikeSheets t.run.sheet u.run.sheet → AlikeBoards t.run.board u.run.board
    → SameBill t u a b
same_bill t u a b e f ok ok' r s c =
    let cycles = same_cycles t.run u.run s c in
    record {
      times = demand3 t.run u.run a.run b.run (run_is t a e ok) (run_is u b f ok') ok ok' s c;
      charges =
          ap (λ (x : Billed). x.charge) (whole t a e ok)
          ∙ ap₂ (λ (q : ℕ) (cs : List ℕ). charge q (sum cs)) r cycles
          ∙ sym (ap (λ (x : Billed). x.charge) (whole u b f ok'));
      same_shares = λ j l.
          ap (λ (x : List ℕ). byte_at x j) (shares_are t a e ok)
          ∙ get_or-append (written t) _ 0 j (omega (arith, bytes_many t a e ok))
          ∙ ap₂ (λ (q : ℕ) (cs : List ℕ). byte_at (numbers_bytes share_length (shares q cs)) j) r cycles
          ∙ sym (get_or-append (written u) _ 0 j
          (omega (arith, bytes_many u b f ok', alike_count t.run.sheet u.run.sheet s)))
          ∙ sym (ap (λ (x : List ℕ). byte_at x j) (shares_are u b f ok'));
      one = bills t a e ok;
      other = bills u b f ok';
    }
  where
    written : Tariffed → List ℕ
    written v = numbers_bytes share_length (shares v.rate (cycles_of (ran v.run)))
