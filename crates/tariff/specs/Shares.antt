-- What the tariff's functions and their loop rest on, and the shares of the steps from one on, which a loop writes from the last
-- step to the first.
use Rattle.std.specs.Prelude.{◌≡◌, refl, List, ◌∷◌, ◌++◌, ℕ, suc, ◌+◌, ◌-◌, ◌*◌, ◌/◌, ◌^◌, ◌≤◌, ◌<◌, length, take, drop}
use Rattle.std.proofs.Common.{sym, ap₂, ◌∙◌, append_assoc, arith, add-mul, take-append-drop, length-append, length-drop, length-take-le}
use Rattle.std.proofs.Math.Path.{ap}
use Rattle.std.proofs.Math.Nat.{sub-zero, sub_self}
use borrow.Rule.Slice.PartMut.{put_mid}
use Rattle.model.specs.Base.{bytes, number, numbers_bytes}
use Rattle.model.specs.Sheet.{max_records}
use Rattle.model.specs.BoardBytes.{answer_length}
use Rattle.model.specs.Alike.{answer_start, cycles_from}
use Rattle.model.specs.Tariff.{rate_cycles, max_rate, cost, charge, shares_after, share_length, shares_in, cycles_to}
use Rattle.model.proofs.Laws.Codec.{numbers_length, put_before}
use Rattle.model.proofs.Laws.Charge.{cycles_length, cycles_further, cost_fits, charge_grows, shares_length}

-- ---- what they rest on: `Payable` is asked, `Summed` is in the type of a run's cycles, and `Billable` is what both come to

-- cycles of a run, and a rate that is not too high: nothing wraps
pub record Payable (rate cycles : ℕ) : Type 0 where
  pub most : rate ≤ max_rate
  pub few : cycles ≤ max_records * 0xFFFF_FFFF

-- the answers of n steps of a run, and the sum of their cycles
pub record Summed (n total : ℕ) (answers : List ℕ) : Type 0 where
  pub few : n ≤ max_records
  pub answered : answer_length * n ≤ length answers
  pub summed : total ≡ cycles_to answers n
  pub most : total ≤ max_records * 0xFFFF_FFFF

-- the answers of n steps, the sum of their cycles, and room for their shares
pub record Billable (n total rate : ℕ) (answers lent : List ℕ) : Type 0 where
  pub few : n ≤ max_records
  pub answered : answer_length * n ≤ length answers
  pub room : share_length * n ≤ length lent
  pub summed : total ≡ cycles_to answers n
  pub payable : Payable rate total

-- so it is under a rate that is not too high
pub billable : {n total rate : ℕ} {answers lent : List ℕ} → Summed n total answers → rate ≤ max_rate
    → share_length * n ≤ length lent → Billable n total rate answers lent
billable s r h =
    record {
      few = s.few;
      answered = s.answered;
      room = h;
      summed = s.summed;
      payable = record { most = r; few = s.most };
    }

pub payable_fits : {rate cycles : ℕ} → Payable rate cycles → cost rate cycles < 2 ^ 64
payable_fits {rate} {cycles} p = cost_fits rate cycles p.most (omega (arith, p.few))

-- ---- the loop's invariant, with its beginning, its turn and its end as laws on plain lists

module _ (n rate : ℕ) (answers lent : List ℕ) where
  -- the shares of m steps from step k on, and of all from there on
  abbrev shares_of : ℕ → ℕ → List ℕ
  shares_of k m = numbers_bytes share_length (shares_after rate (cycles_to answers k) (cycles_from answers k m))

  abbrev shares_from : ℕ → List ℕ
  shares_from k = shares_of k (n - k)

  -- these are written; `left` is what the first k steps cost, and `due` is that in cents
  pub record Going (written : List ℕ) (left due k : ℕ) : Type 0 where
    pub done : written ≡ take (share_length * k) lent ++ (shares_from k ++ drop (share_length * n) lent)
    pub cost_left : left ≡ cost rate (cycles_to answers k)
    pub due_left : due ≡ left / rate_cycles
    pub within : k ≤ n

  -- none is written
  pub begin : {total left due : ℕ} → total ≡ cycles_to answers n → left ≡ cost rate total → due ≡ left / rate_cycles
      → Going lent left due n
  begin e l d =
      record {
        done =
            sym (take-append-drop (share_length * n) lent)
            ∙ ap (λ (m : ℕ). take (share_length * n) lent ++ (shares_of n m ++ drop (share_length * n) lent)) (sym (sub_self n));
        cost_left = l ∙ ap (cost rate) e;
        due_left = d;
        within = omega arith;
      }

  -- all are
  pub finish : {written : List ℕ} {left due : ℕ} → Going written left due 0
      → written ≡ shares_in lent rate (cycles_from answers 0 n) n
  finish g = g.done ∙ ap (λ (m : ℕ). shares_of 0 m ++ drop (share_length * n) lent) (sub-zero n)

  module _ {written : List ℕ} {left due k : ℕ} (g : Going written left due k) (room : share_length * n ≤ length lent) where
    -- the buffer keeps its length
    pub same_room : length written ≡ length lent
    same_room =
        let done_size : length (shares_from k) ≡ share_length * (n - k) =
        numbers_length share_length (shares_after rate (cycles_to answers k) (cycles_from answers k (n - k)))
        ∙ ap (λ (m : ℕ). share_length * m)
        (shares_length rate (cycles_to answers k) (cycles_from answers k (n - k)) ∙ cycles_length answers k (n - k)) in
        ap length g.done
        ∙ length-append (take (share_length * k) lent) _
        ∙ omega (
          arith,
          length-append (shares_from k) (drop (share_length * n) lent),
          done_size,
          g.within,
          length-take-le (share_length * k) lent (omega (arith, g.within)),
          length-drop (share_length * n) lent,
        )

    -- step k - 1, which takes c cycles, is the next one
    module _ (some : 0 < k) {c : ℕ} (step : c ≡ number 4 answers (answer_start (k - 1) + 4)) where
      one_on : suc (k - 1) ≡ k
      one_on = omega arith

      up : cycles_to answers k ≡ cycles_to answers (k - 1) + c
      up =
          ap (cycles_to answers) (sym one_on) ∙ cycles_further answers (k - 1)
          ∙ ap (λ (x : ℕ). cycles_to answers (k - 1) + x) (sym step)

      -- its cost is a part of what is left
      cost_part : left ≡ cost rate (cycles_to answers (k - 1)) + c * rate
      cost_part = g.cost_left ∙ ap (cost rate) up ∙ omega (arith, add-mul (cycles_to answers (k - 1)) c rate)

      pub part_left : c * rate ≤ left
      part_left = omega (arith, cost_part)

      less : left - c * rate ≡ cost rate (cycles_to answers (k - 1))
      less = omega (arith, cost_part)

      -- what was due, and what is due before the step
      due_is : due ≡ charge rate (cycles_to answers (k - 1) + c)
      unfolding charge
      due_is = g.due_left ∙ ap (λ (x : ℕ). x / rate_cycles) (g.cost_left ∙ ap (cost rate) up)

      before_is : (left - c * rate) / rate_cycles ≡ charge rate (cycles_to answers (k - 1))
      unfolding charge
      before_is = ap (λ (x : ℕ). x / rate_cycles) less

      -- no share is less than 0
      pub grows : (left - c * rate) / rate_cycles ≤ due
      grows = omega (arith, due_is, before_is, charge_grows rate (cycles_to answers (k - 1)) c)

      -- the shares from the step on
      further : shares_from (k - 1) ≡ bytes share_length (due - (left - c * rate) / rate_cycles) ++ shares_from k
      further =
          let one_more : n - (k - 1) ≡ suc (n - k) = omega (arith, g.within) in
          ap (shares_of (k - 1)) one_more
          ∙ ap₂
          (λ (x j : ℕ).
          numbers_bytes share_length
          (shares_after rate (cycles_to answers (k - 1)) (x ∷ cycles_from answers j (n - k))))
          (sym step) one_on
          ∙ ap₂ (λ (x y : ℕ). bytes share_length x ++ numbers_bytes share_length
          (shares_after rate y (cycles_from answers k (n - k))))
          (ap₂ (λ (x y : ℕ). x - y) (sym due_is) (sym before_is)) (sym up)

      pub turn : {part : ℕ} {share : List ℕ} → part ≡ share_length
          → share ≡ bytes share_length (due - (left - c * rate) / rate_cycles)
          → Going (put_mid (share_length * (k - 1)) part written share) (left - c * rate)
          ((left - c * rate) / rate_cycles) (k - 1)
      turn {part} {share} eight e =
          let a : ℕ = share_length * (k - 1) in
          let rest : List ℕ = drop (share_length * n) lent in
          let place : share_length * k ≡ a + share_length = omega arith in
          record {
            done =
                ap₂ (λ (w : ℕ) (l : List ℕ). put_mid a w l share) eight
                (g.done ∙ ap (λ (j : ℕ). take j lent ++ (shares_from k ++ rest)) place)
                ∙ put_before a share_length lent (shares_from k ++ rest) share (omega (arith, g.within))
                ∙ ap (λ (l : List ℕ). take a lent ++ l)
                (sym (append_assoc share (shares_from k) rest)
                ∙ ap (λ (l : List ℕ). l ++ rest) (ap (λ (l : List ℕ). l ++ shares_from k) e ∙ sym further));
            cost_left = less;
            due_left = refl;
            within = omega (arith, g.within);
          }
