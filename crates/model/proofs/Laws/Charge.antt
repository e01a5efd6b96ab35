-- The charge and the shares, of plain numbers: the charge is rounded up, a share lies between what its cycles cost alone rounded
-- down and rounded up, and shares add up to the charge.
use Rattle.std.specs.Prelude.{◌≡◌, refl, List, [], ◌∷◌, ℕ, zero, suc, ◌+◌, ◌-◌, ◌≤◌, ◌<◌, ◌^◌, length, get_or, take}
use Rattle.std.proofs.Common.{ap, ◌∙◌, arith, zero-add, add-zero, add_assoc, add-mul, mul-le-mul}
use Rattle.model.specs.Base.{sum, number}
use Rattle.model.specs.Alike.{answer_start, cycles_from}
use Rattle.model.specs.Tariff.{max_rate, cost, charge, charge_down, shares_after, shares, cycles_to}
use Rattle.model.specs.Laws.Charge.{Rounded, Down}

-- ---- the charge

pub rounded_up : (rate cycles : ℕ) → Rounded rate cycles (charge rate cycles)
unfolding charge
rounded_up rate cycles = record { pays = omega arith; just = omega arith }

rounded_down : (rate cycles : ℕ) → Down rate cycles (charge_down rate cycles)
unfolding charge_down
rounded_down rate cycles = record { paid = omega arith; nearly = omega arith }

module _ (rate a b : ℕ) where
  -- more cycles cost no less
  pub charge_grows : charge rate a ≤ charge rate (a + b)
  charge_grows = omega (arith, rounded_up rate a, rounded_up rate (a + b), add-mul a b rate)

  -- what b cycles add is at most what they cost alone, and at least that rounded down
  pub adds_at_most : charge rate (a + b) - charge rate a ≤ charge rate b
  adds_at_most = omega (arith, rounded_up rate a, rounded_up rate b, rounded_up rate (a + b), add-mul a b rate)

  pub adds_at_least : charge_down rate b ≤ charge rate (a + b) - charge rate a
  adds_at_least = omega (arith, rounded_up rate a, rounded_down rate b, rounded_up rate (a + b), add-mul a b rate)

-- nothing costs nothing
pub no_charge : (rate : ℕ) → charge rate 0 ≡ 0
no_charge rate = omega (arith, rounded_up rate 0)

-- nothing wraps in 64 bits
pub cost_fits : (rate cycles : ℕ) → rate ≤ max_rate → cycles < 2 ^ 44 → cost rate cycles < 2 ^ 64
cost_fits rate cycles r c = omega (arith, mul-le-mul {n₁ = cycles} {m₁ = rate} {n₂ = 2 ^ 44} {m₂ = max_rate} (omega arith) r)

-- ---- the shares

pub shares_length : (rate before : ℕ) (cs : List ℕ) → length (shares_after rate before cs) ≡ length cs
shares_length rate before [] = refl
shares_length rate before (c ∷ cs) = ap suc (shares_length rate (before + c) cs)

-- behind the charge so far, they add up to the charge of all
shares_sum : (rate before : ℕ) (cs : List ℕ)
    → charge rate before + sum (shares_after rate before cs) ≡ charge rate (before + sum cs)
shares_sum rate before [] = rw (add-zero (charge rate before), add-zero before)
shares_sum rate before (c ∷ cs) =
    omega
    (arith, charge_grows rate before c, shares_sum rate (before + c) cs, ap (charge rate) (add_assoc before c (sum cs)))

pub shares_add_up : (rate : ℕ) (cs : List ℕ) → sum (shares rate cs) ≡ charge rate (sum cs)
shares_add_up rate cs = omega (arith, no_charge rate, shares_sum rate 0 cs, ap (charge rate) (zero-add (sum cs)))

-- share k: the charge up to and with step k less the charge up to the step before
share_after : (rate before : ℕ) (cs : List ℕ) (k : ℕ) → k < length cs
    → get_or (shares_after rate before cs) k 0
    ≡ charge rate (before + sum (take (suc k) cs)) - charge rate (before + sum (take k cs))
share_after rate before [] k h = absurd (omega arith)
share_after rate before (c ∷ cs) zero h = rw (add-zero c, add-zero before)
share_after rate before (c ∷ cs) (suc k) h =
    rw (← add_assoc before c (sum (take (suc k) cs)), ← add_assoc before c (sum (take k cs)))
    (share_after rate (before + c) cs k (omega arith))

pub share_is : (rate : ℕ) (cs : List ℕ) (k : ℕ) → k < length cs
    → get_or (shares rate cs) k 0 ≡ charge rate (sum (take (suc k) cs)) - charge rate (sum (take k cs))
share_is rate cs k h = rw (zero-add (sum (take (suc k) cs)), zero-add (sum (take k cs))) at (share_after rate 0 cs k h)

-- ---- the cycles that stand in answers

pub cycles_length : (b : List ℕ) (j n : ℕ) → length (cycles_from b j n) ≡ n
cycles_length b j zero = refl
cycles_length b j (suc n) = ap suc (cycles_length b (suc j) n)

-- one step more
sum_further : (b : List ℕ) (j k : ℕ)
    → sum (cycles_from b j (suc k)) ≡ sum (cycles_from b j k) + number 4 b (answer_start (j + k) + 4)
sum_further b j zero = omega (arith, ap (λ (i : ℕ). number 4 b (answer_start i + 4)) (add-zero j))
sum_further b j (suc k) =
    let e : suc j + k ≡ j + suc k = omega arith in
    omega (arith, sum_further b (suc j) k, ap (λ (i : ℕ). number 4 b (answer_start i + 4)) e)

pub cycles_further : (b : List ℕ) (k : ℕ) → cycles_to b (suc k) ≡ cycles_to b k + number 4 b (answer_start k + 4)
cycles_further b k = sum_further b 0 k ∙ ap (λ (i : ℕ). cycles_to b k + number 4 b (answer_start i + 4)) (zero-add k)
