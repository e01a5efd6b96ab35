-- The contract's tariff: what cycles cost at a rate, each step's share of what a run costs, what a run under a tariff gives back,
-- and what is claimed of it.
-- From docs/RULES.md, "The charge and the shares" and "What a run under a tariff is refused with".
use Rattle.std.specs.Prelude.{◌≡◌, ◌||◌, List, [], ◌∷◌, ◌++◌, ℕ, suc, ◌+◌, ◌-◌, ◌*◌, ◌/◌, ◌^◌, ◌≤◌, ◌<◌, length, drop, eqb, ltb}
use Rattle.model.specs.Base.{sum, byte_at, number, numbers_from, numbers_bytes}
use Rattle.model.specs.Step.{cycles_of, total}
use Rattle.model.specs.Sheet.{record_count}
use Rattle.model.specs.Outcome.{Lent, LentBytes, Outcome, Row, row, first_row, second_rows, ran, outcome_by, outcome}
use Rattle.model.specs.Alike.{answer_start, cycles_from, Demand3}
use Rattle.model.specs.declared.Refusal.TheVariants.{BadRate}
use Rattle.model.specs.Verdict.{Verdict, Accepted, Refused}

-- ---- the charge, and the shares

-- a rate is in cents for so many cycles
abbrev pub rate_cycles : ℕ
rate_cycles = 1_000_000

-- the highest rate
abbrev pub max_rate : ℕ
max_rate = 1_000_000

-- what cycles cost in millionths of a cent, with what rounds it up
abbrev pub cost : ℕ → ℕ → ℕ
cost rate cycles = cycles * rate + (rate_cycles - 1)

-- cycles × rate / 1,000,000 rounded up to the cent (RULES, "The charge and the shares")
unfoldable pub charge : ℕ → ℕ → ℕ
charge rate cycles = cost rate cycles / rate_cycles

-- the same rounded down, which is charged to nobody: no share is less than it
unfoldable pub charge_down : ℕ → ℕ → ℕ
charge_down rate cycles = cycles * rate / rate_cycles

-- each step's share: the charge up to and with that step less the charge up to the step before, whose cycles are `before`
abbrev pub shares_after : ℕ → ℕ → List ℕ → List ℕ
shares_after rate before [] = []
shares_after rate before (c ∷ cs) = (charge rate (before + c) - charge rate before) ∷ shares_after rate (before + c) cs

-- of steps with these cycles, from the first on (RULES, "The charge and the shares")
abbrev pub shares : ℕ → List ℕ → List ℕ
shares rate cs = shares_after rate 0 cs

-- a share's bytes
abbrev pub share_length : ℕ
share_length = 8

-- the shares of n steps, written to a lent buffer: its bytes behind them are untouched
abbrev pub shares_in : List ℕ → ℕ → List ℕ → ℕ → List ℕ
shares_in lent rate cs n = numbers_bytes share_length (shares rate cs) ++ drop (share_length * n) lent

-- ---- a run under a tariff

-- all that a caller lends, with the rate
pub record Tariffed : Type 0 where
  pub run : Lent
  pub shares : List ℕ
  pub rate : ℕ

-- what the caller gets and finds
pub record Billed : Type 0 where
  pub run : Outcome
  pub charge : ℕ
  pub shares : List ℕ

-- a rate of 0 or above 1,000,000
abbrev pub rate_rows : ℕ → List Row
rate_rows rate = row (eqb rate 0 || ltb max_rate rate) BadRate ∷ []

-- the run's table, with room for the shares, and one row more (RULES, "What a run under a tariff is refused with")
abbrev pub tariff_rows : Tariffed → List Row
tariff_rows t = second_rows t.run share_length (length t.shares) ++ rate_rows t.rate

unfoldable pub tariff_verdict : Tariffed → Verdict
tariff_verdict t = first_row (tariff_rows t)

-- an accepted run is charged for its total, a refused one for nothing
abbrev pub charge_by : Tariffed → Verdict → ℕ
charge_by t (Refused r) = 0
charge_by t Accepted = charge t.rate (total (ran t.run))

-- and it has a share for each record; for a refused one no share is written
abbrev pub shares_by : Tariffed → Verdict → List ℕ
shares_by t (Refused r) = t.shares
shares_by t Accepted = shares_in t.shares t.rate (cycles_of (ran t.run)) (record_count t.run.sheet)

-- it is a whole run besides
abbrev pub bill_by : Tariffed → Verdict → Billed
bill_by t v = record { run = outcome_by t.run v; charge = charge_by t v; shares = shares_by t v }

-- all that a call gives and leaves (RULES, "What a run under a tariff is refused with" and "What a contract may quote")
unfoldable pub bill : Tariffed → Billed
bill t = bill_by t (tariff_verdict t)

-- ---- the claims

-- share k as it stands in the shares, and the cycles of step k as they stand in the answers
abbrev pub share_at : Billed → ℕ → ℕ
share_at b k = number share_length b.shares (share_length * k)

abbrev pub cycles_at : Billed → ℕ → ℕ
cycles_at b k = number 4 b.run.answers (answer_start k + 4)

-- the cycles of the first k steps as they stand in answers
abbrev pub cycles_to : List ℕ → ℕ → ℕ
cycles_to answers k = sum (cycles_from answers 0 k)

-- what every accepted run under a tariff has by itself
pub record Bills (t : Tariffed) (b : Billed) : Type 0 where
  -- it is a whole run besides
  pub run : b.run ≡ outcome t.run
  pub charged : b.charge ≡ charge t.rate b.run.total
  -- no sum and no product of the charge wraps
  pub small : LentBytes t.run → cost t.rate b.run.total < 2 ^ 64
  -- each share is the charge up to and with its step less the charge up to the step before
  pub share : LentBytes t.run → (k : ℕ) → k < record_count t.run.sheet
      → share_at b k ≡ charge t.rate (cycles_to b.run.answers (suc k)) - charge t.rate (cycles_to b.run.answers k)
  -- at most what the step's cycles cost alone, rounded up, and at least that rounded down
  pub most : LentBytes t.run → (k : ℕ) → k < record_count t.run.sheet → share_at b k ≤ charge t.rate (cycles_at b k)
  pub least : LentBytes t.run → (k : ℕ) → k < record_count t.run.sheet → charge_down t.rate (cycles_at b k) ≤ share_at b k
  -- the shares add up to the charge
  pub summed : LentBytes t.run → sum (numbers_from share_length b.shares 0 (record_count t.run.sheet)) ≡ b.charge
  -- bytes beyond the shares are untouched
  pub beyond : drop (share_length * record_count t.run.sheet) b.shares
      ≡ drop (share_length * record_count t.run.sheet) t.shares

-- what two accepted runs under one rate have whose sheets and first boards are alike: the same shares and charge, and
-- what `Demand3` says (RULES, "What two runs have in common")
pub record SameBill (t u : Tariffed) (a b : Billed) : Type 0 where
  pub times : Demand3 t.run u.run a.run b.run
  pub charges : a.charge ≡ b.charge
  pub same_shares : (j : ℕ) → j < share_length * record_count t.run.sheet → byte_at a.shares j ≡ byte_at b.shares j
  pub one : Bills t a
  pub other : Bills u b
