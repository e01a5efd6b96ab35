-- What is promised of a run under a tariff. The contract of `bts_run_tariff` says of a call that was lent `t` and left `b` that
-- `b ≡ bill t`; each statement here is of any such call.
use Rattle.std.specs.Prelude.{◌≡◌, ◌≢◌, ◌≤◌}
use Rattle.model.specs.Base.{Exactly}
use Rattle.model.specs.Sheet.{max_records}
use Rattle.model.specs.Outcome.{outcome}
use Rattle.model.specs.Alike.{AlikeSheets, AlikeBoards}
use Rattle.model.specs.Tariff.{Tariffed, Billed, bill, Bills, SameBill}
use Rattle.model.specs.Laws.Refusal.{Index, LowerOfTwo}
use Rattle.model.specs.Laws.Charge.{Rounded}
use Rattle.model.specs.Laws.Billed.{TariffTable, TariffAcceptable, RateAlone, SharesRoom, Fair, Unbilled}

-- each number exactly when its row of the tariff's table holds and no earlier one does, and 0 exactly when none does
unfoldable pub BilledNumber : Type 0
BilledNumber = (t : Tariffed) (b : Billed) → b ≡ bill t → TariffTable t b

-- and no other number
unfoldable pub NoOtherBilled : Type 0
NoOtherBilled = (t : Tariffed) (b : Billed) → b ≡ bill t → b.run.number ≤ 8

-- number 0 exactly when the run's conditions hold, there is room for the shares and the rate is fair
unfoldable pub BillAccepted : Type 0
BillAccepted = (t : Tariffed) (b : Billed) → b ≡ bill t → Exactly (b.run.number ≡ 0) (TariffAcceptable t)

-- number 8 exactly when the rate is not fair and nothing else is wrong
unfoldable pub RateRefused : Type 0
RateRefused = (t : Tariffed) (b : Billed) → b ≡ bill t → Exactly (b.run.number ≡ 8) (RateAlone t)

-- the index: 0 for 8 too
unfoldable pub BilledIndex : Type 0
BilledIndex = (t : Tariffed) (b : Billed) → b ≡ bill t → Index t.run.sheet b.run.number b.run.index

-- the record that 7 names is the lower of two, as a run's
unfoldable pub BilledFirstOfTwo : Type 0
BilledFirstOfTwo = (t : Tariffed) (b : Billed) → b ≡ bill t → b.run.number ≡ 7 → LowerOfTwo t.run.sheet b.run.index

-- the index fits its 32 bits
unfoldable pub SmallBilledIndex : Type 0
SmallBilledIndex = (t : Tariffed) (b : Billed) → b ≡ bill t → b.run.index ≤ max_records

-- a refusal gives total and charge 0 and changes no byte, the shares' among them
unfoldable pub RefusedUnbilled : Type 0
RefusedUnbilled = (t : Tariffed) (b : Billed) → b ≡ bill t → b.run.number ≢ 0 → Unbilled t b

-- with room for the shares and a fair rate it is the run's outcome, refused or not; so all that is promised of a run holds here
unfoldable pub BilledRun : Type 0
BilledRun = (t : Tariffed) (b : Billed) → b ≡ bill t → SharesRoom t → Fair t.rate → b.run ≡ outcome t.run

-- the charge of an accepted run is its total × rate / 1,000,000, rounded up to the cent
unfoldable pub ChargedUp : Type 0
ChargedUp = (t : Tariffed) (b : Billed) → b ≡ bill t → b.run.number ≡ 0 → Rounded t.rate b.run.total b.charge

-- an accepted run by itself: its charge, its shares, their sum and bounds, and that nothing wraps
unfoldable pub BilledFairly : Type 0
BilledFairly = (t : Tariffed) (b : Billed) → b ≡ bill t → b.run.number ≡ 0 → Bills t b

-- any two accepted runs under one rate with alike sheets and boards, whatever memories they are lent: the same shares and charge,
-- and all else that two runs have in common
unfoldable pub SameBills : Type 0
SameBills =
    (t u : Tariffed) (a b : Billed) → a ≡ bill t → b ≡ bill u → a.run.number ≡ 0 → b.run.number ≡ 0
    → t.rate ≡ u.rate → AlikeSheets t.run.sheet u.run.sheet → AlikeBoards t.run.board u.run.board → SameBill t u a b
