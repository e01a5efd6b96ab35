-- Words of the laws in proofs/Laws/Billed.antt, as definitions. Those laws:
-- A run under a tariff, of bytes as lent: when it is refused, and with what; what a refusal leaves; and what an accepted run's
-- charge and shares are.
use Rattle.std.specs.Prelude.{◌≡◌, ℕ, ◌≤◌, length}
use Rattle.model.specs.Tariff.{max_rate, share_length, Tariffed, Billed}
use Rattle.model.specs.Tariff.{tariff_rows}
use Rattle.model.specs.Laws.Rows.{TableOf}
use Rattle.model.specs.Laws.Refusal.{Untouched}
use Rattle.model.specs.Laws.Second.{Room, AcceptableWith}

-- each number exactly when its row decides
abbrev pub TariffTable : Tariffed → Billed → Type 0
TariffTable t b = TableOf (tariff_rows t) b.run.number

pub record Fair (rate : ℕ) : Type 0 where
  pub some : 1 ≤ rate
  pub most : rate ≤ max_rate

-- room for the shares, as a run with a second buffer has it
abbrev pub SharesRoom : Tariffed → Type 0
SharesRoom t = Room t.run share_length (length t.shares)

-- none of the rows before the last holds
abbrev pub AllButRate : Tariffed → Type 0
AllButRate t = AcceptableWith t.run share_length (length t.shares)

pub record TariffAcceptable (t : Tariffed) : Type 0 where
  pub all : AllButRate t
  pub rate : Fair t.rate

-- 8 exactly when the rate is not fair and nothing else is wrong
pub record RateAlone (t : Tariffed) : Type 0 where
  pub all : AllButRate t
  pub unfair : ¬ (Fair t.rate)

pub record Unbilled (t : Tariffed) (b : Billed) : Type 0 where
  pub run : Untouched t.run b.run
  pub charge : b.charge ≡ 0
  pub shares : b.shares ≡ t.shares
