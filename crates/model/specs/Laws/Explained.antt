-- Words of the laws in proofs/Laws/Explained.antt, as definitions. Those laws:
-- A run with grounds, of bytes as lent: when it is refused, and with what; what a refusal leaves; and what an accepted run's
-- grounds are.
use Rattle.std.specs.Prelude.{◌≡◌, length}
use Rattle.model.specs.Grounds.{grounds_length, Explaining}
use Rattle.model.specs.Grounds.{Explained, grounds_rows}
use Rattle.model.specs.Laws.Rows.{TableOf}
use Rattle.model.specs.Laws.Refusal.{Untouched}
use Rattle.model.specs.Laws.Second.{Room, AcceptableWith}

-- each number exactly when its row decides
abbrev pub GroundsTable : Explaining → Explained → Type 0
GroundsTable e x = TableOf (grounds_rows e) x.run.number

abbrev pub GroundsRoom : Explaining → Type 0
GroundsRoom e = Room e.run grounds_length (length e.grounds)

abbrev pub GroundsAcceptable : Explaining → Type 0
GroundsAcceptable e = AcceptableWith e.run grounds_length (length e.grounds)

pub record Untold (e : Explaining) (x : Explained) : Type 0 where
  pub run : Untouched e.run x.run
  pub grounds : x.grounds ≡ e.grounds
