-- What a case's run gives: of each operation, the model's function of all that was lent. Assumes nothing.
use Rattle.std.specs.Prelude.{◌≡◌}
use Rattle.model.specs.Outcome.{Lent, outcome}
use Rattle.model.specs.Tariff.{bill}
use Rattle.model.specs.Preview.{preview}
use Rattle.model.specs.Grounds.{explain}
use Rattle.bts.specs.Reported.{reported, reported_bill, reported_preview}
use Rattle.bts.specs.Explained.{reported_grounds}
use Rattle.bts.specs.declared.Report.{Report}
use Rattle.bts.specs.declared.Bill.{Bill}
use Rattle.model.specs.declared.Lengths.{Lengths}
use Rattle.replay.specs.Space.{in_use}
use Rattle.replay.specs.declared.buffers.Buffers.{Buffers}
use Rattle.replay.specs.declared.head.Head.{Head}
use Rattle.replay.specs.declared.head.Operation.{Operation}
use Rattle.replay.specs.declared.head.Operation.TheVariants.{Run, RunTariff, Preview, RunGrounds}

-- what a case lends to a run
abbrev pub lent_in_case : Lengths → Buffers → Lent
lent_in_case l b =
    record {
      sheet = in_use b.sheet;
      board = in_use b.board;
      store = in_use b.store;
      bios = in_use b.bios;
      rom = in_use b.rom;
      answers = in_use b.answers;
      lengths = l;
    }

-- a bill without its charge
abbrev pub uncharged : Bill → Report
uncharged r = record { number = r.number; index = r.index; total = r.total }

-- from the buffers before it, the bill that is told and the buffers after it
abbrev pub RanAs : Operation → Head → Buffers → Bill → Buffers → Type 0
RanAs Run h b r a =
    reported (uncharged r) (in_use a.board) (in_use a.store) (in_use a.answers) ≡ outcome (lent_in_case h.memories b)
RanAs RunTariff h b r a =
    reported_bill r (in_use a.board) (in_use a.store) (in_use a.answers) (in_use a.second)
    ≡ bill (record { run = lent_in_case h.memories b; shares = in_use b.second; rate = h.asked.rate })
RanAs Preview h b r a =
    reported_preview (uncharged r) (in_use a.sheet) (in_use a.board) (in_use a.answers)
    ≡ preview (record { sheet = in_use b.sheet; board = in_use b.board; answers = in_use b.answers })
RanAs RunGrounds h b r a =
    reported_grounds (uncharged r) (in_use a.board) (in_use a.store) (in_use a.answers) (in_use a.second)
    ≡ explain (record { run = lent_in_case h.memories b; grounds = in_use b.second })
