-- All that a run is lent, as the definitions have it, a run under a tariff, a run with grounds, and a preview.
use Rattle.std.specs.Prelude.{List, ℕ, Result, Ok, Err}
use Rattle.model.specs.Outcome as def
use Rattle.model.specs.Tariff.{Tariffed}
use Rattle.model.specs.Preview.{Asked}
use Rattle.model.specs.Grounds.{Explaining}
use Rattle.model.specs.declared.Lengths.{Lengths}
use Rattle.model.specs.declared.Refusal.{Refusal}
use Rattle.model.specs.Verdict.{Verdict, Accepted, Refused}
use Rattle.examine.specs.declared.Lent.{Lent}

abbrev pub lending : List ℕ → List ℕ → List ℕ → List ℕ → List ℕ → List ℕ → Lengths → def.Lent
lending sheet board store bios rom answers l =
    record { sheet = sheet; board = board; store = store; bios = bios; rom = rom; answers = answers; lengths = l }

-- what is read of it
abbrev pub lent : Lent → def.Lent
lent l = lending l.sheet.now l.board.now l.store.now l.bios.now l.rom.now l.answers.now l.lengths

abbrev pub tariffing : def.Lent → List ℕ → ℕ → Tariffed
tariffing i shares rate = record { run = i; shares = shares; rate = rate }

abbrev pub explaining : def.Lent → List ℕ → Explaining
explaining i grounds = record { run = i; grounds = grounds }

abbrev pub asking : List ℕ → List ℕ → List ℕ → Asked
asking sheet board answers = record { sheet = sheet; board = board; answers = answers }

-- the verdict alone, of an examination that hands on what it accepts
abbrev pub verdict_of : {T : Type 0} → Result T Refusal → Verdict
verdict_of (Ok x) = Accepted
verdict_of (Err q) = Refused q
