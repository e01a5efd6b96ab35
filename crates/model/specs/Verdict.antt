-- The verdict on what is lent: accepted, or why it is refused. It is std's `Result<(), Refusal>`, whose two variants have the
-- words of docs/RULES.md here.
use Rattle.std.specs.Prelude.{Result, Ok, Err, ⊤}
use Rattle.model.specs.declared.Refusal.{Refusal}

abbrev pub Verdict : Type 0
Verdict = Result ⊤ Refusal

pattern abbrev pub Accepted : Verdict
Accepted = Ok tt

pattern abbrev pub Refused : Refusal → Verdict
Refused r = Err r
