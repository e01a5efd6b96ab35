-- What a call is told: the report or bill of an accepted one, and of a refused one that of its refusal.
use Rattle.std.specs.Prelude.{Result, Ok, Err, ℕ, ◌%◌, ◌^◌}
use Rattle.model.specs.Outcome.{refusal_number, refusal_index}
use Rattle.model.specs.declared.Refusal.{Refusal}
use Rattle.bts.specs.declared.Report.{Report}
use Rattle.bts.specs.declared.Bill.{Bill}

-- a refusal's number, its index as 32 bits hold it, and no total; of a refused call that is the index itself, which is at most
-- 4,096 (`index_small` and its three kin, in examine's Verdicts)
abbrev pub report_of_refusal : Refusal → Report
report_of_refusal q = record { number = refusal_number q; index = refusal_index q % 2 ^ 32; total = 0 }

-- a report with a charge
abbrev pub bill_for : Report → ℕ → Bill
bill_for r charge = record { number = r.number; index = r.index; total = r.total; charge = charge }

-- nor a charge
abbrev pub bill_of_refusal : Refusal → Bill
bill_of_refusal q = bill_for (report_of_refusal q) 0

-- by what is made of a refusal
abbrev pub told : {T : Type 0} → (Refusal → T) → Result T Refusal → T
told refused (Ok x) = x
told refused (Err q) = refused q
