-- The laws behind what is promised of a run under a tariff.
use Rattle.model.proofs.Laws.Billed as billed
use Rattle.model.proofs.Laws.Refusal.{faulty_lower}
use Rattle.model.proofs.Laws.Charge.{rounded_up}
use Rattle.examine.specs.Verdicts.{few_index}
use Rattle.promises.specs.Tariff.{BilledNumber, NoOtherBilled, BillAccepted, RateRefused, BilledIndex, SmallBilledIndex}
use Rattle.promises.specs.Tariff.{RefusedUnbilled, BilledRun, BilledFairly, SameBills}
use Rattle.promises.specs.Tariff.{BilledFirstOfTwo, ChargedUp}

pub tariff_table : BilledNumber
unfolding BilledNumber
tariff_table t b call = rw call (billed.tariff_table t)

pub tariff_refusals : NoOtherBilled
unfolding NoOtherBilled
tariff_refusals t b call = rw call (billed.eight_refusals t)

pub tariff_accepts : BillAccepted
unfolding BillAccepted
tariff_accepts t b call = rw call (billed.tariff_zero t)

pub refuses_rate : RateRefused
unfolding RateRefused
refuses_rate t b call = rw call (billed.bad_rate t)

pub tariff_index : BilledIndex
unfolding BilledIndex
tariff_index t b call = rw call (billed.tariff_index t)

pub tariff_first_of_two : BilledFirstOfTwo
unfolding BilledFirstOfTwo BilledIndex
tariff_first_of_two t b call h = faulty_lower t.run.sheet (tariff_index t b call) h

pub tariff_few_records : SmallBilledIndex
unfolding SmallBilledIndex
tariff_few_records t b call = rw call (few_index t.run.sheet (billed.tariff_table t) (billed.tariff_index t))

pub tariff_refuses : RefusedUnbilled
unfolding RefusedUnbilled
tariff_refuses t b call = rw call (billed.refused_unbilled t)

pub whole_run : BilledRun
unfolding BilledRun
whole_run t b call = rw call (billed.whole_run t)

pub charged_up : ChargedUp
unfolding ChargedUp
charged_up t b call ok = rw (billed.bills t b call ok).charged (rounded_up t.rate b.run.total)

pub bills : BilledFairly
unfolding BilledFairly
bills t b call = billed.bills t b call

pub same_bills : SameBills
unfolding SameBills
same_bills = billed.same_bill
