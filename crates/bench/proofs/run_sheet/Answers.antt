-- What the run gave back is what the model explains of the sheet; so what is printed of it is the sheet's text.
use Rattle.std.proofs.Common.{arith, rules}
use Rattle.bench.proofs.SameText.{report_same, few, ending_same}
use Rattle.bench.proofs.run_sheet.Goals as goal

pub print_report-requires-clause-answered : goal.print_report-requires-clause-answered
print_report-requires-clause-answered g c =
    let call = rw c.fresh-board.ensures at c.bts_run_grounds-report.ensures in
    let room = few c.args.sheet.now (search rules) c.bts_run_grounds-report.result _ _ _ _ call in
    omega (arith, room, c.bts_run_grounds-report.auto.answers)

pub print_report-requires-clause-explained : goal.print_report-requires-clause-explained
print_report-requires-clause-explained g c =
    let call = rw c.fresh-board.ensures at c.bts_run_grounds-report.ensures in
    let room = few c.args.sheet.now (search rules) c.bts_run_grounds-report.result _ _ _ _ call in
    omega (arith, room, c.bts_run_grounds-report.auto.grounds)

pub returns-clause-text : goal.returns-clause-text
returns-clause-text g c =
    let call = rw c.fresh-board.ensures at c.bts_run_grounds-report.ensures in
    let same = report_same c.args.sheet.now (search rules) c.bts_run_grounds-report.result _ _ _ _ call in
    rw (← same) c.print_report.ensures.text

pub returns-clause-ending : goal.returns-clause-ending
returns-clause-ending g c =
    let call = rw c.fresh-board.ensures at c.bts_run_grounds-report.ensures in
    let same = ending_same c.args.sheet.now (search rules) c.bts_run_grounds-report.result _ _ _ _ call in
    rw (← same) c.print_report.ensures.ending
