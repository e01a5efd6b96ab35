-- What was read is the input, or so much of it that the rest makes no difference.
use Rattle.std.proofs.Common.{arith}
use Rattle.bench.proofs.Priced.{priced}
use Rattle.bench.proofs.price.Goals as goal

pub returns-in-Ok-run_sheet : goal.returns-in-Ok-run_sheet
returns-in-Ok-run_sheet g c =
    priced _ _ _ _ c.read_full.new.buffer c.in-Ok-run_sheet.ending (omega (arith, c.read_full.auto.buffer)) c.in-Ok.ensures.bytes
    c.in-Ok-run_sheet.ensures.ending c.in-Ok-run_sheet.ensures.text
