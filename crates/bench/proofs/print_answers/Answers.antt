-- Each turn writes a line more.
use Rattle.bench.proofs.Chunks.{turn}
use Rattle.bench.proofs.print_answers.Goals as goal

pub loop-k-preserved : goal.loop-k-preserved
loop-k-preserved g c =
    turn _ _ _ _ _ _ _ _ _ c.in-Some.answer c.in-Some.grounds c.loop-k.invariant c.in-Some.ensures.steps
    c.in_ok-print_answer.ensures
