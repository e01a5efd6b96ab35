-- The lines so far are written, and the chunks that are left are those of the records behind them.
use Rattle.bench.proofs.Chunks.{Printed}
use Rattle.bench.proofs.print_answers.Given as goal

abbrev pub invariant-loop-k : goal.invariant-loop-k
invariant-loop-k g l =
    Printed (g.W.Write.contents l.fn.out) (g.W.Write.contents l.out) l.fn.answers l.fn.grounds l.n l.k-iterator
