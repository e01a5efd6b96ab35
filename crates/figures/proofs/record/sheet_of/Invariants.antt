-- The header stands, and the first k records.
use Rattle.figures.proofs.Sheet.{Begun}
use Rattle.figures.proofs.record.sheet_of.Given as goal

abbrev pub invariant-loop-k : goal.invariant-loop-k
invariant-loop-k g l = Begun l.records l.k l.bytes
