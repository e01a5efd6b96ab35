-- Each turn stores one byte, the lowest of what is left of the value.
use Rattle.std.proofs.Common.{◌+◌, ◌-◌}
use Rattle.parts.proofs.LentPart.{Storing}
use Rattle.parts.proofs.put_bytes.Given as goal

abbrev pub invariant-loop-k : goal.invariant-loop-k
invariant-loop-k g l =
    Storing g.row.N l.index l.value l.fn.memory l.memory (l.index + l.k) (g.row.N - l.k) l.rest l.stored
