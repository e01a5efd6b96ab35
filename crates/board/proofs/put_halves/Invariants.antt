-- The halfwords are written one behind the other.
use Rattle.std.proofs.Common.{◌*◌, take}
use Rattle.model.specs.Base.{numbers_bytes}
use Rattle.le.proofs.Written.{Begun}
use Rattle.board.proofs.put_halves.Given as goal

-- i halfwords are written
abbrev pub invariant-loop-i : goal.invariant-loop-i
invariant-loop-i l = Begun 16 l.out (2 * l.i) (numbers_bytes 2 (take l.i l.halves))
