-- A read puts what it took behind what stands there.
use Rattle.bench.proofs.Written.{read_within, read_more}
use Rattle.bench.proofs.read_full.Goals as goal

pub loop-done-preserved : goal.loop-done-preserved
loop-done-preserved g c =
    let front = c.loop-done.invariant.0 in
    let whole = c.read.auto.buf in
    let taken = c.in_ok-n.ensures in (
      read_within c.loop-done.buffer c.read.new.buf c.loop-done.done c.in_ok-n.n front whole taken.bound.0,
      read_more c.loop-done.buffer c.read.new.buf c.loop-done.done c.in_ok-n.n front whole taken.bound.0 _ _ _
          c.loop-done.invariant.1 taken.bytes.0,
    )
