-- The bytes come one after the other, and are too few for their number not to fit.
use Rattle.std.proofs.Common.{◌≡◌, refl, ◌+◌, ◌-◌, ◌<◌, add-zero, add_assoc, arith}
use Rattle.parts.proofs.LentPart.{begin_storing, turn_storing, storing_fits, end_storing}
use Rattle.parts.proofs.put_bytes.Goals as goal

pub loop-k-init : goal.loop-k-init
loop-k-init g c =
    let all : g.row.N - 0 ≡ g.row.N = omega arith in
    rw (all, add-zero) (begin_storing g.row.N c.args.index c.args.value c.args.memory.now refl)

pub then-stored-requires : goal.then-stored-requires
then-stored-requires g c = storing_fits c.requires.0 c.loop-k.invariant (omega arith) c.put.ensures

pub loop-k-preserved : goal.loop-k-preserved
loop-k-preserved g c =
    let some : 0 < g.row.N - c.loop-k.k = omega arith in
    let fewer : g.row.N - (c.loop-k.k + 1) ≡ g.row.N - c.loop-k.k - 1 = omega arith in
    rw (fewer, ← add_assoc) (turn_storing c.loop-k.invariant some c.put.ensures c.then-stored.ensures refl)

pub returns : goal.returns
returns g c = end_storing c.loop-k.invariant (omega arith)
