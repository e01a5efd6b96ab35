-- no more cases agree than were done
use Rattle.std.proofs.Common.{◌≤◌}
use Rattle.replay.proofs.replay_all.Given as goal

abbrev pub invariant-loop-case : goal.invariant-loop-case
invariant-loop-case g l = l.agree ≤ l.case-counter
