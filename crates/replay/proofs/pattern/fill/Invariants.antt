-- each byte passed is the pattern's
use Rattle.std.proofs.Common.{◌≡◌, ℕ, ◌<◌, get_or}
use Rattle.replay.specs.Pattern.{pattern_byte, tag_of}
use Rattle.replay.proofs.pattern.fill.Given as goal

abbrev pub invariant-loop-i : goal.invariant-loop-i
invariant-loop-i l = (k : ℕ) → k < l.i → get_or l.out k 0 ≡ pattern_byte l.seed (tag_of l.buffer) k
