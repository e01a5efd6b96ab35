-- What of a space a case uses: its first bytes. Assumes nothing.
use Rattle.std.specs.Prelude.{List, ℕ, take}
use Rattle.replay.specs.declared.space.Space.{Space}

abbrev pub in_use : {N : ℕ} → Space N → List ℕ
in_use s = take s.len.n s.bytes
