-- The names of the grounds are short, and stand in as many bytes as the longest has.
use Rattle.std.specs.Prelude.{List, ℕ, ◌-◌, ◌≤◌, ◌++◌, length, replicate}
use Rattle.std.proofs.Common.{arith}
use Rattle.model.specs.Grounds.{ground_name}
use Rattle.model.specs.declared.Ground.{Ground}
use Rattle.model.specs.declared.Ground.TheVariants.{BufferHit, Sequential, ByFlag, ByBlock, ByAddress}
use Rattle.model.specs.declared.Ground.TheVariants.{EwramBus, SramBus, VideoBus, Fast}

-- the longest name
abbrev pub name_length : ℕ
name_length = 7

pub name_fits : (g : Ground) → length (ground_name g) ≤ name_length
name_fits BufferHit = omega arith
name_fits Sequential = omega arith
name_fits ByFlag = omega arith
name_fits ByBlock = omega arith
name_fits ByAddress = omega arith
name_fits EwramBus = omega arith
name_fits SramBus = omega arith
name_fits VideoBus = omega arith
name_fits Fast = omega arith

-- a name in a field of that length, with zeros behind it
abbrev pub named : Ground → List ℕ
named g = ground_name g ++ replicate (name_length - length (ground_name g)) 0

-- its letters are there
pub named_fits : (g : Ground) → length (ground_name g) ≤ length (named g)
named_fits BufferHit = omega arith
named_fits Sequential = omega arith
named_fits ByFlag = omega arith
named_fits ByBlock = omega arith
named_fits ByAddress = omega arith
named_fits EwramBus = omega arith
named_fits SramBus = omega arith
named_fits VideoBus = omega arith
named_fits Fast = omega arith
