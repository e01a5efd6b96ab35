-- What a buffer of a recorded case holds before the run. From tests/against-rust/README.md, "The sample". Assumes nothing.
use Rattle.std.specs.Prelude.{◌≡◌, List, ℕ, ◌+◌, ◌*◌, ◌/◌, ◌%◌, ◌<◌, length, get_or}
use Rattle.replay.specs.declared.pattern.Buffer.{Buffer}
use Rattle.replay.specs.declared.pattern.Buffer.TheVariants.{Store, Bios, Rom, Answers, Second}

-- byte i of the buffer with this tag, in a case with this seed
abbrev pub pattern_byte : ℕ → ℕ → ℕ → ℕ
pattern_byte seed tag i = (i * 31 + i / 256 * 17 + seed * 13 + tag * 101) % 251

-- the tags
abbrev pub tag_of : Buffer → ℕ
tag_of Store = 1
tag_of Bios = 2
tag_of Rom = 3
tag_of Answers = 4
tag_of Second = 5

-- a buffer of this length that is as it is before the run
abbrev pub IsFilled : List ℕ → ℕ → ℕ → Buffer → Type 0
IsFilled bytes n seed buffer =
    (length bytes ≡ n) × ((k : ℕ) → k < n → get_or bytes k 0 ≡ pattern_byte seed (tag_of buffer) k)
