-- Words of the laws in proofs/Laws/Told.antt, as definitions. Those laws:
-- Of bytes as lent: what byte 8 of a WRITE's or a BLOCK WRITE's answer tells of the store that the run leaves.
use Rattle.std.specs.Prelude.{◌≡◌, List, ℕ, suc, ◌+◌, ◌*◌, ◌%◌, ◌≤◌, length}
use Rattle.model.specs.Base.{byte_at}
use Rattle.model.specs.Memory.{lengths_sum}
use Rattle.model.specs.Store.{Put, landed, mode_of, puts}
use Rattle.model.specs.Step.{block_stores}
use Rattle.model.specs.Outcome.{Lent, Outcome}
use Rattle.model.specs.Alike.{state_at, answer_start}
use Rattle.model.specs.Laws.Landed.{Written, places_of}
use Rattle.model.specs.Laws.Stores.{Names}
use Rattle.model.specs.Laws.Choice.{All}
use Rattle.model.specs.declared.AccessSize.{AccessSize}
use Rattle.model.specs.declared.Step.{Step}
use Rattle.model.specs.declared.Step.TheVariants.{Read, Write, Waitcnt, Idle, Fetch, Restart, Instruction, Pc, Latch}
use Rattle.model.specs.declared.Step.TheVariants.{BlockRead, BlockWrite}

-- the bytes that a WRITE of step k lands, in the display mode of its moment
abbrev pub puts_of : Lent → ℕ → AccessSize → ℕ → ℕ → List Put
puts_of i k z a v = puts i.lengths (mode_of i.lengths (state_at i k).store) z a v

-- byte 8 of answer k
abbrev pub hits_byte : Outcome → ℕ → ℕ
hits_byte o k = byte_at o.answers (answer_start k + 8)

-- what it tells, where step k is a WRITE
pub record Told (i : Lent) (o : Outcome) (k : ℕ) (z : AccessSize) (a v : ℕ) : Type 0 where
  -- the step leaves the store with these bytes landed, each at a place of its own in the lent memories
  pub store : (state_at i (suc k)).store ≡ landed (state_at i k).store (puts_of i k z a v)
  pub places : Written (lengths_sum i.lengths) (puts_of i k z a v)
  -- afterwards each of these places holds what was stored there, and every other place has what it had
  pub holds : All (λ (p : Put). byte_at (state_at i (suc k)).store p.place ≡ p.byte) (puts_of i k z a v)
  pub others : (j : ℕ) → ¬ (Names j (puts_of i k z a v)) → byte_at (state_at i (suc k)).store j ≡ byte_at (state_at i k).store j
  -- and byte 8 is how many they are, 0 to 4
  pub number : hits_byte o k ≡ length (puts_of i k z a v)
  pub most : hits_byte o k ≤ 4
  -- 0: the store is as it was
  pub none : hits_byte o k ≡ 0 → (state_at i (suc k)).store ≡ (state_at i k).store

-- the bytes that a BLOCK WRITE of step k lands, word by word
abbrev pub block_puts : Lent → ℕ → ℕ → ℕ → List Put
block_puts i k a n = (block_stores i.lengths (state_at i k).board.contents (state_at i k).store a n).puts

-- a block begins at a multiple of 4
abbrev pub AtAWord : Step → Type 0
AtAWord (Read z a) = Unit {0}
AtAWord (Write z a v) = Unit {0}
AtAWord (Waitcnt v) = Unit {0}
AtAWord (Idle n) = Unit {0}
AtAWord (Fetch a) = Unit {0}
AtAWord (Restart a) = Unit {0}
AtAWord (Instruction v isa a op jump) = Unit {0}
AtAWord (Pc a) = Unit {0}
AtAWord (Latch v) = Unit {0}
AtAWord (BlockRead a n) = a % 4 ≡ 0
AtAWord (BlockWrite a n) = a % 4 ≡ 0

pub record BlockTold (i : Lent) (o : Outcome) (k a n : ℕ) : Type 0 where
  -- the step leaves the store with these bytes landed, each at a place of its own in the lent memories: no two words meet a byte
  pub store : (state_at i (suc k)).store ≡ landed (state_at i k).store (block_puts i k a n)
  pub places : Written (lengths_sum i.lengths) (block_puts i k a n)
  -- afterwards there is 0 at each of these places, and every other place has what it had
  pub zeros : All (λ (p : Put). byte_at (state_at i (suc k)).store p.place ≡ 0) (block_puts i k a n)
  pub others : (j : ℕ) → ¬ (Names j (block_puts i k a n)) → byte_at (state_at i (suc k)).store j ≡ byte_at (state_at i k).store j
  -- and byte 8 is how many they are, four a word at most, and 64 in all
  pub number : hits_byte o k ≡ length (block_puts i k a n)
  pub most : hits_byte o k ≤ 4 * n
  pub in_all : hits_byte o k ≤ 64
  -- 0: the store is as it was
  pub none : hits_byte o k ≡ 0 → (state_at i (suc k)).store ≡ (state_at i k).store

-- what one block tells twice, in two runs or in one: places and number
pub record SameBlock (i j : Lent) (o p : Outcome) (k h a n : ℕ) : Type 0 where
  pub places : places_of (block_puts i k a n) ≡ places_of (block_puts j h a n)
  pub number : hits_byte o k ≡ hits_byte p h
