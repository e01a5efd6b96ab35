-- What the code carries from step to step, in place of the clock: where the buffer's first halfword stands or comes to stand, and
-- where a data access goes on from the previous one. These are the code's own terms; that they follow the clock is shown in
-- Follows.antt.
use Rattle.std.specs.Prelude.{◌≡◌, ℕ, zero, suc, ◌+◌, ◌-◌, ◌*◌, ◌/◌, ◌%◌, ◌^◌, ◌≤◌, Bool, false, not, ◌&&◌, List, [], ◌∷◌, ◌++◌, length, ◌==◌, nat_eq, nat_lt}
use Rattle.std.specs.Prelude.{if◌then◌else◌, Option, Some, None}
use Rattle.model.specs.Base.{byte_at, further, lowered}
use Rattle.model.specs.Region.{page, decode}
use Rattle.model.specs.Wait.{size_bytes_of, aligned, in_window, force_nonseq}
use Rattle.model.specs.Timing.{code_size}
use Rattle.model.specs.Price.{bus_kind}
use Rattle.model.specs.BoardBytes.{answer_length}
use Rattle.model.specs.Grounds.{fetch_grounds, data_grounds_on, beat_bytes}
use Rattle.model.specs.declared.Ground.{Ground}
use Rattle.model.specs.declared.Ground.TheVariants.{Sequential, ByBlock, ByAddress}
use Rattle.model.specs.declared.Clock.{Clock}
use Rattle.model.specs.declared.AccessSize.{AccessSize}
use Rattle.model.specs.declared.AccessSize.TheVariants.{Word}
use Rattle.model.specs.declared.IsaState.{IsaState}
use Rattle.model.specs.declared.Step.{Step}
use Rattle.model.specs.declared.Step.TheVariants.{Read, Write, Waitcnt, Idle, Fetch, Restart, Instruction, Pc, Latch}
use Rattle.model.specs.declared.Step.TheVariants.{BlockRead, BlockWrite}
use Rattle.grounds.specs.declared.Beats.{Beats}
use Rattle.grounds.specs.declared.Trail.{Trail}
use Rattle.grounds.specs.declared.Before.{Before}

-- ---- beats

-- the grounds of beats; the second is there or not
abbrev pub if_any : Option Ground → List Ground
if_any (Some g) = g ∷ []
if_any None = []

abbrev pub grounds_of : Beats → List Ground
grounds_of b = b.first ∷ if_any b.second

-- the 32 bytes of a step with at most two beats
abbrev pub beats_of : Beats → List ℕ
beats_of b = beat_bytes (grounds_of b)

-- ---- the trail

abbrev pub trail : ℕ → Option ℕ → Trail
trail front next = record { front = front; next = next }

-- no address
abbrev pub nowhere : Option ℕ
nowhere = None

unfoldable pub begins : Clock → Trail
begins c =
    trail (if nat_eq c.prefetch.count 0 then c.prefetch.next_addr else c.prefetch.head_addr)
    (if nat_eq c.previous.size 0 then nowhere else Some (further c.previous.size c.previous.addr))

-- the answers of the first k steps stand
pub record Reaches (k : ℕ) (answers : List ℕ) : Type 0 where
  pub long : answer_length * k ≤ length answers
  pub small : k ≤ 0xFFFF

-- the prefetch count and the force flag before step k: those of the clock that the run began with, or of the answer before
unfoldable pub before_step : Clock → List ℕ → ℕ → Before
before_step c answers k =
    if k == 0 then record { count = c.prefetch.count % 256; forced = c.force_next_fetch_n }
    else
    record {
      count = byte_at answers (answer_length * k - answer_length + 9);
      forced = (byte_at answers (answer_length * k - answer_length + 10) == 1);
    }

-- ---- an instruction

abbrev pub front_hits : ℕ → ℕ → ℕ → Bool
front_hits front count a = not (count == 0) && lowered 2 a == front

unfoldable pub code_front : ℕ → IsaState → ℕ → ℕ
code_front front isa a = if in_window a then lowered 2 (further (size_bytes_of (code_size isa)) a) else front

-- ---- a data access

-- an access goes on at the address `n`
abbrev pub goes_on_at : Option ℕ → ℕ → Bool
goes_on_at (Some next) n = n == next
goes_on_at None n = false

-- the first beat from ROM at the lowered address `n`, where an access goes on at `next`
unfoldable pub ground_at : Option ℕ → ℕ → Ground
ground_at next n = if force_nonseq n then ByBlock else if goes_on_at next n then Sequential else ByAddress

-- the grounds of an access, and where the next one goes on
abbrev pub data_from : Option ℕ → AccessSize → ℕ → List Ground
data_from next z a = data_grounds_on z (ground_at next (aligned z a)) (bus_kind (decode a))

abbrev pub data_next : AccessSize → ℕ → ℕ
data_next z a = further (size_bytes_of z) (aligned z a)

-- of the words of a block, each behind the one before it
abbrev pub block_from : Option ℕ → ℕ → ℕ → List Ground
block_from next a zero = []
block_from next a (suc n) = data_from next Word a ++ block_from (Some (data_next Word a)) (further 4 a) n

abbrev pub block_next : Option ℕ → ℕ → ℕ → Option ℕ
block_next next a zero = next
block_next next a (suc n) = block_next (Some (data_next Word a)) (further 4 a) n

-- what is told of a block, and where an access goes on behind it
pub record TellsBlock (next : Option ℕ) (a n : ℕ) (out : List ℕ) (behind : Option ℕ) : Type 0 where
  pub told : out ≡ beat_bytes (block_from next a n)
  pub goes_on : behind ≡ block_next next a n

-- the digit of an address's page (Pages.antt)
unfoldable pub page_digit : ℕ → ℕ → ℕ
page_digit digits a = if nat_lt (page a) 16 then digits / 2 ^ (4 * page a) % 16 else digits / 2 ^ (4 * 0) % 16

-- ---- a step

-- what is told of it
abbrev pub beats_by : Step → Trail → Before → List ℕ
beats_by (Read z a) t b = beat_bytes (data_from t.next z a)
beats_by (Write z a v) t b = beat_bytes (data_from t.next z a)
beats_by (Waitcnt v) t b = beat_bytes []
beats_by (Idle n) t b = beat_bytes []
beats_by (Fetch a) t b = beat_bytes []
beats_by (Restart a) t b = beat_bytes []
beats_by (Instruction v isa a op jump) t b = beat_bytes (fetch_grounds (front_hits t.front b.count) b.forced isa a)
beats_by (Pc a) t b = beat_bytes []
beats_by (Latch v) t b = beat_bytes []
beats_by (BlockRead a n) t b = beat_bytes (block_from t.next a n)
beats_by (BlockWrite a n) t b = beat_bytes (block_from t.next a n)

-- the trail behind a step that has no grounds, and whose hits byte is `taken`
abbrev pub passes : Step → Trail → ℕ → Trail
passes (Read z a) t taken = t
passes (Write z a v) t taken = t
passes (Waitcnt v) t taken = trail t.front nowhere
passes (Idle n) t taken = t
passes (Fetch a) t taken = trail (further (2 * taken) t.front) nowhere
passes (Restart a) t taken = trail (lowered 2 a) nowhere
passes (Instruction v isa a op jump) t taken = t
passes (Pc a) t taken = t
passes (Latch v) t taken = t
passes (BlockRead a n) t taken = t
passes (BlockWrite a n) t taken = t

-- and behind any
abbrev pub trail_after : Step → Trail → ℕ → Trail
trail_after (Read z a) t taken = trail t.front (Some (data_next z a))
trail_after (Write z a v) t taken = trail t.front (Some (data_next z a))
trail_after (Waitcnt v) t taken = passes (Waitcnt v) t taken
trail_after (Idle n) t taken = passes (Idle n) t taken
trail_after (Fetch a) t taken = passes (Fetch a) t taken
trail_after (Restart a) t taken = passes (Restart a) t taken
trail_after (Instruction v isa a op jump) t taken = trail (code_front t.front isa a) nowhere
trail_after (Pc a) t taken = passes (Pc a) t taken
trail_after (Latch v) t taken = passes (Latch v) t taken
trail_after (BlockRead a n) t taken = trail t.front (block_next t.next a n)
trail_after (BlockWrite a n) t taken = trail t.front (block_next t.next a n)

-- what is told of a step, and the trail behind it
pub record Tells (t : Trail) (b : Before) (x : Step) (taken : ℕ) (out : List ℕ) (after : Trail) : Type 0 where
  pub told : out ≡ beats_by x t b
  pub followed : after ≡ trail_after x t taken
