-- What is promised of a run. The contract of `bts_run` says of a call that was lent `i` and left `o` that `o ≡ outcome i`; each
-- statement here is of any such call.
use Rattle.std.specs.Prelude.{◌≡◌, ◌≢◌, true, ◌||◌, List, ℕ, zero, suc, ◌+◌, ◌*◌, ◌≤◌, ◌<◌, length, eqb, ltb}
use Rattle.std.specs.Prelude.{if◌then◌else◌}
use Rattle.model.specs.Base.{Exactly, bit, lowered, byte_at, number}
use Rattle.model.specs.Sheet.{max_records, record_at, record_count, step_of}
use Rattle.model.specs.BoardBytes.{sound}
use Rattle.model.specs.Outcome.{Lent, LentBytes, Outcome, outcome}
use Rattle.model.specs.Alike.{AlikeSheets, AlikeBoards, state_at, Accounts, Demand3}
use Rattle.model.specs.Laws.Refusal.{Table, Index, LowerOfTwo, Acceptable, Untouched}
use Rattle.model.specs.Video.{fills}
use Rattle.model.specs.Store.{mode_of, puts_at, puts}
use Rattle.model.specs.Laws.Landed.{places_of}
use Rattle.model.specs.Laws.Told.{hits_byte, Told}
use Rattle.model.specs.declared.AccessSize.{AccessSize}
use Rattle.model.specs.declared.AccessSize.TheVariants.{Byte}
use Rattle.model.specs.declared.Lengths.{Lengths}
use Rattle.model.specs.declared.Part.{Part}
use Rattle.model.specs.declared.VideoMemory.{VideoMemory}
use Rattle.model.specs.declared.Target.TheVariants.{Video}
use Rattle.model.specs.declared.Step.TheVariants.{Write}

-- ---- total and safe: what it is refused with, and what it leaves

-- each number from 1 to 7 exactly when its row of the table holds and no earlier one does, and 0 exactly when none does
unfoldable pub EachNumber : Type 0
EachNumber = (i : Lent) (o : Outcome) → o ≡ outcome i → Table i o

-- and no other number
unfoldable pub NoOtherNumber : Type 0
NoOtherNumber = (i : Lent) (o : Outcome) → o ≡ outcome i → o.number ≤ 7

-- number 0 exactly when no condition of the table holds
unfoldable pub AcceptedExactly : Type 0
AcceptedExactly = (i : Lent) (o : Outcome) → o ≡ outcome i → Exactly (o.number ≡ 0) (Acceptable i)

-- the index: 0 for 1 to 6, the first faulty record for 7, the number of records for 0
unfoldable pub IndexTold : Type 0
IndexTold = (i : Lent) (o : Outcome) → o ≡ outcome i → Index i.sheet o.number o.index

-- the record that 7 names is the lower of two, the first with a fault of kind or size and the first with one of the other
-- fields
unfoldable pub FirstOfTwo : Type 0
FirstOfTwo = (i : Lent) (o : Outcome) → o ≡ outcome i → o.number ≡ 7 → LowerOfTwo i.sheet o.index

-- the index fits its 32 bits
unfoldable pub SmallIndex : Type 0
SmallIndex = (i : Lent) (o : Outcome) → o ≡ outcome i → o.index ≤ max_records

-- a refusal gives total 0 and changes no byte
unfoldable pub RefusedUntouched : Type 0
RefusedUntouched = (i : Lent) (o : Outcome) → o ≡ outcome i → o.number ≢ 0 → Untouched i o

-- an accepted run over bytes leaves a sound board
unfoldable pub SoundLeft : Type 0
SoundLeft = (i : Lent) (o : Outcome) → o ≡ outcome i → LentBytes i → o.number ≡ 0 → sound o.board ≡ true

-- its total is at most 4096 · (2^32 - 1), far from 64 bits
unfoldable pub SmallTotal : Type 0
SmallTotal = (i : Lent) (o : Outcome) → o ≡ outcome i → LentBytes i → o.number ≡ 0 → o.total ≤ max_records * 0xFFFF_FFFF

-- ---- the same for every memory

-- two sheets are alike: they agree in bytes 0 to 7 and, record by record, in kind, size, flag and address, and, but for WRITE (2)
-- and LATCH (9), in value
pub record SheetsAlike (s t : List ℕ) : Type 0 where
  pub header : (i : ℕ) → i < 8 → byte_at s i ≡ byte_at t i
  pub kinds : (k : ℕ) → k < record_count s → byte_at s (8 + 12 * k) ≡ byte_at t (8 + 12 * k)
  pub sizes : (k : ℕ) → k < record_count s → byte_at s (8 + 12 * k + 1) ≡ byte_at t (8 + 12 * k + 1)
  pub flags : (k : ℕ) → k < record_count s → byte_at s (8 + 12 * k + 2) ≡ byte_at t (8 + 12 * k + 2)
  pub addresses : (k : ℕ) → k < record_count s → number 4 s (8 + 12 * k + 4) ≡ number 4 t (8 + 12 * k + 4)
  pub values : (k : ℕ) → k < record_count s → byte_at s (8 + 12 * k) ≢ 2 → byte_at s (8 + 12 * k) ≢ 9
      → number 4 s (8 + 12 * k + 8) ≡ number 4 t (8 + 12 * k + 8)

-- two boards are alike: they agree outside bytes 20 to 35, the halfwords, and 40 to 67, the latch and the counters
abbrev pub BoardsAlike : List ℕ → List ℕ → Type 0
BoardsAlike b c = (i : ℕ) → i < 80 → ¬ ((20 ≤ i) × (i ≤ 35)) → ¬ ((40 ≤ i) × (i ≤ 67)) → byte_at b i ≡ byte_at c i

-- the figures that two runs agree in: of each step the cycles, the hits, but of a WRITE (2) and a BLOCK WRITE (11), whose hits
-- are the bytes that land, the prefetch count and the force flag; and the total
pub record FiguresAgree (sheet : List ℕ) (o p : Outcome) : Type 0 where
  pub cycles : (k : ℕ) → k < record_count sheet → number 4 o.answers (12 * k + 4) ≡ number 4 p.answers (12 * k + 4)
  pub hits : (k : ℕ) → k < record_count sheet → byte_at sheet (8 + 12 * k) ≢ 2 → byte_at sheet (8 + 12 * k) ≢ 11
      → byte_at o.answers (12 * k + 8) ≡ byte_at p.answers (12 * k + 8)
  pub count : (k : ℕ) → k < record_count sheet → byte_at o.answers (12 * k + 9) ≡ byte_at p.answers (12 * k + 9)
  pub force : (k : ℕ) → k < record_count sheet → byte_at o.answers (12 * k + 10) ≡ byte_at p.answers (12 * k + 10)
  pub total : o.total ≡ p.total

-- in bytes and numbers alone: any two accepted runs whose sheets and first boards are alike, whatever memories they are lent,
-- agree in these figures
unfoldable pub SameFigures : Type 0
SameFigures =
    (i j : Lent) (o p : Outcome) → o ≡ outcome i → p ≡ outcome j → o.number ≡ 0 → p.number ≡ 0
    → SheetsAlike i.sheet j.sheet → BoardsAlike i.board j.board → FiguresAgree i.sheet o p

-- an accepted run by itself: each answer as the definitions have it, the total as the sum of their cycles, and the limits
unfoldable pub Accounted : Type 0
Accounted = (i : Lent) (o : Outcome) → o ≡ outcome i → o.number ≡ 0 → Accounts i o

-- what the records of a sheet come to, from number k on: `f` of the kind and the value of each of n
abbrev pub added : (ℕ → ℕ → ℕ) → List ℕ → ℕ → ℕ → ℕ
added f s k zero = 0
added f s k (suc n) = f (byte_at s (8 + 12 * k)) (number 4 s (8 + 12 * k + 8)) + added f s (k + 1) n

-- of all its records
abbrev pub in_all : (ℕ → ℕ → ℕ) → List ℕ → ℕ
in_all f s = added f s 0 (record_count s)

-- I: an INSTRUCTION (7) is one
abbrev pub instruction_count : ℕ → ℕ → ℕ
instruction_count kind value = if eqb kind 7 then 1 else 0

-- A: a READ (1) and a WRITE (2) are one, and a BLOCK READ (10) and a BLOCK WRITE (11) as many as their value says
abbrev pub access_count : ℕ → ℕ → ℕ
access_count kind value = if eqb kind 10 || eqb kind 11 then value else if eqb kind 1 || eqb kind 2 then 1 else 0

-- D: an IDLE (4) is its value
abbrev pub idle_count : ℕ → ℕ → ℕ
idle_count kind value = if eqb kind 4 then value else 0

-- I + A + D ≤ total ≤ 19 I + 18 A + D
pub record WithinLimits (s : List ℕ) (total : ℕ) : Type 0 where
  pub least : in_all instruction_count s + in_all access_count s + in_all idle_count s ≤ total
  pub most : total ≤ 19 * in_all instruction_count s + 18 * in_all access_count s + in_all idle_count s

-- the limits of an accepted run's total, in bytes and numbers alone
unfoldable pub TotalWithin : Type 0
TotalWithin = (i : Lent) (o : Outcome) → o ≡ outcome i → o.number ≡ 0 → WithinLimits i.sheet o.total

-- the whole of it, in the model's words: this of every byte that is compared, and what each run has by itself
unfoldable pub WholeDemand3 : Type 0
WholeDemand3 =
    (i j : Lent) (o p : Outcome) → o ≡ outcome i → p ≡ outcome j → o.number ≡ 0 → p.number ≡ 0
    → AlikeSheets i.sheet j.sheet → AlikeBoards i.board j.board → Demand3 i j o p

-- ---- whether a store landed

-- byte 8 of a WRITE's answer is the number of memory bytes that its store wrote: each at a place of its own, which holds
-- afterwards what was stored there, and no other byte changes
unfoldable pub LandedTold : Type 0
LandedTold =
    (i : Lent) (o : Outcome) → o ≡ outcome i → o.number ≡ 0 → (k : ℕ) → k < record_count i.sheet
    → (z : AccessSize) (a v : ℕ) → step_of (record_at i.sheet k) ≡ Write z a v → Told i o k z a v

-- of two runs: with equal lengths, in one display mode, a WRITE of any two values at one address tells one number
unfoldable pub LandedAlike : Type 0
LandedAlike =
    (i j : Lent) (o p : Outcome) → o ≡ outcome i → p ≡ outcome j → o.number ≡ 0 → p.number ≡ 0
    → (k : ℕ) → k < record_count i.sheet → k < record_count j.sheet
    → (z : AccessSize) (a v u : ℕ) → step_of (record_at i.sheet k) ≡ Write z a v → step_of (record_at j.sheet k) ≡ Write z a u
    → i.lengths ≡ j.lengths → mode_of i.lengths (state_at i k).store ≡ mode_of j.lengths (state_at j k).store
    → hits_byte o k ≡ hits_byte p k

-- which bytes land, and so how many, is the same for every stored value
unfoldable pub SamePlaces : Type 0
SamePlaces =
    (l : Lengths) (mode : ℕ) (z : AccessSize) (a v u : ℕ) → places_of (puts l mode z a v) ≡ places_of (puts l mode z a u)

-- of an expanded video byte each of the two bytes counts that lies within the memory
unfoldable pub ExpandedByte : Type 0
ExpandedByte =
    (mode a v : ℕ) (m : VideoMemory) (p : Part) (i : ℕ) → fills mode m i ≡ true
    → length (puts_at mode Byte a v (Video m p i)) ≡ bit (ltb (lowered 2 i) p.size) + bit (ltb (lowered 2 i + 1) p.size)
