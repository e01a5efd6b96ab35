-- A block stands for its words: what it leaves, costs, answers and tells is what its words do as READ 4 or WRITE 4 steps of their
-- own, one after the other.
use Rattle.std.specs.Prelude.{◌≡◌, Bool, true, false, ◌||◌}
use Rattle.std.proofs.Math.Path.{refl, ap, ap₂}
use Rattle.std.proofs.lemmas.Bool.{false≢true}
use Rattle.std.proofs.Common.{sym, ◌∙◌, arith}
use mathlib.Core.List.{List, ◌++◌}
use Prim.Native.Nat.{ℕ, zero, suc, ◌+◌, ◌≤◌}
use Rattle.std.proofs.Math.ListN.{length-append}
use Rattle.model.specs.Base.{sum, further}
use Rattle.model.specs.Prefetch.{ticks, filled}
use Rattle.model.specs.Price.{previous, block_cycles_of}
use Rattle.model.specs.Store.{landed}
use Rattle.model.specs.Step.{Media, State, bus_of, stores, block_stores, timed, block_timed, stepped, answer, run, total, cycles_in, clock_after}
use Rattle.model.specs.Load.{last_word_of}
use Rattle.model.specs.Wait.{aligned}
use Rattle.model.specs.Sheet.{is_block, max_words, words_of, step_of}
use Rattle.model.specs.Grounds.{grounds, grounds_after}
use Rattle.model.proofs.Laws.Stores.{landed_append}
use Rattle.model.proofs.Laws.Bounds.{block_between}
use Rattle.model.proofs.Laws.Kinds.{by_kind}
use Rattle.model.proofs.Laws.Limits.{words_between}
use Rattle.model.specs.Laws.Times.{SameTimes}
use Rattle.model.proofs.Laws.Times.{previews_alike, grounds_alike, run_total}
use Rattle.model.specs.declared.Answer.{Answer}
use Rattle.model.specs.declared.Clock.{Clock}
use Rattle.model.specs.declared.Ground.{Ground}
use Rattle.model.specs.declared.AccessSize.TheVariants.{Word}
use Rattle.model.specs.declared.SheetRecord.{SheetRecord}
use Rattle.model.specs.declared.Step.{Step}
use Rattle.model.specs.declared.Step.TheVariants.{Read, Write, BlockRead, BlockWrite}
use Rattle.model.specs.Laws.Blocks.{read_words, write_words, hits_sum, last_value, joined_grounds, StandsFor, Both}

-- ---- a BLOCK READ

module _ (m : Media) where
  read_state : (s : State) (a n : ℕ) → stepped m s (BlockRead a n) ≡ (run m s (read_words a n)).state
  unfolding run ticks filled
  read_state s a zero = refl
  read_state s a (suc n) = read_state (stepped m s (Read Word a)) (further 4 a) n

  read_cycles : (s : State) (a n : ℕ)
      → block_cycles_of s.board.clock.waitcnt (previous s.board.clock) a n ≡ total (run m s (read_words a n))
  unfolding run
  read_cycles s a zero = refl
  read_cycles s a (suc n) =
      ap (λ (k : ℕ). (answer m s (Read Word a)).cycles + k) (read_cycles (stepped m s (Read Word a)) (further 4 a) n)

  read_hits : (s : State) (a n : ℕ) → 0 ≡ hits_sum (run m s (read_words a n)).answers
  unfolding run
  read_hits s a zero = refl
  read_hits s a (suc n) = omega (arith, read_hits (stepped m s (Read Word a)) (further 4 a) n)

  -- a load changes nothing that a load sees
  read_value : (s : State) (v a n : ℕ)
      → last_word_of m.lengths (bus_of m s) v a n ≡ last_value v (run m s (read_words a n)).answers
  unfolding run
  read_value s v a zero = refl
  read_value s v a (suc n) = read_value (stepped m s (Read Word a)) _ (further 4 a) n

read_names : (c : Clock) (a n : ℕ) → grounds c (BlockRead a n) ≡ joined_grounds (grounds_after c (read_words a n))
unfolding grounds_after ticks
read_names c a zero = refl
read_names c a (suc n) =
    ap (λ (gs : List Ground). grounds c (Read Word a) ++ gs) (read_names (clock_after c (Read Word a)) (further 4 a) n)

pub read_stands : (m : Media) (s : State) (a n : ℕ) → StandsFor m s (BlockRead a n) (read_words a n)
read_stands m s a n =
    record {
      state = read_state m s a n;
      cycles = read_cycles m s a n;
      hits = read_hits m s a n;
      value = read_value m s 0 a n;
      names = read_names s.board.clock a n;
    }

-- ---- a BLOCK WRITE

-- its words take the time of those that are read
same_words : (a n : ℕ) → SameTimes (write_words a n) (read_words a n)
same_words a zero = tt
same_words a (suc n) = ((λ c. refl), same_words (further 4 a) n)

write_names : (c : Clock) (a n : ℕ) → grounds c (BlockWrite a n) ≡ joined_grounds (grounds_after c (write_words a n))
write_names c a n =
    read_names c a n ∙ ap joined_grounds (sym (grounds_alike c (write_words a n) (read_words a n) (same_words a n)))

module _ (m : Media) where
  write_cycles : (s : State) (a n : ℕ)
      → block_cycles_of s.board.clock.waitcnt (previous s.board.clock) a n ≡ total (run m s (write_words a n))
  write_cycles s a n =
      let same = previews_alike s.board.clock (write_words a n) (read_words a n) (same_words a n) in
      read_cycles m s a n
      ∙ run_total m s (read_words a n)
      ∙ sym (run_total m s (write_words a n) ∙ ap (λ (ys : List Answer). sum (cycles_in ys)) same)

  write_state : (s : State) (a n : ℕ) → stepped m s (BlockWrite a n) ≡ (run m s (write_words a n)).state
  unfolding run ticks filled
  write_state s a zero = refl
  write_state s a (suc n) =
      let word = stores m.lengths s.board.contents s.store Word a 0 in
      let next = landed s.store word.puts in
      let rest = block_stores m.lengths word.contents next (further 4 a) n in
      ap (λ (l : List ℕ). record { board = (stepped m s (BlockWrite a (suc n))).board; store = l })
      (landed_append s.store word.puts rest.puts)
      ∙ write_state (stepped m s (Write Word a 0)) (further 4 a) n

  write_hits : (s : State) (a n : ℕ) → (answer m s (BlockWrite a n)).hits ≡ hits_sum (run m s (write_words a n)).answers
  unfolding run
  write_hits s a zero = refl
  write_hits s a (suc n) =
      let word = stores m.lengths s.board.contents s.store Word a 0 in
      let next = landed s.store word.puts in
      let rest = block_stores m.lengths word.contents next (further 4 a) n in
      omega (arith, length-append word.puts rest.puts, write_hits (stepped m s (Write Word a 0)) (further 4 a) n)

  -- it answers nothing, as they do
  no_value : (s : State) (a n : ℕ) → 0 ≡ last_value 0 (run m s (write_words a n)).answers
  unfolding run
  no_value s a zero = refl
  no_value s a (suc n) = no_value (stepped m s (Write Word a 0)) (further 4 a) n

  write_value : (s : State) (a n : ℕ) → (answer m s (BlockWrite a n)).value ≡ last_value 0 (run m s (write_words a n)).answers
  write_value s a zero = no_value s a zero
  write_value s a (suc n) = no_value s a (suc n)

pub write_stands : (m : Media) (s : State) (a n : ℕ) → StandsFor m s (BlockWrite a n) (write_words a n)
write_stands m s a n =
    record {
      state = write_state m s a n;
      cycles = write_cycles m s a n;
      hits = write_hits m s a n;
      value = write_value m s a n;
      names = write_names s.board.clock a n;
    }

-- ---- a block costs at most 288 cycles, whether it reads or writes

dearest : (c : Clock) (a n : ℕ) → n ≤ max_words → (block_timed c a n).cycles ≤ 288
dearest c a n h = omega (arith, block_between c.waitcnt (previous c) a n)

pub dearest_block : (c : Clock) (a n : ℕ) → n ≤ max_words → Both (λ (x : Step). (timed c x).cycles ≤ 288) a n
dearest_block c a n h = record { reading = dearest c a n h; writing = dearest c a n h }

-- so does that of any record
pub dearest_record : (c : Clock) (r : SheetRecord) → is_block r.kind ≡ true → (timed c (step_of r)).cycles ≤ 288
dearest_record c r =
    by_kind (λ (k : ℕ) (x : Step). is_block k ≡ true → (timed c x).cycles ≤ 288) r
    no no no no no no no no (λ e. most) (λ e. most)
    (λ o e. absurd (false≢true (sym (ap₂ (λ (t u : Bool). t || u) o.block_read o.block_write) ∙ e)))
  where
    no : {A : Type 0} → false ≡ true → A
    no e = absurd (false≢true e)

    most : (block_timed c (aligned Word r.address) (words_of r.value)).cycles ≤ 288
    most = dearest c (aligned Word r.address) (words_of r.value) (words_between r.value).most
