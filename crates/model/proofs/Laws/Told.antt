-- Of bytes as lent: what byte 8 of a WRITE's or a BLOCK WRITE's answer tells of the store that the run leaves.
use Rattle.std.specs.Prelude.{◌≡◌, refl, true, List, [], ◌∷◌, ℕ, suc, ◌*◌, ◌%◌, ◌≤◌, ◌<◌, length, take}
use Rattle.std.proofs.Common.{sym, ap₂, ◌∙◌, arith, zero-add, take-suc, eqb-true}
use Rattle.std.proofs.Math.Path.{ap}
use Rattle.std.proofs.Math.Nat.{mod-eq_of_lt}
use Rattle.model.specs.Base.{byte_at}
use Rattle.model.specs.Memory.{lengths_sum}
use Rattle.model.specs.Store.{Put, landed, mode_of, puts}
use Rattle.model.specs.Step.{State, run, stepped, answer, block_stores}
use Rattle.model.specs.Sheet.{record_at, record_count, max_words, step_of, steps_of}
use Rattle.model.specs.Outcome.{Lent, Outcome, media_of, first_state, outcome, sizes_fit}
use Rattle.model.specs.Alike.{state_at, answer_at}
use Rattle.model.specs.Laws.Choice.{All}
use Rattle.model.proofs.Laws.Choice.{parts}
use Rattle.model.proofs.Laws.Kinds.{by_kind}
use Rattle.model.proofs.Laws.Sizes.{aligned_multiple}
use Rattle.model.proofs.Laws.Stores.{unnamed_stays}
use Rattle.model.proofs.Laws.Run.{run_snoc, run_store}
use Rattle.model.specs.Laws.Landed.{Written, places_of}
use Rattle.model.proofs.Laws.Landed.{four_land, block_land, none_lands, written, any_value, write_hits, all_hold}
use Rattle.model.specs.Laws.BlockPlaces.{Zeros}
use Rattle.model.proofs.Laws.BlockPlaces.{block_written, block_zeros, block_alike}
use Rattle.model.specs.Laws.Refusal.{Acceptable}
use Rattle.model.proofs.Laws.Refusal.{zero_exactly}
use Rattle.model.proofs.Laws.Limits.{short_step}
use Rattle.model.proofs.Laws.Demand3.{byte_there, step_there, step_is, accounts}
use Rattle.model.specs.declared.AccessSize.{AccessSize}
use Rattle.model.specs.declared.AccessSize.TheVariants.{Word}
use Rattle.model.specs.declared.Lengths.{Lengths}
use Rattle.model.specs.declared.SheetRecord.{SheetRecord}
use Rattle.model.specs.declared.Step.{Step}
use Rattle.model.specs.declared.Step.TheVariants.{Write, Latch, BlockWrite}
use Rattle.model.specs.Laws.Told.{puts_of, hits_byte, Told, block_puts, AtAWord, BlockTold, SameBlock}

-- one step more
pub state_next : (i : Lent) (k : ℕ) → k < record_count i.sheet
    → state_at i (suc k) ≡ stepped (media_of i) (state_at i k) (step_of (record_at i.sheet k))
unfolding state_at
state_next i k h =
    ap (λ (xs : List Step). (run (media_of i) (first_state i) xs).state)
    (take-suc (steps_of i.sheet) k (Latch 0) (step_there i k h))
    ∙ ap (λ r. r.state) (run_snoc (media_of i) (first_state i) _ _)
    ∙ ap (stepped (media_of i) (state_at i k)) (step_is i k h)

module _ (i : Lent) (o : Outcome) (ok : o ≡ outcome i) (zero_number : o.number ≡ 0) where
  -- the store keeps its length, which is that of its memories
  store_length : (k : ℕ) → length (state_at i k).store ≡ lengths_sum i.lengths
  unfolding state_at sizes_fit
  store_length k =
      let asked : Acceptable i = (zero_exactly i).0 (ap (λ (x : Outcome). x.number) (sym ok) ∙ zero_number) in
      let fit : sizes_fit i.lengths (length i.store) (length i.bios) (length i.rom) ≡ true = asked.lengths in
      let sum : lengths_sum i.lengths ≡ length i.store = eqb-true (lengths_sum i.lengths) (length i.store) (search parts) in
      run_store (length i.store) (media_of i) (first_state i) (take k (steps_of i.sheet)) refl ∙ sym sum

module _ (i : Lent) (o : Outcome) (ok : o ≡ outcome i) (zero_number : o.number ≡ 0)
    (k : ℕ) (h : k < record_count i.sheet) (z : AccessSize) (a v : ℕ) (e : step_of (record_at i.sheet k) ≡ Write z a v) where
  -- few enough for a byte
  number_is : hits_byte o k ≡ length (puts_of i k z a v)
  unfolding answer_at
  number_is =
      byte_there o.answers k (answer_at i k) ((accounts i o ok zero_number).bytes k h) 8 (omega arith)
      ∙ ap (λ (x : Step). (answer (media_of i) (state_at i k) x).hits % 256) e
      ∙ ap (λ (n : ℕ). n % 256) (write_hits (media_of i) (state_at i k) z a v)
      ∙ mod-eq_of_lt (omega (arith, four_land i.lengths (mode_of i.lengths (state_at i k).store) z a v))

  store_is : (state_at i (suc k)).store ≡ landed (state_at i k).store (puts_of i k z a v)
  store_is =
      ap (λ (s : State). s.store) (state_next i k h)
      ∙ ap (λ (x : Step). (stepped (media_of i) (state_at i k) x).store) e

  held_there : All (λ (p : Put). byte_at (landed (state_at i k).store (puts_of i k z a v)) p.place ≡ p.byte) (puts_of i k z a v)
  held_there =
      all_hold (state_at i k).store (puts_of i k z a v)
      (rw (store_length i o ok zero_number k) (written i.lengths (mode_of i.lengths (state_at i k).store) z a v))

  pub told : Told i o k z a v
  told =
      record {
        store = store_is;
        places = written i.lengths _ z a v;
        holds = rw store_is held_there;
        others =
            λ j u. ap (λ (s : List ℕ). byte_at s j) store_is ∙ unnamed_stays (state_at i k).store (puts_of i k z a v) j u;
        number = number_is;
        most = rw number_is (four_land i.lengths _ z a v);
        none = λ n. store_is ∙ none_lands (state_at i k).store (puts_of i k z a v) (sym number_is ∙ n);
      }

-- ---- the same of a BLOCK WRITE

block_begins : (r : SheetRecord) → AtAWord (step_of r)
block_begins r =
    by_kind (λ (k : ℕ) (x : Step). AtAWord x) r tt tt tt tt tt tt tt tt
    (aligned_multiple Word r.address) (aligned_multiple Word r.address) (λ o. tt)

-- what landed holds what landed there
held : (s : List ℕ) (ps : List Put) → All (λ (p : Put). byte_at s p.place ≡ p.byte) ps → Zeros ps
    → All (λ (p : Put). byte_at s p.place ≡ 0) ps
held s [] f g = tt
held s (p ∷ ps) f g = (f.0 ∙ g.0, held s ps f.1 g.1)

module _ (i : Lent) (o : Outcome) (ok : o ≡ outcome i) (zero_number : o.number ≡ 0)
    (k : ℕ) (h : k < record_count i.sheet) (a n : ℕ) (e : step_of (record_at i.sheet k) ≡ BlockWrite a n) where
  abbrev landing : List Put
  landing = block_puts i k a n

  four_a_word : length landing ≤ 4 * n
  four_a_word = block_land i.lengths (state_at i k).board.contents (state_at i k).store a n

  few : n ≤ max_words
  few = let s = (short_step (record_at i.sheet k)).short in rw e at s

  begins : a % 4 ≡ 0
  begins = let s = block_begins (record_at i.sheet k) in rw e at s

  block_places : Written (lengths_sum i.lengths) landing
  block_places =
      block_written i.lengths (state_at i k).board.contents (state_at i k).store a n begins (omega (arith, few))

  block_number : hits_byte o k ≡ length landing
  unfolding answer_at
  block_number =
      byte_there o.answers k (answer_at i k) ((accounts i o ok zero_number).bytes k h) 8 (omega arith)
      ∙ ap (λ (x : Step). (answer (media_of i) (state_at i k) x).hits % 256) e
      ∙ ap (λ (m : ℕ). m % 256) (zero-add (length landing))
      ∙ mod-eq_of_lt (omega (arith, four_a_word, few))

  block_store : (state_at i (suc k)).store ≡ landed (state_at i k).store landing
  block_store =
      ap (λ (s : State). s.store) (state_next i k h)
      ∙ ap (λ (x : Step). (stepped (media_of i) (state_at i k) x).store) e

  block_zero : All (λ (p : Put). byte_at (landed (state_at i k).store landing) p.place ≡ 0) landing
  block_zero =
      held _ landing (all_hold (state_at i k).store landing (rw (store_length i o ok zero_number k) block_places))
      (block_zeros i.lengths (state_at i k).board.contents (state_at i k).store a n)

  pub block_told : BlockTold i o k a n
  block_told =
      record {
        store = block_store;
        places = block_places;
        zeros = rw block_store block_zero;
        others = λ j u. ap (λ (s : List ℕ). byte_at s j) block_store ∙ unnamed_stays (state_at i k).store landing j u;
        number = block_number;
        most = rw block_number four_a_word;
        in_all = rw block_number (omega (arith, four_a_word, few));
        none = λ z. block_store ∙ none_lands (state_at i k).store landing (sym block_number ∙ z);
      }

-- ---- of two runs

-- whatever is stored by a WRITE and whatever their memories hold: equal lengths and one display mode give one number
pub told_alike : (i j : Lent) (o p : Outcome) → o ≡ outcome i → p ≡ outcome j → o.number ≡ 0 → p.number ≡ 0
    → (k : ℕ) → k < record_count i.sheet → k < record_count j.sheet
    → (z : AccessSize) (a v u : ℕ) → step_of (record_at i.sheet k) ≡ Write z a v → step_of (record_at j.sheet k) ≡ Write z a u
    → i.lengths ≡ j.lengths → mode_of i.lengths (state_at i k).store ≡ mode_of j.lengths (state_at j k).store
    → hits_byte o k ≡ hits_byte p k
told_alike i j o p e f m n k h l z a v u x y el em =
    number_is i o e m k h z a v x
    ∙ ap₂ (λ (ls : Lengths) (mode : ℕ). length (puts ls mode z a v)) el em
    ∙ any_value j.lengths (mode_of j.lengths (state_at j k).store) z a v u
    ∙ sym (number_is j p f n k l z a u y)

-- and of a BLOCK WRITE equal lengths give one number, whatever the memories hold, in every display mode
pub block_told_alike : (i j : Lent) (o p : Outcome) → o ≡ outcome i → p ≡ outcome j → o.number ≡ 0 → p.number ≡ 0
    → (k h : ℕ) → k < record_count i.sheet → h < record_count j.sheet
    → (a n : ℕ) → step_of (record_at i.sheet k) ≡ BlockWrite a n → step_of (record_at j.sheet h) ≡ BlockWrite a n
    → i.lengths ≡ j.lengths → SameBlock i j o p k h a n
block_told_alike i j o p e f m q k h u w a n x y el =
    record {
      places = ap places_of same_puts;
      number = block_number i o e m k u a n x ∙ ap length same_puts ∙ sym (block_number j p f q h w a n y);
    }
  where
    same_puts : block_puts i k a n ≡ block_puts j h a n
    same_puts =
        ap (λ (l : Lengths). (block_stores l (state_at i k).board.contents (state_at i k).store a n).puts) el
        ∙ block_alike j.lengths (state_at i k).board.contents (state_at j h).board.contents (state_at i k).store
        (state_at j h).store a n
