-- A block is its words, over records: the run of a sheet's records is that of the records in which each block is written out as
-- so many READ 4, or WRITE 4 of 0, and each answer is made of those of its words.
use Rattle.std.specs.Prelude.{◌≡◌, refl, Bool, ◌||◌, List, [], ◌∷◌, ◌++◌, map, ℕ, zero, suc, ◌+◌, ◌-◌, ◌≤◌, ◌<◌, length, take, drop, get_or, eqb}
use Rattle.std.specs.Prelude.{if◌then◌else◌}
use Rattle.std.proofs.Math.Path.{sym, ap, ap₂}
use Rattle.std.proofs.Common.{◌∙◌, arith, zero-add, add-zero, append-nil, append_assoc, eqb-true, length-append}
use Rattle.std.proofs.lemmas.List.{map-append, length-map, length-take, length-drop}
use Rattle.std.proofs.Math.Seq.{take-append_seam, drop-append-add, drop-cons}
use Rattle.model.specs.Base.{sum, further}
use Rattle.model.specs.Wait.{access_size_of, aligned}
use Rattle.model.specs.Step.{Media, State, Result, stepped, answer, run, total, cycles_in, clock_after}
use Rattle.model.specs.Sheet.{is_block, words_of, step_of, kind_fault, field_fault, size_fits}
use Rattle.model.specs.Grounds.{grounds, grounds_after}
use Rattle.model.specs.Laws.Choice.{All}
use Rattle.model.proofs.Laws.Choice.{choose, by_test, or_true_left, or_true_right, if_true}
use Rattle.model.specs.Laws.Run.{continued}
use Rattle.model.proofs.Laws.Run.{run_append, run_length}
use Rattle.model.specs.Laws.Times.{clock_past}
use Rattle.model.proofs.Laws.Times.{run_clock}
use Rattle.model.specs.Laws.Limits.{Faultless}
use Rattle.model.proofs.Laws.Limits.{few_words, words_are}
use Rattle.model.specs.Laws.Demand3.{no_answer}
use Rattle.model.specs.Laws.Blocks.{read_words, write_words, joined_grounds, StandsFor}
use Rattle.model.proofs.Laws.Blocks.{read_stands, write_stands}
use Rattle.model.specs.declared.Answer.{Answer}
use Rattle.model.specs.declared.AccessSize.TheVariants.{Word}
use Rattle.model.specs.declared.Clock.{Clock}
use Rattle.model.specs.declared.Ground.{Ground}
use Rattle.model.specs.declared.SheetRecord.{SheetRecord}
use Rattle.model.specs.declared.Step.{Step}
use Rattle.model.specs.declared.Step.TheVariants.{Read, Write, BlockRead, BlockWrite}
use Rattle.model.specs.declared.Version.{Version}
use Rattle.model.specs.declared.Version.TheVariants.{One, Two}
use Rattle.model.specs.Laws.WrittenOut.{word_record, word_records, written_as, written_out, words_in, words_before, words_at, picked}
use Rattle.model.specs.Laws.WrittenOut.{last_answer, joined_answer}

-- ---- a record stands for what it is written as

read_step : (r : SheetRecord) → r.kind ≡ 10 → step_of r ≡ BlockRead (aligned Word r.address) (words_of r.value)
unfolding step_of
read_step r e = rw e refl

write_step : (r : SheetRecord) → r.kind ≡ 11 → step_of r ≡ BlockWrite (aligned Word r.address) (words_of r.value)
unfolding step_of
write_step r e = rw e refl

-- the steps of the words
read_records : (v : Version) (a n : ℕ) → map step_of (word_records v 1 a n) ≡ read_words a n
unfolding step_of access_size_of
read_records v a zero = refl
read_records v a (suc n) = ap (λ (xs : List Step). Read Word a ∷ xs) (read_records v (further 4 a) n)

write_records : (v : Version) (a n : ℕ) → map step_of (word_records v 2 a n) ≡ write_words a n
unfolding step_of access_size_of
write_records v a zero = refl
write_records v a (suc n) = ap (λ (xs : List Step). Write Word a 0 ∷ xs) (write_records v (further 4 a) n)

-- a step stands for itself
itself_stands : (m : Media) (s : State) (x : Step) → StandsFor m s x (x ∷ [])
unfolding run grounds_after
itself_stands m s x =
    record {
      state = refl;
      cycles = sym (add-zero (answer m s x).cycles);
      hits = sym (add-zero (answer m s x).hits);
      value = refl;
      names = sym (append-nil (grounds s.board.clock x));
    }

record_stands : (m : Media) (s : State) (r : SheetRecord) → Faultless r
    → StandsFor m s (step_of r) (map step_of (written_as r))
record_stands m s r f =
    choose (λ (rs : List SheetRecord). StandsFor m s (step_of r) (map step_of rs)) (eqb r.kind 10)
    (λ e.
    let k : r.kind ≡ 10 = eqb-true r.kind 10 e in
    let n : words_of r.value ≡ r.value = words_are r.value (few_words r f (rw k refl)) in
    rw (read_step r k, n, read_records r.version (aligned Word r.address) r.value)
    (read_stands m s (aligned Word r.address) r.value))
    λ d. choose (λ (rs : List SheetRecord). StandsFor m s (step_of r) (map step_of rs)) (eqb r.kind 11)
    (λ e.
    let k : r.kind ≡ 11 = eqb-true r.kind 11 e in
    let n : words_of r.value ≡ r.value = words_are r.value (few_words r f (rw k refl)) in
    rw (write_step r k, n, write_records r.version (aligned Word r.address) r.value)
    (write_stands m s (aligned Word r.address) r.value))
    λ e. itself_stands m s (step_of r)

-- as so many records
word_count : (v : Version) (kind a n : ℕ) → length (word_records v kind a n) ≡ n
word_count v kind a zero = refl
word_count v kind a (suc n) = ap suc (word_count v kind (further 4 a) n)

words_many : (r : SheetRecord) → length (written_as r) ≡ words_in r
words_many r =
    choose (λ (rs : List SheetRecord). length rs ≡ words_in r) (eqb r.kind 10)
    (λ e. word_count r.version 1 _ r.value ∙ sym (if_true (is_block r.kind) _ _ (or_true_left (eqb r.kind 10) _ e)))
    λ d. choose (λ (rs : List SheetRecord). length rs ≡ words_in r) (eqb r.kind 11)
    (λ e. word_count r.version 2 _ r.value ∙ sym (if_true (is_block r.kind) _ _ (or_true_right (eqb r.kind 10) _ e)))
    λ e. sym (ap (λ (t : Bool). if t then r.value else 1) (ap₂ (λ (t u : Bool). t || u) d e))

some_words : (r : SheetRecord) → Faultless r → 1 ≤ words_in r
some_words r f =
    by_test (is_block r.kind) (λ e. rw e ((few_words r f e).least)) (λ e. rw e (omega arith))

-- ---- the written-out records have no fault either

word_faultless : (v : Version) (a : ℕ) → Faultless (word_record v 1 a) × Faultless (word_record v 2 a)
unfolding kind_fault field_fault size_fits
word_faultless One a = (refl, refl)
word_faultless Two a = (refl, refl)

read_faultless : (v : Version) (a n : ℕ) → All Faultless (word_records v 1 a n)
read_faultless v a zero = tt
read_faultless v a (suc n) = ((word_faultless v a).0, read_faultless v (further 4 a) n)

write_faultless : (v : Version) (a n : ℕ) → All Faultless (word_records v 2 a n)
write_faultless v a zero = tt
write_faultless v a (suc n) = ((word_faultless v a).1, write_faultless v (further 4 a) n)

pub all_append : {A : Type 0} (P : A → Type 0) (xs ys : List A) → All P xs → All P ys → All P (xs ++ ys)
all_append P [] ys f g = g
all_append P (x ∷ xs) ys f g = (f.0, all_append P xs ys f.1 g)

pub written_faultless : (rs : List SheetRecord) → All Faultless rs → All Faultless (written_out rs)
written_faultless [] f = tt
written_faultless (r ∷ rs) f =
    all_append Faultless (written_as r) (written_out rs)
    (choose (All Faultless) (eqb r.kind 10) (λ e. read_faultless r.version _ r.value)
    λ d. choose (All Faultless) (eqb r.kind 11) (λ e. write_faultless r.version _ r.value) λ e. (f.0, tt))
    (written_faultless rs f.1)

-- ---- where the words of a record stand: first those of the first record, then those of the others

module _ {A : Type 0} (r : SheetRecord) (rs : List SheetRecord) (xs ys : List A) (e : length xs ≡ length (written_as r)) where
  first_words : words_at (r ∷ rs) 0 (xs ++ ys) ≡ xs
  first_words =
      let n : length (written_as r ++ []) - 0 ≡ length xs = omega (arith, length-append (written_as r) [], e) in
      ap (λ (k : ℕ). take k (xs ++ ys)) n ∙ take-append_seam xs ys

  later_words : (k : ℕ) → words_at (r ∷ rs) (suc k) (xs ++ ys) ≡ words_at rs k ys
  later_words k =
      let before : words_before (r ∷ rs) (suc k) ≡ length xs + words_before rs k =
      omega (arith, length-append (written_as r) (written_out (take k rs)), e) in
      let many : words_before (r ∷ rs) (suc (suc k)) - words_before (r ∷ rs) (suc k)
      ≡ words_before rs (suc k) - words_before rs k =
      omega (arith, before, length-append (written_as r) (written_out (take (suc k) rs)), e) in
      ap₂ (λ (n j : ℕ). take n (drop j (xs ++ ys))) many before
      ∙ ap (take (words_before rs (suc k) - words_before rs k)) (drop-append-add xs ys (words_before rs k))

-- so many of them, one record's behind the other's
pub words_next : (rs : List SheetRecord) (k : ℕ) (d : SheetRecord) → k < length rs
    → words_before rs (suc k) ≡ words_before rs k + words_in (get_or rs k d)
words_next [] k d h = absurd (omega arith)
words_next (r ∷ rs) zero d h = omega (arith, length-append (written_as r) [], words_many r)
words_next (r ∷ rs) (suc k) d h =
    omega (
      arith,
      length-append (written_as r) (written_out (take k rs)),
      length-append (written_as r) (written_out (take (suc k) rs)),
      words_next rs k d (omega arith),
    )

pub words_most : (rs : List SheetRecord) (k : ℕ) → words_before rs k ≤ length (written_out rs)
words_most rs zero = omega arith
words_most [] (suc k) = omega arith
words_most (r ∷ rs) (suc k) =
    omega (
      arith,
      length-append (written_as r) (written_out (take k rs)),
      length-append (written_as r) (written_out rs),
      words_most rs k,
    )

-- n entries of a list from number k on
taken : {A : Type 0} (xs : List A) (d : A) (k n : ℕ) → k + n ≤ length xs → take n (drop k xs) ≡ picked xs d k n
taken xs d k zero h = refl
taken xs d k (suc n) h =
    ap (take (suc n)) (drop-cons xs k d (omega arith))
    ∙ ap (λ ys. get_or xs k d ∷ ys) (taken xs d (suc k) n (omega arith))

module _ {A : Type 0} (rs : List SheetRecord) (xs : List A) (e : length xs ≡ length (written_out rs))
    (k : ℕ) (r : SheetRecord) (h : k < length rs) where
  pub words_picked : (d : A) → words_at rs k xs ≡ picked xs d (words_before rs k) (words_in (get_or rs k r))
  words_picked d =
      let next = words_next rs k r h in
      let most = words_most rs (suc k) in
      let n : words_before rs (suc k) - words_before rs k ≡ words_in (get_or rs k r) = omega arith in
      ap (λ (j : ℕ). take j (drop (words_before rs k) xs)) n ∙ taken xs d (words_before rs k) _ (omega arith)

  pub words_length : length (words_at rs k xs) ≡ words_in (get_or rs k r)
  words_length =
      let next = words_next rs k r h in
      let most = words_most rs (suc k) in
      omega (
        arith,
        length-take (words_before rs (suc k) - words_before rs k) (drop (words_before rs k) xs),
        length-drop (words_before rs k) xs,
      )

-- ---- a step's answer is made of its words'

-- the last answer shows the board that a run leaves
last_shows : (m : Media) (s : State) (d : Answer) (x : Step) (xs : List Step)
    → ((last_answer d (run m s (x ∷ xs)).answers).count ≡ (run m s (x ∷ xs)).state.board.clock.prefetch.count)
    × ((last_answer d (run m s (x ∷ xs)).answers).force ≡ (run m s (x ∷ xs)).state.board.clock.force_next_fetch_n)
unfolding run
last_shows m s d x [] = (refl, refl)
last_shows m s d x (y ∷ xs) = last_shows m (stepped m s x) (answer m s x) y xs

answer_joined : (m : Media) (s : State) (x : Step) (xs : List Step) → StandsFor m s x xs → 1 ≤ length xs
    → answer m s x ≡ joined_answer (run m s xs).answers
answer_joined m s x [] st h = absurd (omega arith)
answer_joined m s x (y ∷ xs) st h =
    λ i. record {
      value = st.value i;
      cycles = st.cycles i;
      hits = st.hits i;
      count = (ap (λ (t : State). t.board.clock.prefetch.count) st.state ∙ sym (last_shows m s no_answer y xs).0) i;
      force = (ap (λ (t : State). t.board.clock.force_next_fetch_n) st.state ∙ sym (last_shows m s no_answer y xs).1) i;
    }

-- ---- the run

-- a run of written-out records: that of the first one's words, and that of the others' from the state that the first step leaves
split : (m : Media) (s : State) (r : SheetRecord) (rs : List SheetRecord) → Faultless r
    → run m s (map step_of (written_out (r ∷ rs)))
    ≡ continued (run m s (map step_of (written_as r))) (run m (stepped m s (step_of r)) (map step_of (written_out rs)))
split m s r rs f =
    ap (run m s) (map-append step_of (written_as r) (written_out rs))
    ∙ run_append m s (map step_of (written_as r)) (map step_of (written_out rs))
    ∙ ap
    (λ (t : State). continued (run m s (map step_of (written_as r))) (run m t (map step_of (written_out rs))))
    (sym (record_stands m s r f).state)

pub written_state : (m : Media) (s : State) (rs : List SheetRecord) → All Faultless rs
    → (run m s (map step_of rs)).state ≡ (run m s (map step_of (written_out rs))).state
unfolding run
written_state m s [] f = refl
written_state m s (r ∷ rs) f =
    written_state m (stepped m s (step_of r)) rs f.1 ∙ sym (ap (λ (q : Result). q.state) (split m s r rs f.0))

cycles_append : (xs ys : List Answer) → sum (cycles_in (xs ++ ys)) ≡ sum (cycles_in xs) + sum (cycles_in ys)
cycles_append [] ys = sym (zero-add (sum (cycles_in ys)))
cycles_append (x ∷ xs) ys = omega (arith, cycles_append xs ys)

pub written_total : (m : Media) (s : State) (rs : List SheetRecord) → All Faultless rs
    → total (run m s (map step_of rs)) ≡ total (run m s (map step_of (written_out rs)))
unfolding run
written_total m s [] f = refl
written_total m s (r ∷ rs) f =
    let rest = run m (stepped m s (step_of r)) (map step_of (written_out rs)) in
    ap₂ (λ (j k : ℕ). j + k) (record_stands m s r f.0).cycles (written_total m (stepped m s (step_of r)) rs f.1)
    ∙ sym (cycles_append (run m s (map step_of (written_as r))).answers rest.answers)
    ∙ sym (ap total (split m s r rs f.0))

-- as many answers as records
pub as_many : (m : Media) (s : State) (rs : List SheetRecord) → length (run m s (map step_of rs)).answers ≡ length rs
as_many m s rs = run_length m s (map step_of rs) ∙ length-map rs step_of

pub written_answers : (m : Media) (s : State) (rs : List SheetRecord) (k : ℕ) (d : Answer) → All Faultless rs → k < length rs
    → get_or (run m s (map step_of rs)).answers k d
    ≡ joined_answer (words_at rs k (run m s (map step_of (written_out rs))).answers)
unfolding run
written_answers m s [] k d f h = absurd (omega arith)
written_answers m s (r ∷ rs) zero d f h =
    let some : 1 ≤ length (map step_of (written_as r)) =
    omega (arith, length-map (written_as r) step_of, words_many r, some_words r f.0) in
    answer_joined m s (step_of r) (map step_of (written_as r)) (record_stands m s r f.0) some
    ∙ sym (ap joined_answer (first_words r rs _ _ (as_many m s (written_as r))))
    ∙ sym (ap (λ (q : Result). joined_answer (words_at (r ∷ rs) 0 q.answers)) (split m s r rs f.0))
written_answers m s (r ∷ rs) (suc k) d f h =
    written_answers m (stepped m s (step_of r)) rs k d f.1 (omega arith)
    ∙ sym (ap joined_answer (later_words r rs _ _ (as_many m s (written_as r)) k))
    ∙ sym (ap (λ (q : Result). joined_answer (words_at (r ∷ rs) (suc k) q.answers)) (split m s r rs f.0))

-- ---- the grounds

grounds_append : (c : Clock) (xs ys : List Step)
    → grounds_after c (xs ++ ys) ≡ grounds_after c xs ++ grounds_after (clock_past c xs) ys
unfolding grounds_after clock_past
grounds_append c [] ys = refl
grounds_append c (x ∷ xs) ys = ap (λ (gs : List (List Ground)). grounds c x ∷ gs) (grounds_append (clock_after c x) xs ys)

pub grounds_many : (c : Clock) (rs : List SheetRecord) → length (grounds_after c (map step_of rs)) ≡ length rs
unfolding grounds_after
grounds_many c [] = refl
grounds_many c (r ∷ rs) = ap suc (grounds_many (clock_after c (step_of r)) rs)

split_grounds : (m : Media) (s : State) (r : SheetRecord) (rs : List SheetRecord) → Faultless r
    → grounds_after s.board.clock (map step_of (written_out (r ∷ rs)))
    ≡ grounds_after s.board.clock (map step_of (written_as r))
    ++ grounds_after (stepped m s (step_of r)).board.clock (map step_of (written_out rs))
split_grounds m s r rs f =
    let words = map step_of (written_as r) in
    ap (grounds_after s.board.clock) (map-append step_of (written_as r) (written_out rs))
    ∙ grounds_append s.board.clock words (map step_of (written_out rs))
    ∙ ap (λ (c : Clock). grounds_after s.board.clock words ++ grounds_after c (map step_of (written_out rs)))
    (sym (run_clock m s words) ∙ sym (ap (λ (t : State). t.board.clock) (record_stands m s r f).state))

pub written_grounds_at : (m : Media) (s : State) (rs : List SheetRecord) (k : ℕ) → All Faultless rs → k < length rs
    → get_or (grounds_after s.board.clock (map step_of rs)) k []
    ≡ joined_grounds (words_at rs k (grounds_after s.board.clock (map step_of (written_out rs))))
unfolding grounds_after
written_grounds_at m s [] k f h = absurd (omega arith)
written_grounds_at m s (r ∷ rs) zero f h =
    (record_stands m s r f.0).names
    ∙ sym (ap joined_grounds (first_words r rs _ _ (grounds_many s.board.clock (written_as r))))
    ∙ sym (ap (λ (gs : List (List Ground)). joined_grounds (words_at (r ∷ rs) 0 gs)) (split_grounds m s r rs f.0))
written_grounds_at m s (r ∷ rs) (suc k) f h =
    written_grounds_at m (stepped m s (step_of r)) rs k f.1 (omega arith)
    ∙ sym (ap joined_grounds (later_words r rs _ _ (grounds_many s.board.clock (written_as r)) k))
    ∙ sym (ap (λ (gs : List (List Ground)). joined_grounds (words_at (r ∷ rs) (suc k) gs)) (split_grounds m s r rs f.0))

joined_append : (gs hs : List (List Ground)) → joined_grounds (gs ++ hs) ≡ joined_grounds gs ++ joined_grounds hs
joined_append [] hs = refl
joined_append (g ∷ gs) hs = ap (λ (x : List Ground). g ++ x) (joined_append gs hs) ∙ sym (append_assoc g _ _)

pub written_grounds_all : (m : Media) (s : State) (rs : List SheetRecord) → All Faultless rs
    → joined_grounds (grounds_after s.board.clock (map step_of rs))
    ≡ joined_grounds (grounds_after s.board.clock (map step_of (written_out rs)))
unfolding grounds_after
written_grounds_all m s [] f = refl
written_grounds_all m s (r ∷ rs) f =
    ap₂ (λ (gs hs : List Ground). gs ++ hs) (record_stands m s r f.0).names
    (written_grounds_all m (stepped m s (step_of r)) rs f.1)
    ∙ sym (joined_append (grounds_after s.board.clock (map step_of (written_as r))) _)
    ∙ sym (ap joined_grounds (split_grounds m s r rs f.0))
