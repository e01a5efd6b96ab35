-- The same for every memory, of bytes as lent: every accepted run answers what the definitions have, its total is the sum of the
-- cycles in its answers and lies within its limits; and two of them whose sheets and first boards are alike, over any memories,
-- agree in answer bytes 4 to 10 of every step, but for the hits of WRITE and BLOCK WRITE, and in the total.
use Rattle.std.specs.Prelude.{◌≡◌, refl, ◌≢◌, ℕ, zero, suc, ◌+◌, ◌-◌, ◌*◌, ◌%◌, ◌≤◌, ◌<◌, length, take, drop}
use Rattle.std.proofs.Math.Path.{sym, ap, ap₂}
use Rattle.std.proofs.Common.{◌∙◌, arith, add-zero, add_assoc, mod-eq_of_lt, get_or-append-add, get_or-take, get_or-drop, get_or-set_other}
use mathlib.Core.List.{List, [], ◌∷◌, ◌++◌, map}
use Rattle.std.proofs.Math.ListN.{get_or}
use Rattle.std.proofs.lemmas.List.{length-map}
use Rattle.std.proofs.Math.Dec.{eqb}
use Rattle.std.specs.Prelude.{if◌then◌else◌}
use Rattle.model.specs.Base.{sum, byte_at, bytes, number}
use Rattle.model.specs.Waitcnt.{prefetch_enable}
use Rattle.model.specs.Wait.{aligned}
use Rattle.model.specs.Step.{answer, cycles_in, cycles_of}
use Rattle.model.specs.Sheet.{rules_of, record_at, records_from, record_count, records_of, isa_state, words_of, step_of, steps_of}
use Rattle.model.specs.BoardBytes.{answer_length, clock_of, answer_bytes, answers_bytes}
use Rattle.model.specs.Outcome.{Lent, LentBytes, Outcome, media_of, first_state, ran, outcome_by, outcome}
use Rattle.model.specs.Alike.{AlikeRecords, AlikeSheets, AlikeBoards, state_at, answer_at, answer_start}
use Rattle.model.specs.Alike.{ReadBack, cycles_from, Accounts, Compared, Demand3}
use Rattle.model.specs.Laws.Choice.{All}
use Rattle.model.proofs.Laws.Choice.{all_of, choose₂, tests, eqb_ne}
use Rattle.model.proofs.Laws.Kinds.{by_kind}
use Rattle.model.specs.Preview.{previewed}
use Rattle.model.specs.Grounds.{grounds_after, run_grounds}
use Rattle.model.specs.Laws.Times.{with_hits, with_value, blanked}
use Rattle.model.proofs.Laws.Times.{run_blanked, each_at, run_cycles, run_total}
use Rattle.model.specs.Laws.Times.{Shown, shown, SameTime, SameTimes}
use Rattle.model.proofs.Laws.Times.{previews_alike, grounds_alike}
use Rattle.model.proofs.Laws.Run.{run_at}
use Rattle.model.proofs.Laws.Limits.{preview_limits, records_length}
use Rattle.model.specs.Laws.Fits.{AnswerFits}
use Rattle.model.proofs.Laws.Fits.{answers_fit, answers_count}
use Rattle.model.proofs.Laws.Refusal.{was_accepted, record_in, accepted_faultless}
use Rattle.model.proofs.Laws.Codec.{number_past, number_fits, flag_byte, OfWidth, block_there}
use Rattle.model.specs.declared.Clock.{Clock}
use Rattle.model.specs.declared.Answer.{Answer}
use Rattle.model.specs.declared.SheetRecord.{SheetRecord}
use Rattle.model.specs.Verdict.{Accepted}
use Rattle.model.specs.declared.Step.{Step}
use Rattle.model.specs.declared.Step.TheVariants.{Waitcnt, Idle, Instruction, Latch, BlockRead, BlockWrite}
use Rattle.model.specs.declared.AccessSize.TheVariants.{Word}
use Rattle.model.specs.declared.Version.{Version}
use Rattle.model.specs.declared.Version.TheVariants.{One, Two}
use Rattle.model.specs.Laws.Demand3.{no_answer}

-- ---- alike sheets have steps that take the same time: the values of WRITE and LATCH take none

same_step : (w : Version) (k z f a v u p q : ℕ) → (k ≢ 2 → k ≢ 9 → v ≡ u)
    → SameTime (step_of (record { version = w; kind = k; size = z; flag = f; zero_byte = p; address = a; value = v }))
    (step_of (record { version = w; kind = k; size = z; flag = f; zero_byte = q; address = a; value = u }))
unfolding step_of
same_step w k z f a v u p q h =
    choose₂ SameTime (eqb k 1) (λ e c. refl)
    λ e₁. choose₂ SameTime (eqb k 2) (λ e c. refl)
    λ e₂. choose₂ SameTime (eqb k 3)
    (λ e. by_value (λ (x : ℕ). Waitcnt (x % 0x1_0000)) (h (eqb_ne k 2 e₂) (omega (arith, tests))))
    λ e₃. choose₂ SameTime (eqb k 4) (λ e. by_value Idle (h (eqb_ne k 2 e₂) (omega (arith, tests))))
    λ e₄. choose₂ SameTime (eqb k 5) (λ e c. refl)
    λ e₅. choose₂ SameTime (eqb k 6) (λ e c. refl)
    λ e₆. choose₂ SameTime (eqb k 7)
    (λ e. by_value (λ (x : ℕ). Instruction w (isa_state z) a x (eqb f 1)) (h (eqb_ne k 2 e₂) (omega (arith, tests))))
    λ e₇. choose₂ SameTime (eqb k 8) (λ e c. refl)
    λ e₈. choose₂ SameTime (eqb k 10)
    (λ e. by_value (λ (x : ℕ). BlockRead (aligned Word a) (words_of x)) (h (eqb_ne k 2 e₂) (omega (arith, tests))))
    λ e₁₀. choose₂ SameTime (eqb k 11)
    (λ e. by_value (λ (x : ℕ). BlockWrite (aligned Word a) (words_of x)) (h (eqb_ne k 2 e₂) (omega (arith, tests))))
    λ e₁₁ c. refl
  where
    by_value : (g : ℕ → Step) {x y : ℕ} → x ≡ y → SameTime (g x) (g y)
    by_value g e c = ap (λ (n : ℕ). shown c (g n)) e

-- records of sheets of one version
alike_step : (r s : SheetRecord) → r.version ≡ s.version → AlikeRecords r s → SameTime (step_of r) (step_of s)
alike_step r s e h c =
    same_step r.version r.kind r.size r.flag r.address r.value s.value r.zero_byte s.zero_byte
    h.value c
    ∙ ap₂ (λ (k z : ℕ). of r.version k z r.flag r.address) h.kind h.size
    ∙ ap₂ (λ (f a : ℕ). of r.version s.kind s.size f a) h.flag h.address
    ∙ ap (λ (w : Version). of w s.kind s.size s.flag s.address) e
  where
    of : Version → ℕ → ℕ → ℕ → ℕ → Shown
    of w k z f a =
        shown c
        (step_of
        (record {
          version = w;
          kind = k;
          size = z;
          flag = f;
          zero_byte = s.zero_byte;
          address = a;
          value = s.value;
        }))

alike_steps : (s t : List ℕ) → rules_of s ≡ rules_of t → (k n : ℕ)
    → ((j : ℕ) → j < k + n → AlikeRecords (record_at s j) (record_at t j))
    → SameTimes (map step_of (records_from s k n)) (map step_of (records_from t k n))
unfolding records_from record_at
alike_steps s t e k zero h = tt
alike_steps s t e k (suc n) h =
    (alike_step (record_at s k) (record_at t k) e (h k (omega arith)), alike_steps s t e (k + 1) n (λ j l. h j (omega arith)))

-- ---- alike boards have one clock

-- numbers whose bytes agree, each from a place of its own on
pub same_number_at : (n i k : ℕ) (b c : List ℕ)
    → ((j : ℕ) → j < n → byte_at b (i + j) ≡ byte_at c (k + j)) → number n b i ≡ number n c k
same_number_at zero i k b c h = refl
same_number_at (suc n) i k b c h =
    ap₂ (λ (x y : ℕ). x + 256 * y) (rw (add-zero i, add-zero k) at (h 0 (omega arith)))
    (same_number_at n (i + 1) (k + 1) b c (λ j l. rw (add_assoc i 1 j, add_assoc k 1 j, one_more j) (h (j + 1) (omega arith))))
  where
    one_more : (j : ℕ) → 1 + j ≡ j + 1
    one_more j = omega arith

same_number : (n i : ℕ) (b c : List ℕ) → ((j : ℕ) → i ≤ j → j < i + n → byte_at b j ≡ byte_at c j) → number n b i ≡ number n c i
same_number n i b c h = same_number_at n i i b c (λ j l. h (i + j) (omega arith) (omega arith))

pub alike_count : (s t : List ℕ) → AlikeSheets s t → record_count s ≡ record_count t
alike_count s t h = same_number 2 6 s t (λ j l u. h.header j (omega arith))

-- and so are the versions
alike_rules : (s t : List ℕ) → AlikeSheets s t → rules_of s ≡ rules_of t
unfolding rules_of
alike_rules s t h =
    ap (λ (v : ℕ). if eqb v 2 then Two else One) (same_number 2 3 s t (λ j l u. h.header j (omega arith)))

module _ (b c : List ℕ) (h : AlikeBoards b c) where
  low : (i : ℕ) → i < 20 → byte_at b i ≡ byte_at c i
  low i l = h i (omega arith) (omega arith) (omega arith)

  low_number : (n i : ℕ) → i + n ≤ 20 → number n b i ≡ number n c i
  low_number n i l = same_number n i b c (λ j u v. low j (omega arith))

  alike_clock : clock_of b ≡ clock_of c
  unfolding clock_of
  alike_clock x =
      record {
        waitcnt = low_number 2 0 (omega arith) x;
        force_next_fetch_n = eqb (low 2 (omega arith) x) 1;
        prefetch =
            record {
              head = low 3 (omega arith) x;
              count = low 4 (omega arith) x;
              next_addr = low_number 4 12 (omega arith) x;
              wait_left = low_number 4 8 (omega arith) x;
              head_addr = low_number 4 16 (omega arith) x;
              enabled = prefetch_enable (low_number 2 0 (omega arith) x);
              filling = eqb (low 5 (omega arith) x) 1;
              first_beat = eqb (low 6 (omega arith) x) 1;
            };
        previous =
            record {
              addr = same_number 4 68 b c (λ j u v. h j (omega arith) (omega arith) (omega arith)) x;
              size = h 72 (omega arith) (omega arith) (omega arith) x;
            };
      }

-- ---- the answers, as bytes

-- the bytes of answer k
answer_there : (xs : List Answer) (rest : List ℕ) (k : ℕ) (d : Answer) → k < length xs
    → take answer_length (drop (answer_start k) (answers_bytes xs ++ rest)) ≡ answer_bytes (get_or xs k d)
answer_there xs rest k d h =
    block_there answer_length answer_bytes xs rest k d (all_of (OfWidth answer_length answer_bytes) (λ x. refl) xs) h

-- a byte of it
module _ (b : List ℕ) (k : ℕ) (x : Answer) (e : take answer_length (drop (answer_start k) b) ≡ answer_bytes x) where
  pub byte_there : (at : ℕ) → at < answer_length → byte_at b (answer_start k + at) ≡ byte_at (answer_bytes x) at
  byte_there at h =
      sym (get_or-drop (answer_start k) b at 0)
      ∙ sym (get_or-take answer_length (drop (answer_start k) b) at 0 h) ∙ ap (λ (l : List ℕ). byte_at l at) e

  number_there : (n at : ℕ) → at + n ≤ answer_length → number n b (answer_start k + at) ≡ number n (answer_bytes x) at
  number_there n at h =
      same_number_at n (answer_start k + at) at b (answer_bytes x) (λ j l. rw add_assoc (byte_there (at + j) (omega arith)))

  read_back : AnswerFits x → ReadBack b k x
  read_back f =
      record {
        value = rw (add-zero (answer_start k)) at (number_there 4 0 (omega arith))
            ∙ number_fits 4 x.value [] (omega (arith, f.value));
        cycles = number_there 4 4 (omega arith) ∙ number_fits 4 x.cycles [] (omega (arith, f.cycles));
        hits = byte_there 8 (omega arith) ∙ mod-eq_of_lt (omega (arith, f.hits));
        count = byte_there 9 (omega arith) ∙ mod-eq_of_lt (omega (arith, f.count));
        force = byte_there 10 (omega arith) ∙ flag_byte x.force;
        zero_byte_law = byte_there 11 (omega arith);
      }

-- a byte that is compared is one that the clock tells: it stands in the answer and in the blanked one
value_apart : (x : Answer) (at : ℕ) → 4 ≤ at → byte_at (answer_bytes x) at ≡ byte_at (answer_bytes (with_value 0 x)) at
value_apart x at h =
    let e : at ≡ 4 + (at - 4) = omega arith in
    ap (byte_at (answer_bytes x)) e
    ∙ get_or-append-add (bytes 4 x.value) (drop 4 (answer_bytes x)) (at - 4) 0
    ∙ sym (get_or-append-add (bytes 4 0) (drop 4 (answer_bytes x)) (at - 4) 0)
    ∙ ap (byte_at (answer_bytes (with_value 0 x))) (sym e)

hits_apart : (x : Answer) (at : ℕ) → at ≢ 8 → byte_at (answer_bytes x) at ≡ byte_at (answer_bytes (with_hits 0 x)) at
hits_apart x at h = sym (get_or-set_other (answer_bytes x) 8 at 0 0 h)

clock_tells : (r : SheetRecord) (at : ℕ) → Compared r at → (x : Answer)
    → byte_at (answer_bytes x) at ≡ byte_at (answer_bytes (blanked (step_of r) x)) at
clock_tells r at c x =
    by_kind P r (λ h. value_apart x at c.from) (λ h. hits_apart x at (λ z. h.0 z refl)) (λ h. refl) (λ h. refl)
    (λ h. value_apart x at c.from) (λ h. refl) (λ h. refl) (λ h. refl) (λ h. value_apart x at c.from)
    (λ h. hits_apart x at (λ z. h.1 z refl)) (λ o h. refl) (c.but_landed, c.but_block)
  where
    P : ℕ → Step → Type 0
    P k y =
        (at ≡ 8 → k ≢ 2) × (at ≡ 8 → k ≢ 11) → byte_at (answer_bytes x) at ≡ byte_at (answer_bytes (blanked y x)) at

-- the cycles stand in the answers as they are
cycles_past : (x : Answer) (b : List ℕ) (k n : ℕ) → cycles_from (answer_bytes x ++ b) (suc k) n ≡ cycles_from b k n
cycles_past x b k zero = refl
cycles_past x b k (suc n) =
    let e : 12 * suc k + 4 ≡ 12 + (12 * k + 4) = omega arith in
    ap₂ (λ (y : ℕ) (ys : List ℕ). y ∷ ys)
    (ap (number 4 (answer_bytes x ++ b)) e ∙ number_past 4 (answer_bytes x) b (12 * k + 4))
    (cycles_past x b (suc k) n)

cycles_stand : (xs : List Answer) (rest : List ℕ) → All AnswerFits xs
    → cycles_from (answers_bytes xs ++ rest) 0 (length xs) ≡ map (λ (x : Answer). x.cycles) xs
cycles_stand [] rest a = refl
cycles_stand (x ∷ xs) rest a =
    ap₂ (λ (y : ℕ) (ys : List ℕ). y ∷ ys)
    (number_fits 4 x.cycles [] (omega (arith, a.0.cycles)))
    (cycles_past x (answers_bytes xs ++ rest) 0 (length xs) ∙ cycles_stand xs rest a.1)

-- ---- an accepted run

step_at_law : (rs : List SheetRecord) (k : ℕ) (d : SheetRecord) → k < length rs
    → get_or (map step_of rs) k (Latch 0) ≡ step_of (get_or rs k d)
step_at_law [] k d h = absurd (omega arith)
step_at_law (r ∷ rs) zero d h = refl
step_at_law (r ∷ rs) (suc k) d h = step_at_law rs k d (omega arith)

module _ (i : Lent) (k : ℕ) (h : k < record_count i.sheet) where
  -- as many steps as records
  pub step_there : k < length (steps_of i.sheet)
  step_there = omega (arith, records_length i.sheet 0 (record_count i.sheet), length-map (records_of i.sheet) step_of)

  -- step k is that of record k
  pub step_is : get_or (steps_of i.sheet) k (Latch 0) ≡ step_of (record_at i.sheet k)
  step_is =
      step_at_law (records_of i.sheet) k (record_at i.sheet 0)
      (omega (arith, records_length i.sheet 0 (record_count i.sheet)))
      ∙ ap step_of
      (record_in i.sheet 0 (record_count i.sheet) k (record_at i.sheet 0) h ∙ ap (record_at i.sheet) (omega arith))

module _ (i : Lent) (o : Outcome) (ok : o ≡ outcome i) (zero_number : o.number ≡ 0) where
  accepted : (outcome i).number ≡ 0
  accepted = sym (ap (λ (x : Outcome). x.number) ok) ∙ zero_number

  whole : o ≡ outcome_by i Accepted
  whole = ok ∙ was_accepted i accepted

  -- answer k is that of step k after the first k steps
  answer_is : (k : ℕ) → k < record_count i.sheet → get_or (ran i).answers k no_answer ≡ answer_at i k
  unfolding ran state_at answer_at
  answer_is k h =
      run_at (media_of i) (first_state i) (steps_of i.sheet) k no_answer (Latch 0) (step_there i k h)
      ∙ ap (answer (media_of i) (state_at i k)) (step_is i k h)

  bytes_are : (k : ℕ) → k < record_count i.sheet
      → take answer_length (drop (answer_start k) o.answers) ≡ answer_bytes (answer_at i k)
  bytes_are k h =
      ap (λ (x : Outcome). take answer_length (drop (answer_start k) x.answers)) whole
      ∙ answer_there (ran i).answers _ k no_answer (omega (arith, answers_count i))
      ∙ ap answer_bytes (answer_is k h)

  all_fit : (xs : List Answer) → All AnswerFits xs → (k : ℕ) → k < length xs → AnswerFits (get_or xs k no_answer)
  all_fit [] f k h = absurd (omega arith)
  all_fit (x ∷ xs) f zero h = f.0
  all_fit (x ∷ xs) f (suc k) h = all_fit xs f.1 k (omega arith)

  time_total : o.total ≡ sum (cycles_in (previewed (clock_of i.board) (steps_of i.sheet)))
  unfolding ran
  time_total = ap (λ (x : Outcome). x.total) whole ∙ run_total (media_of i) (first_state i) (steps_of i.sheet)

  -- the cycles that stand in the answers are those of the run
  pub cycles_there : LentBytes i → cycles_from o.answers 0 (record_count i.sheet) ≡ cycles_of (ran i)
  cycles_there lent =
      rw whole
      (sym (ap (cycles_from (answers_bytes (ran i).answers ++ drop (answer_length * record_count i.sheet) i.answers) 0)
      (answers_count i))
      ∙ cycles_stand (ran i).answers _ (answers_fit i lent accepted))

  sum_stands : LentBytes i → o.total ≡ sum (cycles_from o.answers 0 (record_count i.sheet))
  sum_stands lent = ap (λ (x : Outcome). x.total) whole ∙ sym (ap sum (cycles_there lent))

  pub accounts : Accounts i o
  accounts =
      record {
        bytes = bytes_are;
        fields = λ lent k h.
            read_back o.answers k (answer_at i k) (bytes_are k h)
            (rw (answer_is k h) at (all_fit (ran i).answers (answers_fit i lent accepted) k (omega (arith, answers_count i))));
        summed = sum_stands;
        limits = rw time_total (preview_limits (clock_of i.board) (records_of i.sheet) (accepted_faultless i accepted));
      }

  -- without what only the memories tell it is the preview's
  blanked_is : (k : ℕ) → k < record_count i.sheet
      → blanked (step_of (record_at i.sheet k)) (answer_at i k)
      ≡ get_or (previewed (clock_of i.board) (steps_of i.sheet)) k no_answer
  unfolding ran
  blanked_is k h =
      sym
      (each_at blanked (steps_of i.sheet) (ran i).answers k (Latch 0) no_answer (step_there i k h)
      (omega (arith, answers_count i))
      ∙ ap₂ blanked (step_is i k h) (answer_is k h))
      ∙ ap (λ (xs : List Answer). get_or xs k no_answer) (run_blanked (media_of i) (first_state i) (steps_of i.sheet))

  column : (k at : ℕ) → k < record_count i.sheet → Compared (record_at i.sheet k) at
      → byte_at o.answers (answer_start k + at)
      ≡ byte_at (answer_bytes (get_or (previewed (clock_of i.board) (steps_of i.sheet)) k no_answer)) at
  column k at h c =
      byte_there o.answers k (answer_at i k) (bytes_are k h) at (omega (arith, c.to))
      ∙ clock_tells (record_at i.sheet k) at c (answer_at i k)
      ∙ ap (λ (x : Answer). byte_at (answer_bytes x) at) (blanked_is k h)

-- ---- the theorem

module _ (i j : Lent) (s : AlikeSheets i.sheet j.sheet) (b : AlikeBoards i.board j.board) where
  steps_alike : SameTimes (steps_of i.sheet) (steps_of j.sheet)
  steps_alike =
      rw (← alike_count i.sheet j.sheet s)
      (alike_steps i.sheet j.sheet (alike_rules i.sheet j.sheet s) 0 (record_count i.sheet)
      (λ k h. s.records k (omega arith)))

  pub same_grounds : run_grounds i ≡ run_grounds j
  unfolding run_grounds
  same_grounds =
      grounds_alike (clock_of i.board) (steps_of i.sheet) (steps_of j.sheet) steps_alike
      ∙ ap (λ (c : Clock). grounds_after c (steps_of j.sheet)) (alike_clock i.board j.board b)

  pub same_preview : previewed (clock_of i.board) (steps_of i.sheet) ≡ previewed (clock_of j.board) (steps_of j.sheet)
  same_preview =
      previews_alike (clock_of i.board) (steps_of i.sheet) (steps_of j.sheet) steps_alike
      ∙ ap (λ (c : Clock). previewed c (steps_of j.sheet)) (alike_clock i.board j.board b)

  -- step by step the same cycles
  pub same_cycles : cycles_of (ran i) ≡ cycles_of (ran j)
  unfolding ran
  same_cycles =
      run_cycles (media_of i) (first_state i) (steps_of i.sheet)
      ∙ ap cycles_in same_preview
      ∙ sym (run_cycles (media_of j) (first_state j) (steps_of j.sheet))

pub demand3 : (i j : Lent) (o p : Outcome) → o ≡ outcome i → p ≡ outcome j → o.number ≡ 0 → p.number ≡ 0
    → AlikeSheets i.sheet j.sheet → AlikeBoards i.board j.board → Demand3 i j o p
demand3 i j o p e f m n s b =
    record {
      columns = λ k at h c.
          column i o e m k at h c
          ∙ ap (λ (xs : List Answer). byte_at (answer_bytes (get_or xs k no_answer)) at) (same_preview i j s b)
          ∙ sym (column j p f n k at (omega (arith, alike_count i.sheet j.sheet s)) (other_compared k at h c));
      totals =
          time_total i o e m ∙ ap (λ (xs : List Answer). sum (cycles_in xs)) (same_preview i j s b)
          ∙ sym (time_total j p f n);
      one = accounts i o e m;
      other = accounts j p f n;
    }
  where
    -- the records agree in kind, so the same bytes are compared
    other_compared : (k at : ℕ) → k < record_count i.sheet → Compared (record_at i.sheet k) at
        → Compared (record_at j.sheet k) at
    other_compared k at h c =
        record {
          from = c.from;
          to = c.to;
          but_landed = λ e q. c.but_landed e ((s.records k h).kind ∙ q);
          but_block = λ e q. c.but_block e ((s.records k h).kind ∙ q);
        }
