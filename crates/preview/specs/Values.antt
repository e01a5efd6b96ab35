-- The values of a preview: those that the clock tells stay, the others are 0. Over no memories nothing lands, so that this is all
-- that is left to do to the answers of such a run.
use Rattle.std.specs.Prelude.{◌≡◌, length, eqb}
use Rattle.std.proofs.Math.Path.{refl, sym, ap, ap₂}
use Rattle.std.proofs.Common.{◌∙◌, zero-add, take-append-drop, length-append, length-drop, length-take-le, drop-drop}
use mathlib.Core.List.{List, [], ◌∷◌, ◌++◌}
use Prim.Native.Nat.{ℕ, zero, suc, ◌+◌, ◌-◌, ◌*◌, ◌≤◌, ◌<◌}
use native.Mathlib.Omega.{arith}
use Rattle.std.proofs.Math.Nat.{sub-zero, sub_self}
use Rattle.std.proofs.Math.ListN.{take, drop}
use borrow.Rule.Slice.PartMut.{put_mid, same_len_mid}
use Rattle.std.specs.Prelude.{if◌then◌else◌}
use Rattle.model.specs.Base.{bytes, number, AllBytes}
use Rattle.model.specs.Memory.{no_lengths}
use Rattle.model.specs.Store.{Put, puts, mode_of}
use Rattle.model.specs.Step.{Media, State, block_stores, run, stepped, answer}
use Rattle.model.specs.Sheet.{record_at, record_count, records_from, records_of, step_of, steps_of}
use Rattle.model.specs.BoardBytes.{answer_length, answer_bytes, answers_bytes}
use Rattle.model.specs.Outcome.{media_of, first_state, ran}
use Rattle.model.specs.Preview.{Asked, preview_answers, no_memories, lent_with, each_answer}
use Rattle.model.specs.Laws.Choice.{All}
use Rattle.model.proofs.Laws.Choice.{by_test, either, if_true, if_false}
use Rattle.model.proofs.Laws.Kinds.{by_kind}
use Rattle.model.proofs.Laws.Codec.{bytes_number, put_before, mid_before}
use Rattle.model.proofs.Laws.Landed.{written, block_own, write_hits}
use Rattle.model.specs.Laws.Times.{with_hits, with_value, blanked, each_step}
use Rattle.model.proofs.Laws.Times.{run_blanked}
use Rattle.model.proofs.Laws.Limits.{records_length}
use Rattle.model.proofs.Laws.Fits.{answers_count}
use Rattle.model.proofs.Laws.Previewed.{each_answer_law}
use Rattle.model.specs.declared.AccessSize.{AccessSize}
use Rattle.model.specs.declared.Answer.{Answer}
use Rattle.model.specs.declared.Contents.{Contents}
use Rattle.model.specs.declared.SheetRecord.{SheetRecord}
use Rattle.model.specs.declared.Step.{Step}
use Rattle.model.specs.declared.Step.TheVariants.{Read, Write, Waitcnt, Idle, Fetch, Restart, Instruction, Pc, Latch}
use Rattle.model.specs.declared.Step.TheVariants.{BlockRead, BlockWrite}

-- the bytes of a value: an INSTRUCTION's (7) its own, of every other kind 0
unfoldable pub value_bytes : ℕ → List ℕ → List ℕ
value_bytes kind b = if eqb kind 7 then b else bytes 4 0

-- those of an answer
abbrev pub clock_valued : ℕ → List ℕ → List ℕ
clock_valued kind b = value_bytes kind (take 4 b) ++ drop 4 b

-- it has as many bytes
value_length : (kind : ℕ) (b : List ℕ) → length b ≡ 4 → length (value_bytes kind b) ≡ 4
unfolding value_bytes
value_length kind b h = either (λ (l : List ℕ). length l ≡ 4) (eqb kind 7) h refl

same_size : (kind : ℕ) (b : List ℕ) → 4 ≤ length b → length (clock_valued kind b) ≡ length b
same_size kind b h =
    length-append (value_bytes kind (take 4 b)) (drop 4 b)
    ∙ omega (arith, value_length kind (take 4 b) (length-take-le 4 b h), length-drop 4 b)

-- as the code chooses it
pub told_bytes : (kind : ℕ) (b : List ℕ) {value told : ℕ} → AllBytes b → 4 ≤ length b → value ≡ number 4 b 0
    → told ≡ (if eqb kind 7 then value else 0) → bytes 4 told ≡ value_bytes kind (take 4 b)
unfolding value_bytes
told_bytes kind b {value} {told} h l e t =
    by_test (eqb kind 7)
    (λ k. ap (bytes 4) (t ∙ if_true _ _ _ k ∙ e) ∙ bytes_number 4 0 b h l ∙ sym (if_true _ _ _ k))
    (λ k. ap (bytes 4) (t ∙ if_false _ _ _ k) ∙ sym (if_false _ _ _ k))

-- what the loop asks: n records of the sheet, and their answers
pub record Answered (n : ℕ) (sheet answers : List ℕ) : Type 0 where
  pub within : n ≤ record_count sheet
  pub room : answer_length * n ≤ length answers

-- ---- of a run over no memories this is the preview

-- the same of an answer
abbrev valued : Step → Answer → Answer
valued (Read z a) y = with_value 0 y
valued (Write z a v) y = with_value 0 y
valued (Waitcnt v) y = with_value 0 y
valued (Idle n) y = with_value 0 y
valued (Fetch a) y = with_value 0 y
valued (Restart a) y = with_value 0 y
valued (Instruction v isa a op jump) y = y
valued (Pc a) y = with_value 0 y
valued (Latch v) y = with_value 0 y
valued (BlockRead a n) y = with_value 0 y
valued (BlockWrite a n) y = with_value 0 y

valued_answer : (r : SheetRecord) (y : Answer) → clock_valued r.kind (answer_bytes y) ≡ answer_bytes (valued (step_of r) y)
unfolding value_bytes
valued_answer r y =
    by_kind (λ (k : ℕ) (x : Step). clock_valued k (answer_bytes y) ≡ answer_bytes (valued x y)) r
    refl refl refl refl refl refl refl refl refl refl (λ o. rw o.instruction)

-- no place of a store of no bytes
none_within : (ps : List Put) → All (λ (p : Put). p.place < 0) ps → ps ≡ []
none_within [] h = refl
none_within (p ∷ ps) h = absurd (omega (arith, h.0))

nothing_lands : (mode : ℕ) (z : AccessSize) (a v : ℕ) → puts no_lengths mode z a v ≡ []
nothing_lands mode z a v = none_within _ (written no_lengths mode z a v).own

-- nor of a block's
none_of_block : (d : Contents) (s : List ℕ) (a n : ℕ) → (block_stores no_lengths d s a n).puts ≡ []
none_of_block d s a n = none_within _ (block_own no_lengths d s a n)

-- over no memories: the values are all that is left to blank
module _ (bios rom : List ℕ) where
  abbrev media : Media
  media = record { bios = bios; rom = rom; lengths = no_lengths }

  step_valued : (s : State) (x : Step) → valued x (answer media s x) ≡ blanked x (answer media s x)
  step_valued s (Read z a) = refl
  step_valued s (Write z a v) =
      ap (λ (n : ℕ). with_hits n (answer media s (Write z a v)))
      (write_hits media s z a v ∙ ap length (nothing_lands (mode_of no_lengths s.store) z a v))
  step_valued s (Waitcnt v) = refl
  step_valued s (Idle n) = refl
  step_valued s (Fetch a) = refl
  step_valued s (Restart a) = refl
  step_valued s (Instruction v isa a op jump) = refl
  step_valued s (Pc a) = refl
  step_valued s (Latch v) = refl
  step_valued s (BlockRead a n) = refl
  step_valued s (BlockWrite a zero) = refl
  step_valued s (BlockWrite a (suc n)) =
      ap (λ (k : ℕ). with_hits k (answer media s (BlockWrite a (suc n))))
      (zero-add _ ∙ ap length (none_of_block s.board.contents s.store a (suc n)))

  run_valued : (s : State) (xs : List Step)
      → each_step valued xs (run media s xs).answers ≡ each_step blanked xs (run media s xs).answers
  unfolding run
  run_valued s [] = refl
  run_valued s (x ∷ xs) = ap₂ (λ (y : Answer) (ys : List Answer). y ∷ ys) (step_valued s x) (run_valued (stepped media s x) xs)

-- so the answers are then those of the preview
pub preview_from : (q : Asked) (rest : List ℕ)
    → each_answer clock_valued (records_of q.sheet) (answers_bytes (ran (lent_with q no_memories)).answers ++ rest)
    ≡ answers_bytes (preview_answers q) ++ rest
unfolding ran preview_answers
preview_from q rest =
    let i = lent_with q no_memories in
    each_answer_law clock_valued valued valued_answer (records_of q.sheet) (ran i).answers rest
    (answers_count i ∙ sym (records_length q.sheet 0 (record_count q.sheet)))
    ∙ ap (λ (ys : List Answer). answers_bytes ys ++ rest)
    (run_valued [] [] (first_state i) (steps_of q.sheet) ∙ run_blanked (media_of i) (first_state i) (steps_of q.sheet))

-- ---- the loop's invariant, with its beginning, its turn and its end as laws on plain lists

module _ (n : ℕ) (sheet lent : List ℕ) where
  -- the answers of the records from number k on, with their values told
  abbrev told_from : ℕ → ℕ → List ℕ
  told_from k m = each_answer clock_valued (records_from sheet k m) (drop (answer_length * k) lent)

  pub record Going (now : List ℕ) (k : ℕ) : Type 0 where
    pub done : now ≡ take (answer_length * k) lent ++ told_from k (n - k)
    pub size : length now ≡ length lent
    pub within : k ≤ n

  pub begin : Going lent n
  unfolding records_from
  begin =
      record {
        done =
            sym (take-append-drop (answer_length * n) lent)
            ∙ ap (λ (m : ℕ). take (answer_length * n) lent ++ told_from n m) (sym (sub_self n));
        size = refl;
        within = omega arith;
      }

  pub finish : {now : List ℕ} → Going now 0 → now ≡ each_answer clock_valued (records_from sheet 0 n) lent
  finish g = g.done ∙ ap (told_from 0) (sub-zero n)

  -- record k - 1 is the next one
  module _ {now : List ℕ} {k : ℕ} (g : Going now k) (some : 0 < k) (room : answer_length * n ≤ length lent) where
    abbrev at : ℕ
    at = answer_length * (k - 1)

    fits : at + answer_length ≤ length lent
    fits = omega (arith, g.within)

    now_is : now ≡ take (at + answer_length) lent ++ told_from k (n - k)
    now_is =
        let place : answer_length * k ≡ at + answer_length = omega arith in
        g.done ∙ ap (λ (j : ℕ). take j lent ++ told_from k (n - k)) place

    -- its answer is as it was
    part_is : take answer_length (drop at now) ≡ take answer_length (drop at lent)
    part_is =
        ap (λ (l : List ℕ). take answer_length (drop at l)) now_is ∙ mid_before at answer_length lent (told_from k (n - k)) fits

    further : told_from (k - 1) (n - (k - 1))
        ≡ clock_valued (record_at sheet (k - 1)).kind (take answer_length (drop at lent)) ++ told_from k (n - k)
    unfolding records_from
    further =
        let one_more : n - (k - 1) ≡ suc (n - k) = omega (arith, g.within) in
        let one_on : k - 1 + 1 ≡ k = omega arith in
        let place : at + answer_length ≡ answer_length * k = omega arith in
        ap (told_from (k - 1)) one_more
        ∙ ap₂
        (λ (j : ℕ) (l : List ℕ).
        clock_valued (record_at sheet (k - 1)).kind (take answer_length (drop at lent))
        ++ each_answer clock_valued (records_from sheet j (n - k)) l)
        one_on (drop-drop answer_length at lent ∙ ap (λ (j : ℕ). drop j lent) place)

    pub turn : {part kind : ℕ} {new : List ℕ} → part ≡ answer_length → kind ≡ (record_at sheet (k - 1)).kind
        → new ≡ clock_valued kind (take part (drop at now)) → Going (put_mid at part now new) (k - 1)
    turn {part} {kind} {new} w e h =
        let told : new ≡ clock_valued (record_at sheet (k - 1)).kind (take answer_length (drop at lent)) =
        h
        ∙ ap₂ (λ (j p : ℕ). clock_valued j (take p (drop at now))) e w
        ∙ ap (clock_valued (record_at sheet (k - 1)).kind) part_is in
        let long : 4 ≤ length (take part (drop at now)) =
        omega
        (arith, length-take-le part (drop at now) (omega (arith, length-drop at now, g.size, fits, w)), w) in
        let kept : length new ≡ length (take part (drop at now)) =
        ap length h ∙ same_size kind (take part (drop at now)) long in
        record {
          done =
              ap₂ (λ (p : ℕ) (l : List ℕ). put_mid at p l new) w now_is
              ∙ put_before at answer_length lent (told_from k (n - k)) new fits
              ∙ ap (λ (l : List ℕ). take at lent ++ l) (ap (λ (l : List ℕ). l ++ told_from k (n - k)) told ∙ sym further);
          size = same_len_mid at part now new kept ∙ g.size;
          within = omega (arith, g.within);
        }
