-- Nothing is cut off: every answer's value, cycles, hits and count fit their bytes, and the total is at most 4096 (2^32 - 1).
-- The board that an accepted run writes is sound.
use Rattle.std.specs.Prelude.{◌≡◌, refl, Bool, true, ℕ, zero, suc, ◌+◌, ◌*◌, ◌/◌, ◌%◌, ◌^◌, ◌≤◌, ◌<◌, length, eqb, leb}
use Rattle.std.proofs.Math.Path.{ap}
use Rattle.std.proofs.Common.{◌∙◌, arith, eqb-true, leb-true, eq-eqb, le-leb}
use mathlib.Core.List.{List, [], ◌∷◌, map}
use Rattle.std.proofs.lemmas.List.{length-map}
use Rattle.model.specs.Base.{bit, sum, byte_at, number, AllBytes}
use Rattle.model.specs.Price.{previous}
use Rattle.model.specs.Step.{Media, State, run, stepped, answer}
use Rattle.model.specs.Sheet.{max_records, is_shaped, record_start, record_count, record_at}
use Rattle.model.specs.Sheet.{records_from, records_of, step_of, steps_of}
use Rattle.model.specs.BoardBytes.{board_length, clock_of, board_of, board_bytes, fresh_board}
use Rattle.model.specs.BoardBytes.{sound_prefetch, sound_previous, sound_bytes, sound}
use Rattle.model.specs.Outcome.{Lent, LentBytes, Outcome, media_of, first_state, ran, outcome}
use Rattle.model.specs.Laws.Choice.{All}
use Rattle.model.proofs.Laws.Choice.{choose, parts, and-true, bit≤1}
use Rattle.model.proofs.Laws.Previous.{size≤4}
use Rattle.model.proofs.Laws.Bounds.{step_bounded}
use Rattle.model.specs.Laws.Sound.{Stands, SoundClock}
use Rattle.model.proofs.Laws.Sound.{clock_after_sound, fresh_sound}
use Rattle.model.proofs.Laws.SoundTest.{sound_true, true_sound}
use Rattle.model.proofs.Laws.Run.{run_length, run_sound, run_halves}
use Rattle.model.specs.Laws.Codec.{ClockFits, Fits}
use Rattle.model.proofs.Laws.Codec.{number_below, decoded_fits, clock_back}
use Rattle.model.proofs.Laws.Codec.{board_length_law, zero_byte_law, zero_bytes}
use Rattle.model.proofs.Laws.Codec.{force_byte, filling_byte, first_byte}
use Rattle.model.specs.Laws.Values.{MediaBytes, Held, SmallLatch}
use Rattle.model.proofs.Laws.Values.{changed_fits, stepped_held}
use Rattle.model.proofs.Laws.Limits.{short_step, cycles_fit, records_length}
use Rattle.model.specs.Laws.Refusal.{Acceptable}
use Rattle.model.proofs.Laws.Refusal.{zero_exactly, was_accepted}
use Rattle.model.specs.declared.Clock.{Clock}
use Rattle.model.specs.declared.Board.{Board}
use Rattle.model.specs.declared.Answer.{Answer}
use Rattle.model.specs.declared.SheetRecord.{SheetRecord}
use Rattle.model.specs.declared.Step.{Step}
use Rattle.model.specs.Laws.Fits.{AnswerFits, StepFits, Fine}

-- ---- soundness, of bytes

-- sound bytes hold a sound clock
pub sound_clock : (b : List ℕ) → AllBytes b → sound b ≡ true → SoundClock (clock_of b)
unfolding sound sound_bytes clock_of
sound_clock b h e =
    record {
      size = number_below 2 0 b h;
      bit13 = eqb-true (number 2 b 0 / 0x2000 % 2) 0 (search parts);
      switch = refl;
      buffer = sound_true (clock_of b).prefetch (number_below 4 12 b h) (search parts);
      previous = record { small = number_below 4 68 b h; tested = search parts };
    }

-- a sound clock fits its bytes
head_fits_law : (c : Clock) → SoundClock c → c.prefetch.head_addr < 2 ^ 32
head_fits_law c k = go c.prefetch.count refl
  where
    go : (n : ℕ) → c.prefetch.count ≡ n → c.prefetch.head_addr < 2 ^ 32
    go zero e = let z : c.prefetch.head_addr ≡ 0 = k.buffer.empty e in omega arith
    go (suc n) e =
        let d : Stands c.prefetch.head_addr c.prefetch.count c.prefetch.next_addr =
        k.buffer.stands (omega arith) in
        omega arith

pub clock_fits : (c : Clock) → SoundClock c → ClockFits c
clock_fits c k =
    record {
      waitcnt_fits = k.size;
      head_fits_law = omega (arith, k.buffer.head≤7);
      count_fits = omega (arith, k.buffer.count≤8);
      wait_left_fits = omega (arith, k.buffer.wait≤9);
      next_addr_fits = k.buffer.next<2³²;
      head_addr_fits = head_fits_law c k;
      switch = k.switch;
      prev_addr_fits = k.previous.small;
      prev_size_fits = omega (arith, size≤4 (previous c) k.previous);
    }

-- a board with a sound clock is written as sound bytes
written_bit13 : (b : Board) → SoundClock b.clock → length b.halves ≡ 8
    → eqb (number 2 (board_bytes b) 0 / 0x2000 % 2) 0 ≡ true
unfolding clock_of
written_bit13 b k eight =
    ap (λ (c : Clock). eqb (c.waitcnt / 0x2000 % 2) 0) (clock_back b eight (clock_fits b.clock k))
    ∙ eq-eqb (b.clock.waitcnt / 0x2000 % 2) 0 k.bit13

written_flag : (x : ℕ) (t : Bool) → x ≡ bit t → leb x 1 ≡ true
written_flag x t e = le-leb x 1 (rw e (bit≤1 t))

pub written_sound : (b : Board) → SoundClock b.clock → length b.halves ≡ 8 → sound (board_bytes b) ≡ true
unfolding sound sound_bytes
written_sound b k eight =
    let back = clock_back b eight (clock_fits b.clock k) in
    and-true _ _
    (and-true _ _
    (and-true _ _ (eq-eqb (length (board_bytes b)) board_length (board_length_law b eight))
    (and-true _ _
    (and-true _ _
    (and-true _ _
    (and-true _ _
    (and-true _ _ (eq-eqb (byte_at (board_bytes b) 7) 0 (zero_byte_law b))
    (eq-eqb (number 7 (board_bytes b) 73) 0 (zero_bytes b eight)))
    (written_flag _ b.clock.force_next_fetch_n (force_byte b)))
    (written_flag _ b.clock.prefetch.filling (filling_byte b)))
    (written_flag _ b.clock.prefetch.first_beat (first_byte b)))
    (written_bit13 b k eight)))
    (ap (λ (c : Clock). sound_prefetch c.prefetch) back ∙ true_sound b.clock.prefetch k.buffer))
    (ap (λ (c : Clock). sound_previous (previous c)) back ∙ k.previous.tested)

-- the fresh board is sound
pub fresh_board_law : sound (board_bytes fresh_board) ≡ true
fresh_board_law = written_sound fresh_board fresh_sound refl

-- ---- the fields of an answer

module _ (m : Media) (b : MediaBytes m) where
  answer_fits : (s : State) (x : Step) → Fine s → StepFits x → AnswerFits (answer m s x)
  answer_fits s x f h =
      let fits = changed_fits m b s f.held x h.latch in
      record {
        value = fits.value;
        cycles = h.cycles s.board.clock;
        hits = omega (arith, (step_bounded s.board.clock x).hits, fits.few, h.short.short);
        count = (clock_after_sound s.board.clock x f.clock).buffer.count≤8;
      }

  stepped_fine : (s : State) (x : Step) → Fine s → StepFits x → Fine (stepped m s x)
  stepped_fine s x f h =
      record { clock = clock_after_sound s.board.clock x f.clock; held = stepped_held m b s f.held x h.latch }

  run_fits : (s : State) (xs : List Step) → Fine s → All StepFits xs → All AnswerFits (run m s xs).answers
  unfolding run
  run_fits s [] f h = tt
  run_fits s (x ∷ xs) f h = (answer_fits s x f h.0, run_fits (stepped m s x) xs (stepped_fine s x f h.0) h.1)

sum_fits : (xs : List Answer) → All AnswerFits xs → sum (map (λ (x : Answer). x.cycles) xs) ≤ 0xFFFF_FFFF * length xs
sum_fits [] a = omega arith
sum_fits (x ∷ xs) a = omega (arith, a.0.cycles, sum_fits xs a.1)

-- ---- the records of a sheet of bytes

latch_small : (r : SheetRecord) → r.value < 2 ^ 32 → SmallLatch (step_of r)
unfolding step_of
latch_small r h =
    choose SmallLatch (eqb r.kind 1) (λ e v y. no cc)
    λ e₁. choose SmallLatch (eqb r.kind 2) (λ e v y. no cc)
    λ e₂. choose SmallLatch (eqb r.kind 3) (λ e v y. no cc)
    λ e₃. choose SmallLatch (eqb r.kind 4) (λ e v y. no cc)
    λ e₄. choose SmallLatch (eqb r.kind 5) (λ e v y. no cc)
    λ e₅. choose SmallLatch (eqb r.kind 6) (λ e v y. no cc)
    λ e₆. choose SmallLatch (eqb r.kind 7) (λ e v y. no cc)
    λ e₇. choose SmallLatch (eqb r.kind 8) (λ e v y. no cc)
    λ e₈. choose SmallLatch (eqb r.kind 10) (λ e v y. no cc)
    λ e₁₀. choose SmallLatch (eqb r.kind 11) (λ e v y. no cc)
    λ e₁₁ v y. let same : r.value ≡ v = cc in rw (← same) h
  where
    no : {A : Type 0} → ◌≡◌ {A = ℕ} 0 1 → A
    no z = absurd (omega arith)

record_fits : (s : List ℕ) (k : ℕ) → AllBytes s → StepFits (step_of (record_at s k))
unfolding record_at
record_fits s k h =
    let small = number_below 4 (record_start k + 8) s h in
    record {
      latch = latch_small (record_at s k) small;
      short = short_step (record_at s k);
      cycles = λ c. cycles_fit c (record_at s k) (omega arith);
    }

records_fit : (s : List ℕ) (k n : ℕ) → AllBytes s → All StepFits (map step_of (records_from s k n))
unfolding records_from
records_fit s k zero h = tt
records_fit s k (suc n) h = (record_fits s k h, records_fit s (k + 1) n h)

-- ---- an accepted run

-- an answer a record
pub answers_count : (i : Lent) → length (ran i).answers ≡ record_count i.sheet
unfolding ran
answers_count i =
    run_length (media_of i) (first_state i) (steps_of i.sheet) ∙ length-map (records_of i.sheet) step_of
    ∙ records_length i.sheet 0 (record_count i.sheet)

module _ (i : Lent) (lent : LentBytes i) (ok : (outcome i).number ≡ 0) where
  acceptable : Acceptable i
  acceptable = (zero_exactly i).0 ok

  pub first_sound : SoundClock (clock_of i.board)
  first_sound = sound_clock i.board lent.board acceptable.board

  first_held : Held (first_state i)
  first_held =
      let f : Fits (board_of i.board) = decoded_fits i.board lent.board in
      record { store = lent.store; halves = f.halves_fit.halves_fit; latch = f.contents_fits.opcode_fits }

  pub answers_fit : All AnswerFits (ran i).answers
  unfolding ran
  answers_fit =
      run_fits (media_of i) (record { bios = lent.bios; rom = lent.rom }) (first_state i) (steps_of i.sheet)
      (record { clock = first_sound; held = first_held })
      (records_fit i.sheet 0 (record_count i.sheet) lent.sheet)

  pub total_fits : (outcome i).total ≤ max_records * 0xFFFF_FFFF
  total_fits =
      let shaped : is_shaped i.sheet ≡ true = acceptable.shaped in
      let few : leb (record_count i.sheet) max_records ≡ true = search parts in
      let most : record_count i.sheet ≤ max_records = leb-true (record_count i.sheet) max_records few in
      rw (was_accepted i ok) (omega (arith, sum_fits (ran i).answers answers_fit, answers_count i))

  pub board_sound : sound (outcome i).board ≡ true
  unfolding ran
  board_sound =
      ap (λ (o : Outcome). sound o.board) (was_accepted i ok)
      ∙ written_sound (ran i).state.board
      (run_sound (media_of i) (first_state i) (steps_of i.sheet) first_sound)
      (run_halves 8 (media_of i) (first_state i) (steps_of i.sheet) refl)
