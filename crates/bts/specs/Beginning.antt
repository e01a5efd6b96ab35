-- A beginning of a sheet: its first k records, run by themselves. The loop's contract and its invariant are about one, so that
-- a run that stops early is no other claim than a run of the whole sheet.
use Rattle.std.specs.Prelude.{◌≡◌, List, [], ◌∷◌, ◌++◌, map, ℕ, suc, ◌+◌, ◌*◌, ◌≤◌, ◌<◌, drop}
use Rattle.std.proofs.Math.Path.{refl, ap}
use Rattle.std.proofs.Common.{sym, ap₂, ◌∙◌, arith, length-append, length-drop}
use Rattle.std.proofs.Math.ListN.{length}
use borrow.Rule.Slice.PartMut.{put_mid}
use Rattle.model.specs.Base.{sum}
use Rattle.model.specs.Waitcnt.{Waits, rom_waits_of}
use Rattle.model.specs.Step.{Media, State, Result, run, total, stepped, answer}
use Rattle.model.specs.Sheet.{record_count, record_at, records_from, step_of}
use Rattle.model.specs.BoardBytes.{answer_length, answer_bytes, answers_bytes}
use Rattle.model.specs.Memory.{lengths_sum}
use Rattle.model.proofs.Laws.Choice.{all_of}
use Rattle.model.proofs.Laws.Codec.{OfWidth, blocks_length, blocks_snoc, put_next}
use Rattle.model.proofs.Laws.Run.{run_snoc, run_length, run_store}
use Rattle.model.proofs.Laws.Limits.{records_length, steps_snoc}
use Rattle.step.specs.Begun.{state_from, Steps}
use Rattle.step.specs.declared.Stepped.{Stepped}
use Rattle.model.specs.declared.Lengths.{Lengths}
use Rattle.model.specs.declared.SheetRecord.{SheetRecord}
use Rattle.model.specs.declared.Answer.{Answer}
use Rattle.model.specs.declared.Step.{Step}
use Rattle.bts.specs.declared.run.Done.{Done}

-- ---- what a beginning leaves

-- the run of the first k records
abbrev pub ran_to : Media → State → List ℕ → ℕ → Result
ran_to m s sheet k = run m s (map step_of (records_from sheet 0 k))

-- from the state `s₀`, with `lent` where the answers go: the state after k records, their answers written, and their cycles
pub record Beginning (m : Media) (s₀ : State) (sheet lent : List ℕ) (k : ℕ) (s : State) (answers : List ℕ) (cycles : ℕ)
    : Type 0 where
  pub state : s ≡ (ran_to m s₀ sheet k).state
  pub written : answers ≡ answers_bytes (ran_to m s₀ sheet k).answers ++ drop (answer_length * k) lent
  pub summed : cycles ≡ total (ran_to m s₀ sheet k)

-- ---- the contract of `run_core`

-- what it asks: n records of the sheet, room for their answers, and lengths that add up to the store
pub record Runs (l : Lengths) (n : ℕ) (sheet store answers : List ℕ) : Type 0 where
  pub within : n ≤ record_count sheet
  pub room : answer_length * n ≤ length answers
  pub whole : lengths_sum l ≡ length store

-- what it promises: the beginning of as many steps as it tells, which are all n
pub record Ends (m : Media) (s₀ : State) (sheet : List ℕ) (n : ℕ) (lent : List ℕ) (r : Done) (halves store answers : List ℕ)
    : Type 0 where
  pub beginning : Beginning m s₀ sheet lent r.steps (state_from r.machine.clock halves r.machine.contents store) answers r.total
  pub all : r.steps ≡ n

-- ---- one record more

-- the run of k + 1 records is that of k, and one step
ran_further : (m : Media) (s : State) (sheet : List ℕ) (k : ℕ)
    → ran_to m s sheet (k + 1)
    ≡ record {
      answers = (ran_to m s sheet k).answers ++ answer m (ran_to m s sheet k).state (step_of (record_at sheet k)) ∷ [];
      state = stepped m (ran_to m s sheet k).state (step_of (record_at sheet k));
    }
ran_further m s sheet k =
    ap (run m s) (steps_snoc sheet k) ∙ run_snoc m s (map step_of (records_from sheet 0 k)) (step_of (record_at sheet k))

cycles_snoc : (xs : List Answer) (x : Answer)
    → sum (map (λ (y : Answer). y.cycles) (xs ++ x ∷ [])) ≡ sum (map (λ (y : Answer). y.cycles) xs) + x.cycles
cycles_snoc [] x = omega arith
cycles_snoc (y ∷ xs) x = omega (arith, cycles_snoc xs x)

pub answers_size : (xs : List Answer) → length (answers_bytes xs) ≡ answer_length * length xs
answers_size xs =
    blocks_length answer_length answer_bytes xs (all_of (OfWidth answer_length answer_bytes) (λ x. refl) xs)

module _ (m : Media) (s₀ : State) (sheet lent : List ℕ) where
  -- the bytes of k answers
  done_size : (k : ℕ) → length (answers_bytes (ran_to m s₀ sheet k).answers) ≡ answer_length * k
  done_size k =
      answers_size (ran_to m s₀ sheet k).answers
      ∙ ap (λ (j : ℕ). answer_length * j)
      (run_length m s₀ (map step_of (records_from sheet 0 k)) ∙ map_size (records_from sheet 0 k) ∙ records_length sheet 0 k)
    where
      map_size : (rs : List SheetRecord) → length (map step_of rs) ≡ length rs
      map_size [] = refl
      map_size (r ∷ rs) = ap suc (map_size rs)

  -- the answers keep their length
  pub same_room : {k : ℕ} {s : State} {answers : List ℕ} {cycles : ℕ} → Beginning m s₀ sheet lent k s answers cycles
      → answer_length * k ≤ length lent → length answers ≡ length lent
  same_room {k} b room =
      ap length b.written
      ∙ length-append (answers_bytes (ran_to m s₀ sheet k).answers) (drop (answer_length * k) lent)
      ∙ omega (arith, done_size k, length-drop (answer_length * k) lent)

  -- none is done
  pub nothing : Beginning m s₀ sheet lent 0 s₀ lent 0
  unfolding records_from run
  nothing = record { state = refl; written = refl; summed = refl }

  -- record k is done, and its answer stands where it belongs
  pub further : {k : ℕ} {s t : State} {answers left : List ℕ} {cycles sum : ℕ} → Beginning m s₀ sheet lent k s answers cycles
      → t ≡ stepped m s (step_of (record_at sheet k))
      → left ≡ put_mid (answer_length * k) answer_length answers (answer_bytes (answer m s (step_of (record_at sheet k))))
      → sum ≡ cycles + (answer m s (step_of (record_at sheet k))).cycles
      → Beginning m s₀ sheet lent (k + 1) t left sum
  further {k} {s} {t} {answers} {left} {cycles} {sum} b et el es =
      let before : Result = ran_to m s₀ sheet k in
      let x : Step = step_of (record_at sheet k) in
      let a : Answer = answer m before.state x in
      let more : ran_to m s₀ sheet (k + 1) ≡ record { answers = before.answers ++ a ∷ []; state = stepped m before.state x } =
      ran_further m s₀ sheet k in
      record {
        state = et ∙ ap (λ (u : State). stepped m u x) b.state ∙ sym (ap (λ (r : Result). r.state) more);
        written =
            el
            ∙ ap₂ (λ (l : List ℕ) (u : State). put_mid (answer_length * k) answer_length l (answer_bytes (answer m u x)))
            b.written b.state
            ∙ put_next answer_length k (answers_bytes before.answers) lent (answer_bytes a) (done_size k)
            ∙ ap (λ (l : List ℕ). l ++ drop (answer_length * (k + 1)) lent)
            (sym (blocks_snoc answer_bytes before.answers a) ∙ ap answers_bytes (sym (ap (λ (r : Result). r.answers) more)));
        summed =
            es
            ∙ ap₂ (λ (n : ℕ) (u : State). n + (answer m u x).cycles) b.summed b.state
            ∙ sym (ap total more ∙ cycles_snoc before.answers a);
      }

-- ---- the loop's invariant, with its beginning, its turn and its end as laws on plain lists

pub record Going (m : Media) (s₀ : State) (sheet : List ℕ) (n : ℕ) (lent : List ℕ)
    (waits : Waits) (s : State) (answers : List ℕ) (cycles k : ℕ) : Type 0 where
  pub beginning : Beginning m s₀ sheet lent k s answers cycles
  pub within : k ≤ n
  pub most : cycles ≤ 0xFFFF_FFFF * k
  pub current : waits ≡ rom_waits_of s.board.clock.waitcnt
  pub whole : lengths_sum m.lengths ≡ length s.store

module _ {m : Media} {s₀ : State} {sheet lent : List ℕ} {n : ℕ} where
  pub begin : {waits : Waits} → Runs m.lengths n sheet s₀.store lent
      → waits ≡ rom_waits_of s₀.board.clock.waitcnt → Going m s₀ sheet n lent waits s₀ lent 0 0
  begin r w =
      record {
        beginning = nothing m s₀ sheet lent;
        within = omega arith;
        most = omega arith;
        current = w;
        whole = r.whole;
      }

  -- record k, whose step is `x`, is done: the step's own promise, its answer in its place, and the waits of the register as it
  -- is now
  module _ {k : ℕ} {s : State} {waits : Waits} {answers : List ℕ} {cycles : ℕ}
      (g : Going m s₀ sheet n lent waits s answers cycles k) {x : Step} (record-k : x ≡ step_of (record_at sheet k))
      {r : Stepped} {halves store : List ℕ} (step : Steps m s x r halves store) where
    -- the store keeps its length
    pub same_size : length store ≡ length s.store
    unfolding run
    same_size = ap (λ (t : State). length t.store) step.state_is ∙ run_store (length s.store) m s (x ∷ []) refl

    pub turn : {new : Waits} {part : ℕ} {bytes : List ℕ} → k < n → r.answer.cycles ≤ 0xFFFF_FFFF → part ≡ answer_length
        → bytes ≡ answer_bytes r.answer → new ≡ rom_waits_of r.machine.clock.waitcnt
        → Going m s₀ sheet n lent new (state_from r.machine.clock halves r.machine.contents store)
        (put_mid (answer_length * k) part answers bytes) (cycles + r.answer.cycles) (k + 1)
    turn {new} {part} {bytes} below small twelve written w =
        let told : r.answer ≡ answer m s (step_of (record_at sheet k)) = step.answer_is ∙ ap (answer m s) record-k in
        record {
          beginning =
              further m s₀ sheet lent g.beginning
              (step.state_is ∙ ap (stepped m s) record-k)
              (ap₂ (λ (j : ℕ) (b : List ℕ). put_mid (answer_length * k) j answers b) twelve (written ∙ ap answer_bytes told))
              (ap (λ (a : Answer). cycles + a.cycles) told);
          within = omega arith;
          most = omega (arith, g.most);
          current = w;
          whole = g.whole ∙ sym same_size;
        }
