-- A run goes step by step: run over xs ++ ys is run over ys after run over xs; it has one answer a step, and keeps what every
-- step keeps.
use Rattle.std.specs.Prelude.{◌≡◌, refl, List, [], ◌∷◌, ◌++◌, ℕ, zero, suc, ◌<◌, length, get_or, take, set}
use Rattle.std.proofs.Common.{ap, ◌∙◌, arith, length-set}
use Rattle.model.specs.Waitcnt.{Waits}
use Rattle.model.specs.Prefetch.{tick1, arrives, slot, filled}
use Rattle.model.specs.Store.{Put, landed}
use Rattle.model.specs.Step.{Media, State, Result, run, changed, stepped, answer}
use Rattle.model.proofs.Laws.Choice.{either}
use Rattle.model.specs.Laws.Sound.{SoundClock}
use Rattle.model.proofs.Laws.Sound.{clock_after_sound}
use Rattle.model.specs.declared.PrefetchBuffer.{PrefetchBuffer}
use Rattle.model.specs.declared.Answer.{Answer}
use Rattle.model.specs.declared.Step.{Step}
use Rattle.model.specs.Laws.Run.{continued}

pub run_append : (m : Media) (s : State) (xs ys : List Step)
    → run m s (xs ++ ys) ≡ continued (run m s xs) (run m (run m s xs).state ys)
unfolding run
run_append m s [] ys = refl
run_append m s (x ∷ xs) ys =
    ap (λ (r : Result). record { answers = answer m s x ∷ r.answers; state = r.state }) (run_append m (stepped m s x) xs ys)

-- one step more
pub run_snoc : (m : Media) (s : State) (xs : List Step) (x : Step)
    → run m s (xs ++ x ∷ [])
    ≡ record {
      answers = (run m s xs).answers ++ answer m (run m s xs).state x ∷ [];
      state = stepped m (run m s xs).state x;
    }
unfolding run
run_snoc m s xs x = run_append m s xs (x ∷ [])

-- an answer a step
pub run_length : (m : Media) (s : State) (xs : List Step) → length (run m s xs).answers ≡ length xs
unfolding run
run_length m s [] = refl
run_length m s (x ∷ xs) = ap suc (run_length m (stepped m s x) xs)

-- what every step keeps, a run keeps
pub run_keeps : (P : State → Type 0) (m : Media) → ((s : State) (x : Step) → P s → P (stepped m s x))
    → (s : State) (xs : List Step) → P s → P (run m s xs).state
unfolding run
run_keeps P m k s [] p = p
run_keeps P m k s (x ∷ xs) p = run_keeps P m k (stepped m s x) xs (k s x p)

-- answer k is that of step k, in the state that the first k steps leave
pub run_at : (m : Media) (s : State) (xs : List Step) (k : ℕ) (d : Answer) (e : Step) → k < length xs
    → get_or (run m s xs).answers k d ≡ answer m (run m s (take k xs)).state (get_or xs k e)
unfolding run
run_at m s [] k d e h = absurd (omega arith)
run_at m s (x ∷ xs) zero d e h = refl
run_at m s (x ∷ xs) (suc k) d e h = run_at m (stepped m s x) xs k d e (omega arith)

-- ---- the clock stays sound

pub run_sound : (m : Media) (s : State) (xs : List Step)
    → SoundClock s.board.clock → SoundClock (run m s xs).state.board.clock
run_sound m = run_keeps (λ (s : State). SoundClock s.board.clock) m (λ s x k. clock_after_sound s.board.clock x k)

-- ---- the eight halfwords stay eight, and the store keeps its length

filled_length : (read : ℕ → ℕ) (t : Waits) (n : ℕ) (p : PrefetchBuffer) (h : List ℕ) → length (filled read t n p h) ≡ length h
unfolding filled
filled_length read t zero p h = refl
filled_length read t (suc n) p h =
    filled_length read t n (tick1 t p) _
    ∙ either (λ (l : List ℕ). length l ≡ length h) (arrives t p) (length-set h (slot p) (read p.next_addr)) refl

pub landed_length : (s : List ℕ) (ps : List Put) → length (landed s ps) ≡ length s
landed_length s [] = refl
landed_length s (p ∷ ps) = landed_length (set s p.place p.byte) ps ∙ length-set s p.place p.byte

step_halves : (m : Media) (s : State) (x : Step) → length (stepped m s x).board.halves ≡ length s.board.halves
step_halves m s x = filled_length _ _ _ _ s.board.halves

step_store : (m : Media) (s : State) (x : Step) → length (stepped m s x).store ≡ length s.store
step_store m s x = landed_length s.store (changed m s x).puts

pub run_halves : (n : ℕ) (m : Media) (s : State) (xs : List Step)
    → length s.board.halves ≡ n → length (run m s xs).state.board.halves ≡ n
run_halves n m = run_keeps (λ (s : State). length s.board.halves ≡ n) m (λ s x k. step_halves m s x ∙ k)

pub run_store : (n : ℕ) (m : Media) (s : State) (xs : List Step)
    → length s.store ≡ n → length (run m s xs).state.store ≡ n
run_store n m = run_keeps (λ (s : State). length s.store ≡ n) m (λ s x k. step_store m s x ∙ k)
