-- The core of what is the same for every memory and of the preview, one law for both: a run's answers, without what only the
-- memories tell, are those of its clock and its steps alone.
use Rattle.std.specs.Prelude.{◌≡◌, refl, List, [], ◌∷◌, ◌++◌, ℕ, zero, suc, ◌<◌, length, get_or}
use Rattle.std.proofs.Common.{sym, ap, ◌∙◌, arith, add-zero}
use Rattle.model.specs.Base.{bit, sum}
use Rattle.model.specs.Prefetch.{hit}
use Rattle.model.specs.Step.{Media, State, run, cycles_in, cycles_of, total, code_hits, clock_after, stepped, answer}
use Rattle.model.specs.Preview.{foretold, previewed}
use Rattle.model.specs.Grounds.{grounds as groundsOf, grounds_after}
use Rattle.model.proofs.Laws.Run.{run_length}
use Rattle.model.specs.declared.Clock.{Clock}
use Rattle.model.specs.declared.Answer.{Answer}
use Rattle.model.specs.declared.Ground.{Ground}
use Rattle.model.specs.declared.Step.{Step}
use Rattle.model.specs.declared.Step.TheVariants.{Read, Write, Waitcnt, Idle, Fetch, Restart, Instruction, Pc, Latch}
use Rattle.model.specs.declared.Step.TheVariants.{BlockRead, BlockWrite}
use Rattle.model.specs.Laws.Times.{with_hits, blanked, each_step, clock_past, Shown, SameTimes}

-- ---- the law

step_blanked : (m : Media) (s : State) (x : Step) → blanked x (answer m s x) ≡ foretold s.board.clock x
step_blanked m s (Read z a) = refl
step_blanked m s (Write z a v) = refl
step_blanked m s (Waitcnt v) = refl
step_blanked m s (Idle n) = refl
step_blanked m s (Fetch a) =
    ap (λ (n : ℕ). with_hits n (foretold s.board.clock (Fetch a))) (add-zero (bit (hit s.board.clock.prefetch a)))
step_blanked m s (Restart a) = refl
step_blanked m s (Instruction v isa a op jump) =
    ap (λ (n : ℕ). with_hits n (foretold s.board.clock (Instruction v isa a op jump)))
    (add-zero (code_hits s.board.clock isa a))
step_blanked m s (Pc a) = refl
step_blanked m s (Latch v) = refl
step_blanked m s (BlockRead a n) = refl
step_blanked m s (BlockWrite a zero) = refl
step_blanked m s (BlockWrite a (suc n)) = refl

pub run_blanked : (m : Media) (s : State) (xs : List Step)
    → each_step blanked xs (run m s xs).answers ≡ previewed s.board.clock xs
unfolding run previewed
run_blanked m s [] = refl
run_blanked m s (x ∷ xs) =
    ap (λ (y : Answer). y ∷ each_step blanked xs (run m (stepped m s x) xs).answers) (step_blanked m s x)
    ∙ ap (λ (ys : List Answer). foretold s.board.clock x ∷ ys) (run_blanked m (stepped m s x) xs)

-- ---- one answer, and the cycles

pub each_at : (f : Step → Answer → Answer) (xs : List Step) (ys : List Answer) (k : ℕ) (e : Step) (d : Answer)
    → k < length xs → k < length ys → get_or (each_step f xs ys) k d ≡ f (get_or xs k e) (get_or ys k d)
each_at f [] ys k e d h l = absurd (omega arith)
each_at f (x ∷ xs) [] k e d h l = absurd (omega arith)
each_at f (x ∷ xs) (y ∷ ys) zero e d h l = refl
each_at f (x ∷ xs) (y ∷ ys) (suc k) e d h l = each_at f xs ys k e d (omega arith) (omega arith)

-- an answer's cycles are told by the clock
blanked_cycles : (x : Step) (y : Answer) → (blanked x y).cycles ≡ y.cycles
blanked_cycles (Read z a) y = refl
blanked_cycles (Write z a v) y = refl
blanked_cycles (Waitcnt v) y = refl
blanked_cycles (Idle n) y = refl
blanked_cycles (Fetch a) y = refl
blanked_cycles (Restart a) y = refl
blanked_cycles (Instruction v isa a op jump) y = refl
blanked_cycles (Pc a) y = refl
blanked_cycles (Latch v) y = refl
blanked_cycles (BlockRead a n) y = refl
blanked_cycles (BlockWrite a n) y = refl

all_cycles : (xs : List Step) (ys : List Answer) → length ys ≡ length xs → cycles_in (each_step blanked xs ys) ≡ cycles_in ys
all_cycles [] [] h = refl
all_cycles [] (y ∷ ys) h = absurd (omega (arith, h))
all_cycles (x ∷ xs) [] h = absurd (omega (arith, h))
all_cycles (x ∷ xs) (y ∷ ys) h =
    ap (λ (n : ℕ). n ∷ cycles_in (each_step blanked xs ys)) (blanked_cycles x y)
    ∙ ap (λ (cs : List ℕ). y.cycles ∷ cs) (all_cycles xs ys (omega (arith, h)))

pub run_cycles : (m : Media) (s : State) (xs : List Step) → cycles_of (run m s xs) ≡ cycles_in (previewed s.board.clock xs)
run_cycles m s xs = sym (all_cycles xs (run m s xs).answers (run_length m s xs)) ∙ ap cycles_in (run_blanked m s xs)

pub run_total : (m : Media) (s : State) (xs : List Step) → total (run m s xs) ≡ sum (cycles_in (previewed s.board.clock xs))
run_total m s xs = ap sum (run_cycles m s xs)

-- ---- the clock that steps leave, whatever the memories: a run can be previewed piece by piece

pub run_clock : (m : Media) (s : State) (xs : List Step) → (run m s xs).state.board.clock ≡ clock_past s.board.clock xs
unfolding run clock_past
run_clock m s [] = refl
run_clock m s (x ∷ xs) = run_clock m (stepped m s x) xs

-- with one step more
pub clock_snoc : (c : Clock) (xs : List Step) (x : Step) → clock_past c (xs ++ x ∷ []) ≡ clock_after (clock_past c xs) x
unfolding clock_past
clock_snoc c [] x = refl
clock_snoc c (y ∷ xs) x = clock_snoc (clock_after c y) xs x

pub grounds_snoc : (c : Clock) (xs : List Step) (x : Step)
    → grounds_after c (xs ++ x ∷ []) ≡ grounds_after c xs ++ groundsOf (clock_past c xs) x ∷ []
unfolding grounds_after clock_past
grounds_snoc c [] x = refl
grounds_snoc c (y ∷ xs) x = ap (λ (gs : List (List Ground)). groundsOf c y ∷ gs) (grounds_snoc (clock_after c y) xs x)

-- ---- one clock, and steps that take the same time from every clock

pub previews_alike : (c : Clock) (xs ys : List Step) → SameTimes xs ys → previewed c xs ≡ previewed c ys
unfolding previewed
previews_alike c [] [] s = refl
previews_alike c [] (y ∷ ys) s = absurd s
previews_alike c (x ∷ xs) [] s = absurd s
previews_alike c (x ∷ xs) (y ∷ ys) s =
    ap (λ (t : Shown). t.answer ∷ previewed t.clock xs) (s.0 c)
    ∙ ap (λ (zs : List Answer). foretold c y ∷ zs) (previews_alike (clock_after c y) xs ys s.1)

pub grounds_alike : (c : Clock) (xs ys : List Step) → SameTimes xs ys → grounds_after c xs ≡ grounds_after c ys
unfolding grounds_after
grounds_alike c [] [] s = refl
grounds_alike c [] (y ∷ ys) s = absurd s
grounds_alike c (x ∷ xs) [] s = absurd s
grounds_alike c (x ∷ xs) (y ∷ ys) s =
    ap (λ (t : Shown). t.grounds ∷ grounds_after t.clock xs) (s.0 c)
    ∙ ap (λ (gs : List (List Ground)). groundsOf c y ∷ gs) (grounds_alike (clock_after c y) xs ys s.1)
