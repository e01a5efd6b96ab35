-- Words of the laws in proofs/Laws/Blocks.antt, as definitions. Those laws:
-- A block stands for its words: what it leaves, costs, answers and tells is what its words do as READ 4 or WRITE 4 steps of their
-- own, one after the other.
use Rattle.std.specs.Prelude.{◌≡◌}
use mathlib.Core.List.{List, [], ◌∷◌, ◌++◌, map}
use Prim.Native.Nat.{ℕ, zero, suc}
use Rattle.model.specs.Base.{sum, further}
use Rattle.model.specs.Step.{Media, State, stepped, answer, run, total}
use Rattle.model.specs.Grounds.{grounds, grounds_after}
use Rattle.model.specs.declared.Answer.{Answer}
use Rattle.model.specs.declared.Ground.{Ground}
use Rattle.model.specs.declared.AccessSize.TheVariants.{Word}
use Rattle.model.specs.declared.Step.{Step}
use Rattle.model.specs.declared.Step.TheVariants.{Read, Write, BlockRead, BlockWrite}

abbrev pub read_words : ℕ → ℕ → List Step
read_words a zero = []
read_words a (suc n) = Read Word a ∷ read_words (further 4 a) n

abbrev pub write_words : ℕ → ℕ → List Step
write_words a zero = []
write_words a (suc n) = Write Word a 0 ∷ write_words (further 4 a) n

abbrev pub hits_sum : List Answer → ℕ
hits_sum xs = sum (map (λ (x : Answer). x.hits) xs)

-- the last value, or `v` of none
abbrev pub last_value : ℕ → List Answer → ℕ
last_value v [] = v
last_value v (x ∷ xs) = last_value x.value xs

abbrev pub joined_grounds : List (List Ground) → List Ground
joined_grounds [] = []
joined_grounds (gs ∷ rest) = gs ++ joined_grounds rest

-- a step is the run of these steps. The prefetch count and the force flag of its answer are those of the state that it leaves
pub record StandsFor (m : Media) (s : State) (x : Step) (words : List Step) : Type 0 where
  pub state : stepped m s x ≡ (run m s words).state
  pub cycles : (answer m s x).cycles ≡ total (run m s words)
  pub hits : (answer m s x).hits ≡ hits_sum (run m s words).answers
  pub value : (answer m s x).value ≡ last_value 0 (run m s words).answers
  pub names : grounds s.board.clock x ≡ joined_grounds (grounds_after s.board.clock words)

-- a claim about a block of n words from an address on, of either kind
pub record Both (P : Step → Type 0) (a n : ℕ) : Type 0 where
  pub reading : P (BlockRead a n)
  pub writing : P (BlockWrite a n)
