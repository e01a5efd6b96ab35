-- Words of the laws in proofs/Laws/Choice.antt, as definitions. Those laws:
-- Reasoning by the two branches of a test, by the parts of a conjunction of tests, and about every element of a list. Nothing
-- here is about the machine.
use Rattle.std.specs.Prelude.{List, [], ◌∷◌}

-- a claim about every element of a list
abbrev pub All : {A : Type 0} → (A → Type 0) → List A → Type 0
All P [] = Unit
All P (x ∷ xs) = P x × All P xs
