-- Reasoning by the two branches of a test, by the parts of a conjunction of tests, and about every element of a list. Nothing
-- here is about the machine.
use Rattle.std.specs.Prelude.{◌≡◌, refl, Bool, true, false, ◌&&◌, ◌||◌, ◌≢◌, List, [], ◌∷◌, ℕ, ◌≤◌, eqb}
use Rattle.std.proofs.Common.{sym, ◌∙◌, true≢false, arith, ltb-true, ltb-false, leb-true, leb-false, eqb-true}
use Rattle.std.proofs.lemmas.Bool.{false≢true, eqb-false}
use Rattle.std.specs.Prelude.{if◌then◌else◌}
use Rattle.model.specs.Base.{bit}
use Rattle.model.specs.Laws.Choice.{All}

pub eqb_ne : (a b : ℕ) → eqb a b ≡ false → a ≢ b
eqb_ne a b e h = eqb-false a b e h

-- what a test says, for omega
pub ruleset tests = (ltb-true, ltb-false, leb-true, leb-false, eqb-true, eqb_ne)

-- a property of each branch under its test is one of the choice
pub choose : {A : Type 0} (P : A → Type 0) (t : Bool) {x y : A} → (t ≡ true → P x) → (t ≡ false → P y) → P (if t then x else y)
choose P true f g = f refl
choose P false f g = g refl

-- a property of both branches is one of the choice
pub either : {A : Type 0} (P : A → Type 0) (t : Bool) {x y : A} → P x → P y → P (if t then x else y)
either P true p q = p
either P false p q = q

-- the same of two choices by one test
pub choose₂ : {A B : Type 0} (P : A → B → Type 0) (t : Bool) {x y : A} {u v : B} → (t ≡ true → P x u) → (t ≡ false → P y v)
    → P (if t then x else y) (if t then u else v)
choose₂ P true f g = f refl
choose₂ P false f g = g refl

-- a claim by the two values of a test
pub by_test : {P : Type 0} (t : Bool) → (t ≡ true → P) → (t ≡ false → P) → P
by_test true f g = f refl
by_test false f g = g refl

pub if_true : {A : Type 0} (t : Bool) (x y : A) → t ≡ true → (if t then x else y) ≡ x
if_true true x y e = refl
if_true false x y e = absurd (false≢true e)

pub if_false : {A : Type 0} (t : Bool) (x y : A) → t ≡ false → (if t then x else y) ≡ y
if_false true x y e = absurd (true≢false e)
if_false false x y e = refl

pub never : {A : Type 0} {t : Bool} → t ≡ true → t ≡ false → A
never p q = absurd (true≢false (sym p ∙ q))

pub bit≤1 : (t : Bool) → bit t ≤ 1
bit≤1 true = omega arith
bit≤1 false = omega arith

-- ---- conjunctions and disjunctions

pub and_true_left : (a b : Bool) → a && b ≡ true → a ≡ true
and_true_left true b e = refl
and_true_left false b e = absurd (false≢true e)

pub and_true_right : (a b : Bool) → a && b ≡ true → b ≡ true
and_true_right true b e = e
and_true_right false b e = absurd (false≢true e)

-- a conjunct, out of a long conjunction
pub ruleset parts = (and_true_left, and_true_right)

pub and-true : (a b : Bool) → a ≡ true → b ≡ true → a && b ≡ true
and-true true b e h = h
and-true false b e h = absurd (false≢true e)

pub or_true_left : (a b : Bool) → a ≡ true → a || b ≡ true
or_true_left true b e = refl
or_true_left false b e = absurd (false≢true e)

pub or_true_right : (a b : Bool) → b ≡ true → a || b ≡ true
or_true_right true b e = refl
or_true_right false b e = e

pub or_false_left : (a b : Bool) → a || b ≡ false → a ≡ false
or_false_left true b e = absurd (true≢false e)
or_false_left false b e = refl

pub or_false_right : (a b : Bool) → a || b ≡ false → b ≡ false
or_false_right true b e = absurd (true≢false e)
or_false_right false b e = e

-- what is left of a disjunction whose second part fails, and of one whose first does
pub or-false : (a b : Bool) → b ≡ false → a || b ≡ a
or-false true b e = refl
or-false false b e = e

pub or_right : (a b : Bool) → a || b ≡ true → a ≡ false → b ≡ true
or_right true b e h = absurd (true≢false h)
or_right false b e h = e

-- ---- lists

-- what holds of everything holds of each of them
pub all_of : {A : Type 0} (P : A → Type 0) → ((x : A) → P x) → (xs : List A) → All P xs
all_of P f [] = tt
all_of P f (x ∷ xs) = (f x, all_of P f xs)
