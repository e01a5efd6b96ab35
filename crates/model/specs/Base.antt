-- Words that all the definitions use: a choice by a test, sums, and numbers as bytes.
use Rattle.std.specs.Prelude.{Bool, true, false, List, [], ◌∷◌, ◌++◌, map, ℕ, zero, suc, ◌+◌, ◌*◌, ◌/◌, ◌%◌, ◌^◌, ◌<◌, get_or}

-- 1 for true, 0 for false
abbrev pub bit : Bool → ℕ
bit true = 1
bit false = 0

-- both or neither
abbrev pub same : Bool → Bool → Bool
same true true = true
same true false = false
same false true = false
same false false = true

-- a claim that holds where another does, and nowhere else
abbrev pub Exactly : Type 0 → Type 0 → Type 0
Exactly P Q = (P → Q) × (Q → P)

abbrev pub sum : List ℕ → ℕ
sum [] = 0
sum (x ∷ xs) = x + sum xs

-- ---- addresses, of 32 bits

-- an address `n` bytes further, modulo 2^32
abbrev pub further : ℕ → ℕ → ℕ
further n a = (a + n) % 2 ^ 32

-- an address lowered to a multiple of `z`
abbrev pub lowered : ℕ → ℕ → ℕ
lowered z a = a / z * z

-- ---- numbers as bytes, the lowest first

-- byte `k` of a number
abbrev pub byte_of : ℕ → ℕ → ℕ
byte_of k v = v / 256 ^ k % 256

-- the low `n` bytes of a number
abbrev pub bytes : ℕ → ℕ → List ℕ
bytes zero v = []
bytes (suc n) v = v % 256 ∷ bytes n (v / 256)

-- a byte of a list; 0 past its end
abbrev pub byte_at : List ℕ → ℕ → ℕ
byte_at b i = get_or b i 0

-- the number in the `n` bytes from place `i` on
abbrev pub number : ℕ → List ℕ → ℕ → ℕ
number zero b i = 0
number (suc n) b i = byte_at b i + 256 * number n b (i + 1)

-- `n` numbers of `w` bytes each, one behind the other from place `i` on
abbrev pub numbers_from : ℕ → List ℕ → ℕ → ℕ → List ℕ
numbers_from w b i zero = []
numbers_from w b i (suc n) = number w b i ∷ numbers_from w b (i + w) n

-- the bytes of things, one behind the other
abbrev pub blocks : {A : Type 0} → (A → List ℕ) → List A → List ℕ
blocks f [] = []
blocks f (x ∷ xs) = f x ++ blocks f xs

-- a list of bytes: what a lent slice of u8 is
abbrev pub AllBytes : List ℕ → Type 0
AllBytes b = (i : ℕ) → byte_at b i < 256

-- a field of a layout: a number in so many bytes
pub record Field : Type 0 where
  pub width : ℕ
  pub value : ℕ

abbrev pub field : ℕ → ℕ → Field
field n v = record { width = n; value = v }

-- fields, one after the other
abbrev pub encoded : List Field → List ℕ
encoded [] = []
encoded (f ∷ fs) = bytes f.width f.value ++ encoded fs

-- numbers of `w` bytes each, one after the other
abbrev pub numbers_bytes : ℕ → List ℕ → List ℕ
numbers_bytes w xs = encoded (map (field w) xs)
