-- A part of the store that was lent and is back, and what lands in it: the laws by which what is stored in a memory that is lent
-- by itself is a store of the definitions. Assumes nothing.
use mathlib.Core.Path.{◌≡◌, refl, ◌∙◌, ap, ap₂, sym}
use mathlib.Core.List.{List, [], ◌∷◌, ◌++◌}
use mathlib.Core.Bool.{Bool, true, false}
use Prim.Native.Nat.{ℕ, zero, suc, ◌+◌, ◌-◌, ◌*◌, ◌/◌, ◌%◌, ◌^◌, ◌≤◌, ◌<◌}
use native.Mathlib.Omega.{arith}
use native.Mathlib.Nat.{zero-add}
use lib.Dec.{ltb}
use lib.ListN.{length, take, drop, set, get_or, take-append-drop, length-take, length-drop, get_or-eq_default}
use lib.Seq.{take-set-le, drop-set-lt, take-set-lt, drop-set-add, set_out, get_or-take, get_or-drop}
use borrow.Author.Tests.{ltb-true, ltb-false}
use Rattle.std.specs.Prelude.{map}
use Rattle.std.proofs.Common.{length-append, append_assoc, append-nil}
use Rattle.std.proofs.lemmas.List.{map-append, length-map}
use Rattle.model.specs.Base.{bit, lowered}
use Rattle.model.specs.Memory.{byte_in, after}
use Rattle.model.specs.Store.{Put, landed, put, put_bytes, put_aligned, video_puts}
use Rattle.model.specs.Laws.Choice.{All}
use Rattle.model.proofs.Laws.Choice.{choose, choose₂}
use Rattle.model.proofs.Laws.Landed.{put_lands, put_few}
use Rattle.model.proofs.Laws.Run.{landed_length}
use Rattle.model.specs.declared.AccessSize.{AccessSize}
use Rattle.model.specs.declared.AccessSize.TheVariants.{Byte, Half, Word}
use Rattle.model.specs.declared.Part.{Part}
use Rattle.parts.specs.Stored.{store_report, Stores, whole, bytes_of, then_stores, same_puts}
use Rattle.parts.specs.declared.Stored.{Stored}

-- a part behind one that is known
pub follows : {r p q : Part} {n : ℕ} → r ≡ after p n → p ≡ q → r ≡ after q n
follows {n = n} e f = e ∙ ap (λ (p : Part). after p n) f

-- the part of k bytes from a on
abbrev part_at : ℕ → ℕ → Part
part_at a k = record { base = a; size = k }

-- xs with its k elements from a on replaced by ys: what a part that was lent comes back as
abbrev pub back : List ℕ → ℕ → ℕ → List ℕ → List ℕ
back xs a k ys = take a xs ++ (ys ++ drop k (drop a xs))

back_same : (xs : List ℕ) (a k : ℕ) → back xs a k (take k (drop a xs)) ≡ xs
back_same xs a k = ap (λ (l : List ℕ). take a xs ++ l) (take-append-drop k (drop a xs)) ∙ take-append-drop a xs

-- the places a to b of the store, as they are lent
abbrev pub lent_of : List ℕ → ℕ → ℕ → List ℕ
lent_of xs a b = take (b - a) (drop a xs)

-- these are a part's, as `Part::range` tells them
abbrev pub IsRange : Part → ℕ → ℕ → Type 0
IsRange p a b = (a ≡ p.base) × (b ≡ p.base + p.size)

-- ---- the leaf

-- what the leaf puts in the memory that it is lent is set there, or past its end
leaf_set : (s : List ℕ) (i v : ℕ) → landed s (put (whole s) i v) ≡ set s i v
unfolding put
leaf_set s i v =
    choose (λ (ps : List Put). landed s ps ≡ set s i v) (ltb i (length s))
    (λ e. ap (λ (j : ℕ). set s j v) (zero-add i))
    (λ e. sym (set_out s i v (ltb-false i (length s) e)))

-- so the leaf stores as the definitions have it, and tells it
pub leaf_stores : (s : List ℕ) (i v : ℕ) {after : List ℕ} {r : Stored} → after ≡ set s i v
    → r ≡ store_report (bit (ltb i (length s))) 0 → Stores (put (whole s) i v) 0 s after r
leaf_stores s i v e f =
    record {
      bytes = e ∙ sym (leaf_set s i v);
      number = ap (λ (x : Stored). x.landed) f ∙ sym (put_lands (whole s) i v);
      halfwords = ap (λ (x : Stored). x.halfwords) f;
    }

-- ---- some bytes, one after the other

-- of n bytes, from index i on, these have been stored: `left` from index j on are still to come, the low ones of `rest`
pub record Storing (n i v : ℕ) (s₀ s : List ℕ) (j left rest : ℕ) (r : Stored) : Type 0 where
  pub done : List Put
  pub puts : done ++ put_bytes (whole s₀) j left rest ≡ put_bytes (whole s₀) i n v
  pub stored : Stores done 0 s₀ s r
  pub few : length done + left ≤ n

pub begin_storing : (n i v : ℕ) (s : List ℕ) {r : Stored} → r ≡ store_report 0 0 → Storing n i v s s i n v r
begin_storing n i v s e =
    record {
      done = [];
      puts = refl;
      stored =
          record { bytes = refl; number = ap (λ (x : Stored). x.landed) e; halfwords = ap (λ (x : Stored). x.halfwords) e };
      few = omega arith;
    }

module _ {n i v : ℕ} {s₀ : List ℕ} where
  -- one byte more
  store_byte : {s after : List ℕ} {j left rest : ℕ} {r one sum : Stored} → Storing n i v s₀ s j (suc left) rest r
      → Stores (put (whole s) j (rest % 256)) 0 s after one
      → sum ≡ store_report (r.landed + one.landed) (r.halfwords + one.halfwords)
      → Storing n i v s₀ after (j + 1) left (rest / 256) sum
  store_byte {s} {after} {j} {left} {rest} {r} {one} g st e =
      let same : length s ≡ length s₀ = ap length g.stored.bytes ∙ landed_length s₀ g.done in
      let here : Stores (put (whole s₀) j (rest % 256)) 0 s after one =
      same_puts (ap (λ (k : ℕ). put (part_at 0 k) j (rest % 256)) same) st in
      record {
        done = g.done ++ put (whole s₀) j (rest % 256);
        puts =
            append_assoc g.done (put (whole s₀) j (rest % 256)) (put_bytes (whole s₀) (j + 1) left (rest / 256)) ∙ g.puts;
        stored = then_stores g.stored here e;
        few =
            omega (arith, g.few, length-append g.done (put (whole s₀) j (rest % 256)), put_few (whole s₀) j (rest % 256));
      }

  pub turn_storing : {s after : List ℕ} {j left rest more : ℕ} {r one sum : Stored} → Storing n i v s₀ s j left rest r
      → 0 < left → Stores (put (whole s) j (rest % 256)) 0 s after one
      → sum ≡ store_report (r.landed + one.landed) (r.halfwords + one.halfwords) → more ≡ rest / 256
      → Storing n i v s₀ after (j + 1) (left - 1) more sum
  turn_storing {left = left} g some st e f =
      let one : left ≡ suc (left - 1) = omega (arith, some) in
      rw f (store_byte (rw one at g) st e)

  pub storing_fits : {s after : List ℕ} {j left rest : ℕ} {r one : Stored} → n ≤ 4 → Storing n i v s₀ s j left rest r
      → 0 < left → Stores (put (whole s) j (rest % 256)) 0 s after one
      → (r.landed + one.landed < 2 ^ 64) × (r.halfwords + one.halfwords < 2 ^ 64)
  storing_fits {s} {j = j} {rest = rest} few g some st = (
    omega (arith, few, g.few, g.stored.number, st.number, put_few (whole s) j (rest % 256)),
    omega (arith, g.stored.halfwords, st.halfwords),
  )

  pub end_storing : {s : List ℕ} {j left rest : ℕ} {r : Stored} → Storing n i v s₀ s j left rest r → left ≤ 0
      → Stores (put_bytes (whole s₀) i n v) 0 s₀ s r
  end_storing {s} {j} {left} {rest} {r} g h = ended (rw none at g)
    where
      none : left ≡ 0
      none = omega arith

      ended : Storing n i v s₀ s j 0 rest r → Stores (put_bytes (whole s₀) i n v) 0 s₀ s r
      ended f = same_puts (sym (append-nil f.done) ∙ f.puts) f.stored

-- ---- from the memory that was lent to the store

-- bytes that land so many places on
abbrev pub moved_on : ℕ → List Put → List Put
moved_on b ps = map (λ (p : Put). record { place = b + p.place; byte = p.byte }) ps

-- bytes that land in a memory by itself, and the same in the memory as a part of the store
pub record Lent (p : Part) (ps qs : List Put) : Type 0 where
  pub within : All (λ (x : Put). x.place < p.size) ps
  pub same : qs ≡ moved_on p.base ps

lands_back : (xs : List ℕ) (a k : ℕ) (ps : List Put) → All (λ (x : Put). x.place < k) ps
    → back xs a k (landed (take k (drop a xs)) ps) ≡ landed xs (moved_on a ps)
lands_back xs a k [] h = back_same xs a k
lands_back xs a k (x ∷ ps) h =
    let now = set xs (a + x.place) x.byte in
    let tail : drop k (drop a xs) ≡ drop k (drop a now) =
    sym (ap (drop k) (drop-set-add a xs x.place x.byte) ∙ drop-set-lt k (drop a xs) x.place x.byte h.0) in
    let head : take a xs ≡ take a now = sym (take-set-le a xs (a + x.place) x.byte (omega arith)) in
    let middle : set (take k (drop a xs)) x.place x.byte ≡ take k (drop a now) =
    sym (ap (take k) (drop-set-add a xs x.place x.byte) ∙ take-set-lt k (drop a xs) x.place x.byte h.0) in
    rw (middle, head, tail) (lands_back now a k ps h.1)

both : (k : ℕ) (ps qs : List Put) → All (λ (x : Put). x.place < k) ps → All (λ (x : Put). x.place < k) qs
    → All (λ (x : Put). x.place < k) (ps ++ qs)
both k [] qs f g = g
both k (p ∷ ps) qs f g = (f.0, both k ps qs f.1 g)

-- a store to a memory: the bytes that land in it, wherever it lies
abbrev pub Movable : (Part → List Put) → Type 0
Movable f = (p : Part) → Lent p (f (record { base = 0; size = p.size })) (f p)

pub nothing_moves : Movable (λ (p : Part). [])
nothing_moves p = record { within = tt; same = refl }

pub put_moves : (i v : ℕ) → Movable (λ (p : Part). put p i v)
unfolding put
put_moves i v p =
    choose₂ (λ (ps qs : List Put). Lent p ps qs) (ltb i p.size)
    (λ e.
    record {
      within = (omega (arith, ltb-true i p.size e), tt);
      same = ap (λ (j : ℕ). record { place = p.base + j; byte = v } ∷ []) (sym (zero-add i));
    })
    (λ e. record { within = tt; same = refl })

bytes_move : (i n v : ℕ) → Movable (λ (p : Part). put_bytes p i n v)
bytes_move i zero v p = record { within = tt; same = refl }
bytes_move i (suc n) v p =
    let first = put_moves i (v % 256) p in
    let others = bytes_move (i + 1) n (v / 256) p in
    record {
      within = both p.size _ _ first.within others.within;
      same =
          ap₂ (λ (xs ys : List Put). xs ++ ys) first.same others.same
          ∙ sym (map-append _ (put (part_at 0 p.size) i (v % 256)) (put_bytes (part_at 0 p.size) (i + 1) n (v / 256)));
    }

pub aligned_moves : (i n v : ℕ) → Movable (λ (p : Part). put_aligned p i n v)
aligned_moves i n v = bytes_move (lowered n i) n v

pub video_moves : (fill : Bool) (z : AccessSize) (i v : ℕ) → Movable (λ (p : Part). video_puts fill z p i v)
video_moves true Byte i v = aligned_moves i 2 (0x0101 * (v % 256))
video_moves false Byte i v = nothing_moves
video_moves fill Half i v = aligned_moves i 2 v
video_moves fill Word i v = aligned_moves i 4 v

-- what is stored in the lent part is stored in the whole; ys is what the part holds when it is back
pub lent_stores : {f : Part → List Put} → Movable f → {k : ℕ} (xs : List ℕ) (p : Part) {a b : ℕ} {ys : List ℕ} {r : Stored}
    → IsRange p a b → p.base + p.size ≤ length xs → Stores (f (whole (lent_of xs a b))) k (lent_of xs a b) ys r
    → Stores (f p) k xs (back xs a (b - a) ys) r
lent_stores {f} m {k} xs p {a} {b} {ys} {r} e h s =
    let length_is : b - a ≡ p.size = omega (arith, e.0, e.1) in
    let size_is : length (lent_of xs a b) ≡ p.size =
    length-take (b - a) (drop a xs) ∙ omega (arith, e.0, e.1, length-drop a xs) in
    let t : Stores (f (part_at 0 p.size)) k (lent_of xs a b) ys r = same_puts (ap (λ (n : ℕ). f (part_at 0 n)) size_is) s in
    let moved = m p in
    record {
      bytes =
          ap (λ (l : List ℕ). back xs a (b - a) l) t.bytes
          ∙ ap₂ (λ (i n : ℕ). back xs i n (landed (take n (drop i xs)) (f (part_at 0 p.size)))) e.0 length_is
          ∙ lands_back xs p.base p.size (f (part_at 0 p.size)) moved.within
          ∙ ap (landed xs) (sym moved.same);
      number = t.number ∙ sym (ap length moved.same ∙ length-map (f (part_at 0 p.size)) _);
      halfwords = t.halfwords;
    }

-- ---- what is read in the memory that was lent

-- it is as long as the part
pub part_length : (xs : List ℕ) (p : Part) → p.base + p.size ≤ length xs → length (bytes_of p xs) ≡ p.size
part_length xs p h = length-take p.size (drop p.base xs) ∙ omega (arith, length-drop p.base xs)

-- a byte
pub part_byte : (xs : List ℕ) (p : Part) (i : ℕ) → get_or (bytes_of p xs) i 0 ≡ byte_in xs p i
unfolding byte_in
part_byte xs p i =
    choose (λ (b : ℕ). get_or (bytes_of p xs) i 0 ≡ b) (ltb i p.size)
    (λ t. get_or-take p.size (drop p.base xs) i 0 (ltb-true i p.size t) ∙ get_or-drop p.base xs i 0)
    (λ t. get_or-eq_default (bytes_of p xs) 0
    (omega (arith, length-take p.size (drop p.base xs), ltb-false i p.size t)))

-- a byte of a memory by itself
pub whole_byte : (s : List ℕ) (i : ℕ) → byte_in s (whole s) i ≡ get_or s i 0
unfolding byte_in
whole_byte s i =
    choose (λ (b : ℕ). b ≡ get_or s i 0) (ltb i (length s))
    (λ t. ap (λ (j : ℕ). get_or s j 0) (zero-add i))
    (λ t. sym (get_or-eq_default s 0 (ltb-false i (length s) t)))
