-- What a store reports, and the contract of every function that stores, from the leaf on.
use Rattle.std.specs.Prelude.{◌≡◌, refl, List, [], ◌++◌, ℕ, ◌+◌, ◌^◌, ◌≤◌, ◌<◌, length, take, drop}
use Rattle.std.proofs.Common.{sym, ap, ap₂, ◌∙◌, arith, length-append}
use Rattle.model.specs.Store.{Put, landed}
use Rattle.model.proofs.Laws.Stores.{landed_append}
use Rattle.model.specs.declared.Part.{Part}
use Rattle.parts.specs.declared.Stored.{Stored}

abbrev pub store_report : ℕ → ℕ → Stored
store_report n k = record { landed = n; halfwords = k }

-- these bytes land, it is told how many they are, and so many video halfwords are counted
pub record Stores (ps : List Put) (k : ℕ) (before after : List ℕ) (r : Stored) : Type 0 where
  pub bytes : after ≡ landed before ps
  pub number : r.landed ≡ length ps
  pub halfwords : r.halfwords ≡ k

-- a memory that is lent by itself
abbrev pub whole : List ℕ → Part
whole xs = record { base = 0; size = length xs }

-- the bytes of a memory, which is a part of the store
abbrev pub bytes_of : Part → List ℕ → List ℕ
bytes_of p s = take p.size (drop p.base s)

-- ---- laws

-- nothing is stored, in whatever store
pub drops : {s : List ℕ} {r : Stored} → Stores [] 0 [] [] r → Stores [] 0 s s r
drops d = record { bytes = refl; number = d.number; halfwords = d.halfwords }

-- the same bytes, written otherwise
pub same_puts : {ps qs : List Put} {k : ℕ} {before after : List ℕ} {r : Stored} → ps ≡ qs
    → Stores ps k before after r → Stores qs k before after r
same_puts {before = before} e s =
    record { bytes = s.bytes ∙ ap (landed before) e; number = s.number ∙ ap length e; halfwords = s.halfwords }

-- halfwords counted to what a leaf tells
pub counting : {ps : List Put} {k : ℕ} (j : ℕ) {before after : List ℕ} {r : Stored}
    → Stores ps k before after r → Stores ps j before after (store_report r.landed j)
counting j s = record { bytes = s.bytes; number = s.number; halfwords = refl }

-- ---- stores one behind the other

-- what two report is their sum
pub then_stores : {ps qs : List Put} {k j : ℕ} {before between after : List ℕ} {a b r : Stored}
    → Stores ps k before between a → Stores qs j between after b
    → r ≡ store_report (a.landed + b.landed) (a.halfwords + b.halfwords)
    → Stores (ps ++ qs) (k + j) before after r
then_stores {ps} {qs} {before = before} s t e =
    record {
      bytes = t.bytes ∙ ap (λ (l : List ℕ). landed l qs) s.bytes ∙ sym (landed_append before ps qs);
      number =
          ap (λ (x : Stored). x.landed) e
          ∙ ap₂ (λ (x y : ℕ). x + y) s.number t.number ∙ sym (length-append ps qs);
      halfwords = ap (λ (x : Stored). x.halfwords) e ∙ ap₂ (λ (x y : ℕ). x + y) s.halfwords t.halfwords;
    }

-- their sum has room
pub then_fits : {ps qs : List Put} {n m : ℕ} {before between after : List ℕ} {a b : Stored}
    → Stores ps 0 before between a → Stores qs 0 between after b → length ps ≤ n → length qs ≤ m → n + m ≤ 4
    → (a.landed + b.landed < 2 ^ 64) × (a.halfwords + b.halfwords < 2 ^ 64)
then_fits s t x y h = (omega (arith, s.number, t.number), omega (arith, s.halfwords, t.halfwords))
