-- What several writes leave, and what several reads have taken.
use Rattle.std.specs.Prelude.{◌≡◌, List, ◌++◌, ℕ, suc, ◌+◌, ◌-◌, ◌≤◌, length, take, drop, Option}
use Rattle.std.proofs.Common.{sym, ap, ◌∙◌, arith, subst, length-append, length-take-le}
use Rattle.std.proofs.Math.Seq.{take-append-add}
use Rattle.std.proofs.lemmas.List.{take-append-le}
use Rattle.std.specs.Io.KnownBytes.{Appends, Consumes}
use Rattle.std.proofs.KnownBytes.{Appends-trans, Consumes-trans}
use borrow.Rule.Slice.PartMut.{put_mid}
use Rattle.bench.specs.Text.{lines}

-- a line more
pub line_more : (a b c : Option (List ℕ)) (line : ℕ → List ℕ) (k : ℕ) → Appends a b (lines line k) → Appends b c (line k)
    → Appends a c (lines line (k + 1))
line_more a b c line k p q =
    let next : suc k ≡ k + 1 = omega arith in
    subst (λ (n : ℕ). Appends a c (lines line n)) next (Appends-trans a b c (lines line k) (line k) p q)

-- ---- a read of n bytes more, into the rest of a buffer

module _ (buffer fresh : List ℕ) (done n : ℕ) (front : done ≤ length buffer)
    (whole : length fresh ≡ length (take (length buffer - done) (drop done buffer))) (some : n ≤ length fresh) where
  -- what is behind the part that was lent
  abbrev behind : List ℕ
  behind = drop (length buffer - done) (drop done buffer)

  -- the buffer then
  abbrev after : List ℕ
  after = put_mid done (length buffer - done) buffer fresh

  pub read_within : done + n ≤ length after
  read_within =
      omega (
        arith,
        some,
        length-take-le done buffer front,
        length-append (take done buffer) (fresh ++ behind),
        length-append fresh behind,
      )

  first_more : take (done + n) after ≡ take done buffer ++ take n fresh
  first_more =
      ap (λ (k : ℕ). take (k + n) after) (sym (length-take-le done buffer front))
      ∙ take-append-add (take done buffer) (fresh ++ behind) n
      ∙ ap (λ (l : List ℕ). take done buffer ++ l) (take-append-le n fresh behind some)

  pub read_more : (a b c : Option (List ℕ)) → Consumes a b (take done buffer) → Consumes b c (take n fresh)
      → Consumes a c (take (done + n) after)
  read_more a b c p q = rw first_more (Consumes-trans a b c (take done buffer) (take n fresh) p q)
