-- The loop over the records: what is written so far, and what is left of the two walks.
use Rattle.std.specs.Prelude.{◌≡◌, List, ◌++◌, ℕ, ◌+◌, ◌*◌, length, take, drop, Option}
use Rattle.std.specs.Prelude.{Some}
use Rattle.std.proofs.Common.{sym, ap, ◌∙◌, arith, add-one, mul-suc, take_at, drop_at, drop-drop, Bor}
use Rattle.std.specs.Io.KnownBytes.{Appends}
use Rattle.std.specs.Slice.Iter.{chunks_exact_rest, chunks_exact_size, chunks_exact_steps}
use Rattle.std.specs.Iterator.Adapters.{enumerate_source, enumerate_count, take_source, take_count, zip_first, zip_second}
use Rattle.std.specs.Iterator.Adapters.{enumerate_steps, take_steps, zip_steps}
use Rattle.std.specs.declared.iter.Enumerate.{Enumerate}
use Rattle.std.specs.declared.iter.Take.{Take}
use Rattle.std.specs.declared.iter.Zip.{Zip}
use Rattle.std.specs.declared.slice.ChunksExact.{ChunksExact}
use Rattle.model.specs.BoardBytes.{answer_length}
use Rattle.model.specs.Grounds.{grounds_length}
use Rattle.bench.specs.Lines.{line_read, lines_read}
use Rattle.bench.proofs.Written.{line_more}

-- the chunks of the answers beside those of the grounds, as many as there are records, and numbered
abbrev pub Walk : Type 0
Walk = Enumerate (Take (Zip (ChunksExact ℕ) (ChunksExact ℕ)))

-- a walk in chunks of `size` has come to chunk `k`
pub record Reached (size k : ℕ) (xs : List ℕ) (s : ChunksExact ℕ) : Type 0 where
  pub rest : chunks_exact_rest s ≡ drop (size * k) xs
  pub size_is : chunks_exact_size s ≡ size

-- n lines are wanted, and as many are written as the walk has gone by
pub record Printed (a b : Option (List ℕ)) (answers grounds : List ℕ) (n : ℕ) (w : Walk) : Type 0 where
  pub by_answers : Reached answer_length (enumerate_count w) answers (zip_first (take_source (enumerate_source w)))
  pub by_grounds : Reached grounds_length (enumerate_count w) grounds (zip_second (take_source (enumerate_source w)))
  pub left : take_count (enumerate_source w) + enumerate_count w ≡ n
  pub written : Appends a b (lines_read answers grounds (enumerate_count w))

-- a chunk more, and which one it is
chunk : (size k : ℕ) (xs : List ℕ) (s t : ChunksExact ℕ) (x : Bor (List ℕ)) → Reached size k xs s
    → chunks_exact_steps s (Some x) t
    → (x.now ≡ take size (drop (size * k) xs)) × Reached size (k + 1) xs t
chunk size k xs s t x r (same, (split, wide), _) =
    let next : size * k + size ≡ size * (k + 1) = rw (add-one, mul-suc) in
    let here : drop (size * k) xs ≡ x.now ++ chunks_exact_rest t = sym r.rest ∙ split in
    let long : length x.now ≡ size = wide ∙ r.size_is in (
      sym (ap (take size) here ∙ take_at x.now (chunks_exact_rest t) size long),
      record {
        rest =
            sym (drop_at x.now (chunks_exact_rest t) size long)
            ∙ ap (drop size) (sym here)
            ∙ drop-drop size (size * k) xs
            ∙ ap (λ (j : ℕ). drop j xs) next;
        size_is = same ∙ r.size_is;
      },
    )

abbrev walks : Walk → Option (ℕ × (Bor (List ℕ) × Bor (List ℕ))) → Walk → Type 0
walks = enumerate_steps (take_steps (zip_steps chunks_exact_steps chunks_exact_steps))

-- a line more
pub turn : (a b c : Option (List ℕ)) (answers grounds : List ℕ) (n : ℕ) (w v : Walk) (k : ℕ) (x y : Bor (List ℕ))
    → Printed a b answers grounds n w → walks w (Some (k, (x, y))) v → Appends b c (line_read k x.now y.now)
    → Printed a c answers grounds n v
turn a b c answers grounds n w v k x y p (((first, second), fewer), number, counted, _) q =
    let one = chunk answer_length (enumerate_count w) answers _ _ x p.by_answers first in
    let other = chunk grounds_length (enumerate_count w) grounds _ _ y p.by_grounds second in
    record {
      by_answers = rw counted one.1;
      by_grounds = rw counted other.1;
      left = omega (arith, fewer, counted, p.left);
      written = rw counted (line_more a b c _ (enumerate_count w) p.written (rw (number, one.0, other.0) at q));
    }
