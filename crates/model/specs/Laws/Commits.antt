-- Words of the laws in proofs/Laws/Commits.antt, as definitions. Those laws:
-- What idle cycles bring in: the buffer grows by the halfwords that arrive, one after the other from next address on; each
-- goes to the next of the eight places, and the other places keep theirs.
use Rattle.std.specs.Prelude.{◌≡◌, ◌≢◌, List, set}
use Prim.Native.Nat.{ℕ, zero, suc, ◌+◌, ◌%◌}
use Rattle.model.specs.Base.{further}
use Rattle.model.specs.Prefetch.{capacity}
use Rattle.model.specs.declared.PrefetchBuffer.{PrefetchBuffer}

-- k halfwords further, modulo 2^32
abbrev pub along : ℕ → ℕ → ℕ
along zero a = a
along (suc k) a = along k (further 2 a)

-- k halfwords from address a on, put into the places from `place` on, around the eight
abbrev pub commits : (ℕ → ℕ) → ℕ → ℕ → ℕ → List ℕ → List ℕ
commits read place a zero h = h
commits read place a (suc k) h = commits read (place + 1) (further 2 a) k (set h (place % capacity) (read a))

-- a buffer with k halfwords more than another
pub record Grown (p q : PrefetchBuffer) (k : ℕ) : Type 0 where
  pub head : q.head ≡ p.head
  pub count : q.count ≡ p.count + k
  pub next : q.next_addr ≡ along k p.next_addr

-- place i is none of the k from `place` on
abbrev pub NotAmong : ℕ → ℕ → ℕ → Type 0
NotAmong i place zero = Unit {0}
NotAmong i place (suc k) = (i ≢ place % capacity) × NotAmong i (place + 1) k
