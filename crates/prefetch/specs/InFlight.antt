-- What a part of a beat asks of the buffer.
use Rattle.std.specs.Prelude.{◌≡◌, ℕ, ◌≤◌, true}
use Rattle.model.specs.declared.PrefetchBuffer.{PrefetchBuffer}

-- a beat is in flight that has `n` cycles left or more, and a place for its halfword
pub record InFlight (p : PrefetchBuffer) (n : ℕ) : Type 0 where
  pub on : p.enabled ≡ true
  pub fills : p.filling ≡ true
  pub some : 1 ≤ n
  pub most : n ≤ p.wait_left
  pub head≤7 : p.head ≤ 7
  pub room : p.count ≤ 7
