-- What idle cycles make of the buffer and of its eight halfwords.
use Rattle.std.specs.Prelude.{◌≡◌, ℕ, List}
use Rattle.model.specs.Waitcnt.{Waits}
use Rattle.model.specs.Load.{rom_halfword}
use Rattle.model.specs.Prefetch.{ticks, filled}
use Rattle.model.specs.declared.PrefetchBuffer.{PrefetchBuffer}

-- `q` and `k` are the buffer `p` and its halfwords `h` after `n` cycles, filled from the image `rom`
pub record Ticked (t : Waits) (rom : List ℕ) (n : ℕ) (p : PrefetchBuffer) (h : List ℕ) (q : PrefetchBuffer) (k : List ℕ)
    : Type 0 where
  pub buffer : q ≡ ticks t n p
  pub halves : k ≡ filled (rom_halfword rom) t n p h
