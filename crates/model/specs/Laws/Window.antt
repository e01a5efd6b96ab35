-- Words of the laws in proofs/Laws/Window.antt, as definitions. Those laws:
-- An address has a ROM window exactly when it lies from 0x08000000 up to 0x0DFFFFFF, and so does one whose region is ROM.
use Rattle.std.specs.Prelude.{ℕ, ◌≤◌, ◌<◌}

pub record InRom (a : ℕ) : Type 0 where
  pub least : 0x0800_0000 ≤ a
  pub below : a < 0x0E00_0000
