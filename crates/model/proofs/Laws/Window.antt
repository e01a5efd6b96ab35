-- An address has a ROM window exactly when it lies from 0x08000000 up to 0x0DFFFFFF, and so does one whose region is ROM.
use Rattle.std.specs.Prelude.{◌≡◌, refl, true, false, ℕ, eqb, ltb}
use Rattle.std.proofs.lemmas.Bool.{false≢true}
use Rattle.std.proofs.Common.{arith}
use Rattle.std.specs.Prelude.{Option, Some}
use Rattle.model.specs.Region.{bios_size, page, decode, is_game_pak_rom}
use Rattle.model.specs.Wait.{window, is_in, in_window}
use Rattle.model.proofs.Laws.Choice.{choose, either, tests}
use Rattle.model.specs.declared.Region.{Region}
use Rattle.model.specs.declared.RomWindow.{RomWindow}
use Rattle.model.specs.Laws.Window.{InRom}

pub in_window_true : (a : ℕ) → in_window a ≡ true → InRom a
unfolding window
in_window_true a =
    choose (λ (r : Option RomWindow). is_in r ≡ true → InRom a) (ltb (page a) 0x08) (λ e h. absurd (false≢true h))
    λ e₁. choose (λ (r : Option RomWindow). is_in r ≡ true → InRom a) (ltb (page a) 0x0A) (λ e h. omega (arith, tests))
    λ e₂. choose (λ (r : Option RomWindow). is_in r ≡ true → InRom a) (ltb (page a) 0x0C) (λ e h. omega (arith, tests))
    λ e₃. choose (λ (r : Option RomWindow). is_in r ≡ true → InRom a) (ltb (page a) 0x0E) (λ e h. omega (arith, tests))
    λ e h. absurd (false≢true h)

pub true_in_window : (a : ℕ) → InRom a → in_window a ≡ true
unfolding window
true_in_window a k =
    choose (λ (r : Option RomWindow). is_in r ≡ true) (ltb (page a) 0x08) (λ e. absurd (omega (arith, tests)))
    λ e₁. choose (λ (r : Option RomWindow). is_in r ≡ true) (ltb (page a) 0x0A) (λ e. refl)
    λ e₂. choose (λ (r : Option RomWindow). is_in r ≡ true) (ltb (page a) 0x0C) (λ e. refl)
    λ e₃. choose (λ (r : Option RomWindow). is_in r ≡ true) (ltb (page a) 0x0E) (λ e. refl)
    λ e. absurd (omega (arith, tests))

-- a window found is one
pub window_in : (a : ℕ) (win : RomWindow) → window a ≡ Some win → InRom a
window_in a win e = in_window_true a (rw e)

-- a region found to be ROM is one
pub rom_region : (a : ℕ) → is_game_pak_rom (decode a) ≡ true → InRom a
unfolding decode
rom_region a =
    choose P (ltb p 0x08)
    (λ e. either P (eqb p 0x00) (either P (ltb a bios_size) no no)
    (either P (eqb p 0x01) no (either P (eqb p 0x02) no (either P (eqb p 0x03) no
    (either P (eqb p 0x04) no (either P (eqb p 0x05) no (either P (eqb p 0x06) no no)))))))
    λ e₁. choose P (ltb p 0x0A) (λ e h. omega (arith, tests))
    λ e₂. choose P (ltb p 0x0C) (λ e h. omega (arith, tests))
    λ e₃. choose P (ltb p 0x0E) (λ e h. omega (arith, tests))
    λ e₄. either P (ltb p 0x10) no no
  where
    p : ℕ
    p = page a

    P : Region → Type 0
    P r = is_game_pak_rom r ≡ true → InRom a

    no : false ≡ true → InRom a
    no h = absurd (false≢true h)
