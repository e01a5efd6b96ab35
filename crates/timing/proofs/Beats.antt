-- The price of one beat, of two, and of a word over a bus of 16 bits: the sums that the code makes are those over beats.
-- Assumes nothing.
use Rattle.std.proofs.Common.{◌≡◌, ℕ, ◌+◌, ◌≤◌, [], ◌∷◌, sym, refl, ◌∙◌, ap₂, add-zero}
use Rattle.model.specs.Waitcnt.{Waits}
use Rattle.model.specs.Wait.{rom_half_cycles, ewram_cycles, video_ram_cycles}
use Rattle.model.specs.Price.{Beat, RomBeat, EwramBeat, VideoBeat, beat_cycles, price, wide, rom_access}
use Rattle.model.specs.declared.AccessKind.{AccessKind}
use Rattle.model.specs.declared.AccessKind.TheVariants.{Seq}
use Rattle.model.specs.declared.RomWindow.{RomWindow}
use Rattle.model.specs.declared.AccessSize.{AccessSize}
use Rattle.model.specs.declared.AccessSize.TheVariants.{Byte, Half, Word}
use Rattle.timing.specs.declared.FetchPrice.{FetchPrice}

pub one_beat : (t : Waits) (b : Beat) {x : ℕ} → x ≡ beat_cycles t b → x ≡ price t (b ∷ [])
one_beat t b e = e ∙ sym (add-zero (beat_cycles t b))

pub two_beats : (t : Waits) (b c : Beat) {x y : ℕ} → x ≡ beat_cycles t b → y ≡ beat_cycles t c → x + y ≡ price t (b ∷ c ∷ [])
two_beats t b c e f = ap₂ (λ (m n : ℕ). m + n) e (one_beat t c f)

pub ewram_beats : (t : Waits) (z : AccessSize) → ewram_cycles z ≡ price t (wide z (EwramBeat Half) (EwramBeat Half))
ewram_beats t Byte = refl
ewram_beats t Half = refl
ewram_beats t Word = refl

pub video_beats : (t : Waits) (z : AccessSize) → video_ram_cycles z ≡ price t (wide z VideoBeat VideoBeat)
video_beats t Byte = refl
video_beats t Half = refl
video_beats t Word = refl

-- an access to ROM, by its size: one beat, and of a word a second
module _ (t : Waits) (k : AccessKind) (win : RomWindow) (z : AccessSize) {x : ℕ} (first : x ≡ rom_half_cycles t win k) where
  pub rom_byte : z ≡ Byte → x ≡ price t (rom_access z k win)
  rom_byte e = rw e (one_beat t (RomBeat win k) first)

  pub rom_half : z ≡ Half → x ≡ price t (rom_access z k win)
  rom_half e = rw e (one_beat t (RomBeat win k) first)

  pub rom_word : z ≡ Word → {y : ℕ} → y ≡ rom_half_cycles t win Seq → x + y ≡ price t (rom_access z k win)
  rom_word e f = rw e (two_beats t (RomBeat win k) (RomBeat win Seq) first f)

-- ---- sums that fit

-- the parts of an instruction's price
pub record Small (f : FetchPrice) (n : ℕ) : Type 0 where
  pub cycles : f.cycles ≤ 18
  pub idle : f.cart_idle ≤ 6
  pub internal : n ≤ 1
