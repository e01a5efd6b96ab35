-- A data access from its parts: the lowered address and the region that the code has found make the price and the clock of the
-- definitions.
use Rattle.std.specs.Prelude.{◌≡◌, ℕ, ◌^◌, ◌<◌}
use Rattle.std.proofs.Common.{sym, ap, ◌∙◌}
use Rattle.std.proofs.Math.Path.{ap₂}
use Rattle.model.specs.Region.{decode}
use Rattle.model.specs.Waitcnt.{Waits, rom_waits_of, sram_waits}
use Rattle.model.specs.Wait.{size_bytes_of, aligned, kind_at}
use Rattle.model.specs.Price.{price, previously, kind_after, data_beats_in, data_beats, data_cycles}
use Rattle.model.specs.declared.Previous.{Previous}
use Rattle.model.specs.Step.{with_previous, accessed}
use Rattle.model.specs.Laws.Previous.{SoundPrevious}
use Rattle.model.proofs.Laws.Near.{aligned_region}
use Rattle.model.specs.declared.Region.{Region}
use Rattle.model.specs.declared.AccessSize.{AccessSize}
use Rattle.model.specs.declared.Clock.{Clock}
use Rattle.step.specs.Begun.{Priceable}

-- what `data_price` gives
abbrev pub price_at : ℕ → Previous → AccessSize → ℕ → Region → ℕ
price_at w p z n r = price (rom_waits_of w) (data_beats_in (sram_waits w) z (kind_at n (kind_after p n)) r)

-- under WAITCNT `w`, after the access `p`
module _ (w : ℕ) (p : Previous) (z : AccessSize) (a : ℕ) {n : ℕ} {r : Region} (low : n ≡ aligned z a) (met : r ≡ decode a) where
  -- what it asks
  pub priceable : SoundPrevious p → a < 2 ^ 32 → {t : Waits} → t ≡ rom_waits_of w → Priceable w p t n r
  priceable s small e =
      record { waits = e; sound = s; region = met ∙ sym (ap decode low ∙ aligned_region z a small) }

  pub priced : {cycles : ℕ} → cycles ≡ price_at w p z n r → cycles ≡ data_cycles w p z a
  unfolding data_beats
  priced e = e ∙ ap₂ (λ (m : ℕ) (x : Region). price_at w p z m x) low met

pub remembered : (c : Clock) (z : AccessSize) (a : ℕ) {n : ℕ} {after : Clock} → n ≡ aligned z a
    → after ≡ with_previous c (previously n (size_bytes_of z)) → after ≡ accessed c z a
remembered c z a low e = e ∙ ap (λ (m : ℕ). with_previous c (previously m (size_bytes_of z))) low
