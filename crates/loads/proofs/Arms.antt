-- What the arms and branches of the loads have in common: a callee's answer and the branch taken decide a test of the
-- definitions. Assumes nothing.
use Rattle.std.proofs.Common.{◌≡◌, ℕ, ◌+◌, ◌*◌, ◌≤◌, Bool, true, false, ltb, List, length, sym, refl, ap, ◌∙◌, ap₂, subst}
use Rattle.std.specs.Prelude.{if◌then◌else◌}
use Rattle.std.specs.Prelude.{Some, None}
use Rattle.model.specs.Base.{byte_at, further}
use Rattle.model.specs.Region.{bios_size}
use Rattle.model.specs.Memory.{target, is_sram, lengths_sum}
use Rattle.model.specs.Load.{Bus, sram_byte, byte_from, load8, load16, load32}
use Rattle.model.proofs.Laws.Choice.{if_true, if_false}
use Rattle.model.specs.Laws.Places.{Lies}
use Rattle.model.proofs.Laws.Places.{target_lies}
use Rattle.model.specs.declared.Lengths.{Lengths}
use Rattle.model.specs.declared.Target.{Target}
use Rattle.model.specs.declared.Target.TheVariants.{Plain, Video, Sram}
use Rattle.model.specs.declared.VideoMemory.{VideoMemory}
use Rattle.model.specs.declared.Part.{Part}
use Rattle.parts.specs.Stored.{whole, bytes_of}
use Rattle.parts.proofs.LentPart.{part_byte}
use Rattle.loads.proofs.Words.{sram_part}
use Rattle.openbus.specs.OpenBus.{latching, protected_read}
use Rattle.loads.specs.Bus.{Meets}

-- ---- BIOS loads

latched_case : (t : Bool) (op op' : ℕ) → (if t then None else Some op) ≡ Some op' → (t ≡ false) × (op' ≡ op)
latched_case true op op' e = let z : ◌≡◌ {A = Bool} true false = cc in (cc, cc)
latched_case false op op' e = (refl, cc)

-- the latch was read, so the pc is outside the BIOS
pub latched : (pc op : ℕ) {op' : ℕ} → protected_read pc (latching op) ≡ Some op' → (ltb pc bios_size ≡ false) × (op' ≡ op)
unfolding protected_read
latched pc op {op'} e = latched_case (ltb pc bios_size) op op' e

unlatched_case : (t : Bool) (op : ℕ) → (if t then None else Some op) ≡ None → t ≡ true
unlatched_case true op e = refl
unlatched_case false op e = let z : ◌≡◌ {A = Bool} true false = cc in cc

pub unlatched : (pc op : ℕ) → protected_read pc (latching op) ≡ None → ltb pc bios_size ≡ true
unfolding protected_read
unlatched pc op e = unlatched_case (ltb pc bios_size) op e

-- ---- wide loads

-- the memory that is met lies in the store
pub meets_lies : (l : Lengths) (a : ℕ) {t : Target} {s : List ℕ} → Meets t l a s → Lies (length s) t
meets_lies l a m = rw (m.memory, ← m.whole) (target_lies l a)

-- the memory that a target turns out to be lies in the store
pub met_lies : (l : Lengths) (a : ℕ) (s : List ℕ) {t u : Target} → t ≡ u → t ≡ target l a → lengths_sum l ≡ length s
    → Lies (length s) u
met_lies l a s is m whole = subst (Lies (length s)) is (meets_lies l a (record { memory = m; whole = whole }))

module _ (l : Lengths) (b : Bus) (a : ℕ) {t : Target} (m : t ≡ target l a) where
  pub byte_is : {v : ℕ} → v ≡ byte_from b a t → v ≡ load8 l b a
  unfolding load8
  byte_is e = e ∙ ap (byte_from b a) m

  -- the byte is read in the memory that is met, as it was lent
  pub plain_byte : {p : Part} {i v : ℕ} {xs : List ℕ} → t ≡ Plain p i → xs ≡ bytes_of p b.store → v ≡ byte_at xs i
      → v ≡ load8 l b a
  plain_byte {p} {i} e f g =
      byte_is (g ∙ ap (λ (ys : List ℕ). byte_at ys i) f ∙ part_byte b.store p i ∙ ap (byte_from b a) (sym e))

  pub video_byte : {k : VideoMemory} {p : Part} {i v : ℕ} {xs : List ℕ} → t ≡ Video k p i → xs ≡ bytes_of p b.store
      → v ≡ byte_at xs i → v ≡ load8 l b a
  video_byte {p = p} {i} e f g =
      byte_is (g ∙ ap (λ (ys : List ℕ). byte_at ys i) f ∙ part_byte b.store p i ∙ ap (byte_from b a) (sym e))

  pub chip_byte : {p : Part} {i v : ℕ} {xs : List ℕ} → t ≡ Sram p i → p.base + p.size ≤ length b.store
      → xs ≡ bytes_of p b.store → v ≡ sram_byte xs (whole xs) i → v ≡ load8 l b a
  chip_byte {p} {i} e h f g =
      byte_is
      (g ∙ ap (λ (ys : List ℕ). sram_byte ys (whole ys) i) f ∙ sram_part b.store p i h ∙ ap (byte_from b a) (sym e))

  -- the test of the bus of 8 bits, as the code makes it
  sram_is : {s u : Bool} → s ≡ is_sram t → s ≡ u → is_sram (target l a) ≡ u
  sram_is e f = ap is_sram (sym m) ∙ sym e ∙ f

  pub half_repeats : {s : Bool} {low : ℕ} → s ≡ is_sram t → s ≡ true → low ≡ byte_from b a t → 0x0101 * low ≡ load16 l b a
  unfolding load16
  half_repeats e f g = ap (λ (n : ℕ). 0x0101 * n) (byte_is g) ∙ sym (if_true _ _ _ (sram_is e f))

  pub half_pair : {s : Bool} {low high : ℕ} → s ≡ is_sram t → s ≡ false → low ≡ byte_from b a t → high ≡ load8 l b (further 1 a)
      → low + 0x100 * high ≡ load16 l b a
  unfolding load16
  half_pair e f g h = ap₂ (λ (x y : ℕ). x + 0x100 * y) (byte_is g) h ∙ sym (if_false _ _ _ (sram_is e f))

  pub word_repeats : {s : Bool} {low : ℕ} → s ≡ is_sram t → s ≡ true → low ≡ byte_from b a t → 0x0101_0101 * low ≡ load32 l b a
  unfolding load32
  word_repeats e f g = ap (λ (n : ℕ). 0x0101_0101 * n) (byte_is g) ∙ sym (if_true _ _ _ (sram_is e f))

  pub word_pair : {s : Bool} {low high : ℕ} → s ≡ is_sram t → s ≡ false → low ≡ load16 l b a → high ≡ load16 l b (further 2 a)
      → low + 0x1_0000 * high ≡ load32 l b a
  unfolding load32
  word_pair e f g h = ap₂ (λ (x y : ℕ). x + 0x1_0000 * y) g h ∙ sym (if_false _ _ _ (sram_is e f))

-- ---- as the tactics use them

pub ruleset wide_laws = (meets_lies)
