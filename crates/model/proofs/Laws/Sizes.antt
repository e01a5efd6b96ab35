-- Access sizes and addresses lowered to a multiple of one, each fact for all three sizes.
use Rattle.std.specs.Prelude.{◌≡◌, refl, true, ◌||◌, ℕ, ◌-◌, ◌*◌, ◌%◌, ◌^◌, ◌≤◌, ◌<◌, eqb}
use Rattle.std.proofs.Common.{sym, ◌∙◌, arith, mod-eq_of_lt, lit<, lit≤, eqb-true}
use Rattle.std.proofs.Math.Path.{ap}
use Rattle.model.specs.Base.{lowered}
use Rattle.model.specs.Wait.{size_bytes_of, size_log2, access_size_of, aligned}
use Rattle.model.proofs.Laws.Choice.{choose, or_right, or-false}
use Rattle.model.specs.Laws.Window.{InRom}
use Rattle.model.specs.declared.AccessSize.{AccessSize}
use Rattle.model.specs.declared.AccessSize.TheVariants.{Byte, Half, Word}

-- ---- a size and its bytes

pub some_bytes : (z : AccessSize) → 0 < size_bytes_of z
some_bytes Byte = lit< tt
some_bytes Half = lit< tt
some_bytes Word = lit< tt

pub bytes≤4 : (z : AccessSize) → size_bytes_of z ≤ 4
bytes≤4 Byte = lit≤ tt
bytes≤4 Half = lit≤ tt
bytes≤4 Word = lit≤ tt

pub log2≤2 : (z : AccessSize) → size_log2 z ≤ 2
log2≤2 Byte = lit≤ tt
log2≤2 Half = lit≤ tt
log2≤2 Word = lit≤ tt

-- 1, shifted
pub bytes_shifted : (z : AccessSize) → 1 * 2 ^ size_log2 z % 2 ^ 32 ≡ size_bytes_of z
bytes_shifted Byte = refl
bytes_shifted Half = refl
bytes_shifted Word = refl

pub size_back : (z : AccessSize) → access_size_of (size_bytes_of z) ≡ z
unfolding access_size_of
size_back Byte = refl
size_back Half = refl
size_back Word = refl

-- 1, 2 and 4 are the bytes of a size
pub bytes_back : (n : ℕ) → (eqb n 1 || eqb n 2 || eqb n 4) ≡ true → size_bytes_of (access_size_of n) ≡ n
unfolding access_size_of
bytes_back n t =
    choose (λ (z : AccessSize). size_bytes_of z ≡ n) (eqb n 1) (λ e. sym (eqb-true n 1 e))
    λ e₁. choose (λ (z : AccessSize). size_bytes_of z ≡ n) (eqb n 2) (λ e. sym (eqb-true n 2 e))
    λ e₂. sym (eqb-true n 4 (or_right (eqb n 1 || eqb n 2) (eqb n 4) t (or-false (eqb n 1) (eqb n 2) e₂ ∙ e₁)))

-- ---- lowered addresses

-- a multiple of the size, of 32 bits
pub aligned_multiple : (z : AccessSize) (a : ℕ) → aligned z a % size_bytes_of z ≡ 0
unfolding aligned
aligned_multiple Byte a = omega arith
aligned_multiple Half a = omega arith
aligned_multiple Word a = omega arith

pub aligned_small : (z : AccessSize) (a : ℕ) → aligned z a < 2 ^ 32
unfolding aligned
aligned_small Byte a = omega arith
aligned_small Half a = omega arith
aligned_small Word a = omega arith

pub remainder≤ : (z : AccessSize) (a : ℕ) → a % size_bytes_of z ≤ a
remainder≤ Byte a = omega arith
remainder≤ Half a = omega arith
remainder≤ Word a = omega arith

-- of an address that has 32 bits
module _ (a : ℕ) (fits : a < 2 ^ 32) where
  pub aligned_address : (z : AccessSize) → aligned z a ≡ lowered (size_bytes_of z) a
  unfolding aligned
  aligned_address z = ap (lowered (size_bytes_of z)) (mod-eq_of_lt fits)

  -- it is lowered by its remainder
  pub aligned_sub : (z : AccessSize) → aligned z a ≡ a - a % size_bytes_of z
  aligned_sub Byte = omega (arith, aligned_address Byte)
  aligned_sub Half = omega (arith, aligned_address Half)
  aligned_sub Word = omega (arith, aligned_address Word)

-- it stays in ROM
pub aligned_rom : (z : AccessSize) (a : ℕ) → InRom a → InRom (aligned z a)
aligned_rom Byte a h = omega (arith, aligned_address a (omega arith) Byte)
aligned_rom Half a h = omega (arith, aligned_address a (omega arith) Half)
aligned_rom Word a h = omega (arith, aligned_address a (omega arith) Word)
