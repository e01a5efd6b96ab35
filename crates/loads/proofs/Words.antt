-- A word that stands in one memory: its number by the part that was lent, its low bytes by their mask, and the aligned load
-- that they are; and an aligned load where nothing is lent. Assumes nothing.
use Rattle.std.proofs.Common.{◌≡◌, ℕ, zero, suc, ◌+◌, ◌-◌, ◌/◌, ◌%◌, ◌^◌, ◌<◌, ◌≤◌, true, false, ltb, List, [], ◌∷◌, length, take, drop, sym, refl, ap, ◌∙◌, add_assoc, zero-add, arith, get_or-drop, get_or-take, ltb-false, eqb}
use Rattle.std.specs.Prelude.{Option, Some, if◌then◌else◌}
use mathlib.Core.Bool.{false≢true}
use native.Mathlib.Nat.{zero-mod}
use lib.Bits.{bit_and, and_mask}
use Rattle.model.specs.Base.{byte_at, number, AllBytes}
use Rattle.model.specs.Mirror.{rom_offset}
use Rattle.model.specs.Wait.{size_bytes_of}
use Rattle.model.specs.Memory.{byte_in, target, is_sram}
use Rattle.model.specs.Load.{Bus, sram_byte, byte_from, load8, load}
use Rattle.model.proofs.Laws.Choice.{choose, choose₂, either}
use Rattle.model.specs.Laws.Near.{around, moved}
use Rattle.model.proofs.Laws.Near.{near}
use Rattle.model.specs.Laws.Aligned.{AlignedWord}
use Rattle.model.proofs.Laws.Aligned.{plain_aligned, video_aligned, rom_aligned, aligned_load}
use Rattle.model.specs.declared.AccessSize.{AccessSize}
use Rattle.model.specs.declared.AccessSize.TheVariants.{Byte, Half, Word}
use Rattle.model.specs.declared.Lengths.{Lengths}
use Rattle.model.specs.declared.Part.{Part}
use Rattle.model.specs.declared.Target.{Target}
use Rattle.model.specs.declared.Target.TheVariants.{Unused, SystemRom, GamePakRom, Plain, Video, Sram}
use Rattle.parts.specs.Stored.{whole, bytes_of}
use Rattle.parts.proofs.LentPart.{part_length, whole_byte, part_byte}
use Rattle.loads.specs.Words.{word_at, word_in, word_from, reads_zero}

-- the number in bytes of the k that were lent from a on
pub number_part : (n : ℕ) (xs : List ℕ) (a k i : ℕ) → i + n ≤ k → number n (take k (drop a xs)) i ≡ number n xs (a + i)
number_part zero xs a k i h = refl
number_part (suc n) xs a k i h =
    rw (get_or-take k (drop a xs) i 0 (omega arith), get_or-drop, number_part n xs a k (i + 1) (omega arith), add_assoc)

-- a word that is found in the memory that was lent
pub word_part : (xs : List ℕ) (p : Part) (i : ℕ) → p.base + p.size ≤ length xs
    → word_at (bytes_of p xs) 0 (length (bytes_of p xs)) i ≡ word_in xs p i
unfolding word_at
word_part xs p i h =
    ap (λ (n : ℕ). word_at (bytes_of p xs) 0 n i) (part_length xs p h)
    ∙ choose₂ (λ (x y : Option ℕ). x ≡ y) (ltb p.size (i + 4)) (λ e. refl)
    (λ e. ap (λ (n : ℕ). Some n)
    (ap (number 4 (bytes_of p xs)) (zero-add i) ∙ number_part 4 xs p.base p.size i (ltb-false p.size (i + 4) e)))

-- a byte of SRAM that is found in the chip, as it was lent
pub sram_part : (xs : List ℕ) (p : Part) (i : ℕ) → p.base + p.size ≤ length xs
    → sram_byte (bytes_of p xs) (whole (bytes_of p xs)) i ≡ sram_byte xs p i
unfolding sram_byte
sram_part xs p i h =
    let n = part_length xs p h in
    ap (λ (k : ℕ). if eqb k 0 then 0xFF else byte_in (bytes_of p xs) (whole (bytes_of p xs)) (i % k)) n
    ∙ ap (λ (b : ℕ). if eqb p.size 0 then 0xFF else b)
    (whole_byte (bytes_of p xs) (i % p.size) ∙ part_byte xs p (i % p.size))

-- the low bytes of a word by their mask
pub masked : (z : AccessSize) (w : ℕ) → bit_and w (256 ^ size_bytes_of z - 1) ≡ w % 256 ^ size_bytes_of z
masked Byte w = and_mask w 8
masked Half w = and_mask w 16
masked Word w = and_mask w 32

-- ---- a word found is all there

pub record Stands (xs : List ℕ) (base n i w : ℕ) : Type 0 where
  pub all : i + 4 ≤ n
  pub word : w ≡ number 4 xs (base + i)

found : (xs : List ℕ) (base n i : ℕ) {w : ℕ} → word_at xs base n i ≡ Some w → Stands xs base n i w
unfolding word_at
found xs base n i {w} =
    choose (λ (r : Option ℕ). r ≡ Some w → Stands xs base n i w) (ltb n (i + 4))
    (λ e h. let z : ◌≡◌ {A = ℕ} 0 1 = cc in absurd (omega arith))
    (λ e h. record { all = ltb-false n (i + 4) e; word = cc })

module _ (l : Lengths) (b : Bus) (z : AccessSize) (a : ℕ) (fits : a < 2 ^ 32) (aligned : a % size_bytes_of z ≡ 0)
    (store : AllBytes b.store) (rom : AllBytes b.rom) where
  -- the low bytes of a word where the load's bytes stand
  low : {xs : List ℕ} {q w : ℕ} → AllBytes xs → AlignedWord l b a xs q → w ≡ number 4 xs q
      → w % 256 ^ size_bytes_of z ≡ load l b z a
  low {xs} {q} k s e = ap (λ (n : ℕ). n % 256 ^ size_bytes_of z) e ∙ sym (aligned_load l b a fits xs q s k z aligned)

  by_target : (t : Target) {w : ℕ} → target l a ≡ t → word_from b.rom b.store a t ≡ Some w
      → w % 256 ^ size_bytes_of z ≡ load l b z a
  by_target Unused e h = let x : ◌≡◌ {A = ℕ} 0 1 = cc in absurd (omega arith)
  by_target SystemRom e h = let x : ◌≡◌ {A = ℕ} 0 1 = cc in absurd (omega arith)
  by_target GamePakRom e h =
      let s = found b.rom 0 (length b.rom) (rom_offset a) h in
      low rom (rom_aligned l b a e) (s.word ∙ ap (number 4 b.rom) (zero-add (rom_offset a)))
  by_target (Plain p i) e h =
      let s = found b.store p.base p.size i h in
      low store (plain_aligned l b a p i e s.all) s.word
  by_target (Video m p i) e h =
      let s = found b.store p.base p.size i h in
      low store (video_aligned l b a m p i e s.all) s.word
  by_target (Sram p i) e h = let x : ◌≡◌ {A = ℕ} 0 1 = cc in absurd (omega arith)

  -- the word that was found has the load in its low bytes
  pub word_loads : (t : Target) {w : ℕ} → t ≡ target l a → word_from b.rom b.store a t ≡ Some w
      → w % 256 ^ size_bytes_of z ≡ load l b z a
  word_loads t e h = by_target t (sym e) h

-- ---- where neither a store nor a ROM is lent

pub no_bytes : (xs : List ℕ) → length xs ≡ 0 → xs ≡ []
no_bytes [] h = refl
no_bytes (x ∷ xs) h = absurd (omega (arith, h))

empty_byte : (p : Part) (i : ℕ) → byte_in [] p i ≡ 0
unfolding byte_in
empty_byte p i = either (λ (n : ℕ). n ≡ 0) (ltb i p.size) refl refl

module _ (l : Lengths) (b : Bus) (a : ℕ) (store : b.store ≡ []) (rom : b.rom ≡ []) where
  -- every byte of the word around an address is 0, and none is one that a load repeats
  zero_byte_law : (t : Target) (x j : ℕ) → reads_zero t ≡ true → byte_from b x (moved t j) ≡ 0
  zero_byte_law Unused x j h = refl
  zero_byte_law SystemRom x j h = absurd (false≢true h)
  zero_byte_law GamePakRom x j h = ap (λ (xs : List ℕ). byte_at xs (rom_offset x)) rom
  zero_byte_law (Plain p i) x j h = ap (λ (xs : List ℕ). byte_in xs p (around i j)) store ∙ empty_byte p (around i j)
  zero_byte_law (Video m p i) x j h = ap (λ (xs : List ℕ). byte_in xs p (around i j)) store ∙ empty_byte p (around i j)
  zero_byte_law (Sram p i) x j h = absurd (false≢true h)

  not_repeated : (t : Target) (j : ℕ) → reads_zero t ≡ true → is_sram (moved t j) ≡ false
  not_repeated Unused j h = refl
  not_repeated SystemRom j h = refl
  not_repeated GamePakRom j h = refl
  not_repeated (Plain p i) j h = refl
  not_repeated (Video m p i) j h = refl
  not_repeated (Sram p i) j h = absurd (false≢true h)

  nothing_there : (t : Target) → target l a ≡ t → reads_zero t ≡ true → AlignedWord l b a [] 0
  unfolding load8
  nothing_there t e h =
      record {
        byte = λ j k. ap (byte_from b (a + j)) (there j k) ∙ zero_byte_law t (a + j) ((a + j) % 4) h;
        plain = λ j k. ap is_sram (there j k) ∙ not_repeated t ((a + j) % 4) h;
      }
    where
      there : (j : ℕ) → (a + j) / 4 ≡ a / 4 → target l (a + j) ≡ moved t ((a + j) % 4)
      there j k = near l a (a + j) k ∙ ap (λ (u : Target). moved u ((a + j) % 4)) e

  -- so an aligned load is 0
  pub nothing_loads : (z : AccessSize) (t : Target) → a < 2 ^ 32 → a % size_bytes_of z ≡ 0 → t ≡ target l a → reads_zero t ≡ true
      → 0 ≡ load l b z a
  nothing_loads z t fits aligned e h =
      sym
      (aligned_load l b a fits [] 0 (nothing_there t (sym e) h) (λ j. omega arith) z aligned ∙ zero-mod (256 ^ size_bytes_of z))
