-- Aligned loads: the bytes of one stand one after the other in one memory, so that it is the number in them, for every size.
use Rattle.std.specs.Prelude.{◌≡◌, refl, List, ℕ, ◌+◌, ◌*◌, ◌/◌, ◌%◌, ◌^◌, ◌≤◌, ◌<◌}
use Rattle.std.proofs.Math.Path.{sym, ap}
use Rattle.std.proofs.Common.{◌∙◌, ap₂, mod-eq_of_lt, lt-ltb}
use native.Mathlib.Omega.{arith}
use Rattle.std.proofs.Math.Nat.{add-zero, add-mul-mod_self_left}
use Rattle.model.specs.Base.{further, byte_at, number, AllBytes}
use Rattle.model.specs.Mirror.{rom_offset}
use Rattle.model.specs.Wait.{size_bytes_of}
use Rattle.model.specs.Memory.{byte_in, target, is_sram}
use Rattle.model.specs.Load.{Bus, byte_from, load8, load16, load32, load}
use Rattle.model.proofs.Laws.Choice.{if_true, if_false}
use Rattle.model.specs.Laws.Near.{around, moved}
use Rattle.model.proofs.Laws.Near.{near}
use Rattle.model.proofs.Laws.Codec.{number_add, number_below}
use Rattle.model.specs.declared.AccessSize.{AccessSize}
use Rattle.model.specs.declared.AccessSize.TheVariants.{Byte, Half, Word}
use Rattle.model.specs.declared.Lengths.{Lengths}
use Rattle.model.specs.declared.Part.{Part}
use Rattle.model.specs.declared.VideoMemory.{VideoMemory}
use Rattle.model.specs.declared.Target.{Target}
use Rattle.model.specs.declared.Target.TheVariants.{GamePakRom, Plain, Video}
use Rattle.model.specs.Laws.Aligned.{AlignedWord}

-- the bytes of the aligned word around an address are those of a list from a place on, and none of them is one that a load

-- the low bytes of a number in bytes
number_low : (m n : ℕ) (b : List ℕ) (i : ℕ) → AllBytes b → number (m + n) b i % 256 ^ m ≡ number m b i
number_low m n b i h =
    ap (λ (x : ℕ). x % 256 ^ m) (number_add m n b i)
    ∙ add-mul-mod_self_left (number m b i) (256 ^ m) (number n b (i + m))
    ∙ mod-eq_of_lt (number_below m i b h)

module _ (l : Lengths) (b : Bus) (a : ℕ) (t : a < 2 ^ 32) (xs : List ℕ) (q : ℕ) (s : AlignedWord l b a xs q) where
  half_aligned : (j : ℕ) → (a + j) / 4 ≡ a / 4 → (a + j + 1) / 4 ≡ a / 4 → load16 l b (a + j) ≡ number 2 xs (q + j)
  unfolding load16
  half_aligned j h k =
      let next : further 1 (a + j) ≡ a + (j + 1) = omega arith in
      let place : q + (j + 1) ≡ q + j + 1 = omega arith in
      if_false _ _ _ (s.plain j h)
      ∙ rw next (omega (arith, s.byte j h, rw place at (s.byte (j + 1) (omega arith))))

  load_aligned : (z : AccessSize) → a % size_bytes_of z ≡ 0 → load l b z a ≡ number (size_bytes_of z) xs q
  unfolding load32
  load_aligned Byte h = rw (add-zero a, add-zero q) at (s.byte 0 (omega arith)) ∙ omega arith
  load_aligned Half h = rw (add-zero a, add-zero q) at (half_aligned 0 (omega arith) (omega arith))
  load_aligned Word h =
      let next : further 2 a ≡ a + 2 = omega arith in
      if_false _ _ _ (rw (add-zero a) at (s.plain 0 (omega arith)))
      ∙ rw next
      (ap₂ (λ (x y : ℕ). x + 0x1_0000 * y) (rw (add-zero a, add-zero q) at (half_aligned 0 (omega arith) (omega arith)))
      (half_aligned 2 (omega arith) (omega arith)))
      ∙ sym (number_add 2 2 xs q)

  -- whatever the size, out of the word that stands there
  pub aligned_load : AllBytes xs → (z : AccessSize) → a % size_bytes_of z ≡ 0
      → load l b z a ≡ number 4 xs q % 256 ^ size_bytes_of z
  aligned_load k Byte h = load_aligned Byte h ∙ sym (number_low 1 3 xs q k)
  aligned_load k Half h = load_aligned Half h ∙ sym (number_low 2 2 xs q k)
  aligned_load k Word h = load_aligned Word h ∙ sym (number_low 4 0 xs q k)

-- ---- the memories whose bytes stand so

byte_there : (s : List ℕ) (p : Part) (i k : ℕ) → k ≡ i → i < p.size → byte_in s p k ≡ byte_at s (p.base + i)
unfolding byte_in
byte_there s p i k e h = rw e (if_true _ _ _ (lt-ltb i p.size h))

module _ (l : Lengths) (b : Bus) (a : ℕ) where
  pub plain_aligned : (p : Part) (i : ℕ) → target l a ≡ Plain p i → i + 4 ≤ p.size → AlignedWord l b a b.store (p.base + i)
  unfolding load8
  plain_aligned p i e h =
      record {
        byte = λ j k. ap (byte_from b (a + j)) (there j k)
            ∙ byte_there b.store p (i + j) _ (place j k) (omega arith) ∙ ap (byte_at b.store) (omega arith);
        plain = λ j k. ap is_sram (there j k);
      }
    where
      there : (j : ℕ) → (a + j) / 4 ≡ a / 4 → target l (a + j) ≡ Plain p (around i ((a + j) % 4))
      there j k = near l a (a + j) k ∙ ap (λ (t : Target). moved t ((a + j) % 4)) e

      own : i ≡ around i (a % 4)
      own =
          let same : Plain p i ≡ Plain p (around i (a % 4)) =
          sym e ∙ near l a a refl ∙ ap (λ (t : Target). moved t (a % 4)) e in
          cc

      place : (j : ℕ) → (a + j) / 4 ≡ a / 4 → around i ((a + j) % 4) ≡ i + j
      place j k = omega (arith, own)

  pub video_aligned : (m : VideoMemory) (p : Part) (i : ℕ) → target l a ≡ Video m p i
      → i + 4 ≤ p.size → AlignedWord l b a b.store (p.base + i)
  unfolding load8
  video_aligned m p i e h =
      record {
        byte = λ j k. ap (byte_from b (a + j)) (there j k)
            ∙ byte_there b.store p (i + j) _ (place j k) (omega arith) ∙ ap (byte_at b.store) (omega arith);
        plain = λ j k. ap is_sram (there j k);
      }
    where
      there : (j : ℕ) → (a + j) / 4 ≡ a / 4 → target l (a + j) ≡ Video m p (around i ((a + j) % 4))
      there j k = near l a (a + j) k ∙ ap (λ (t : Target). moved t ((a + j) % 4)) e

      own : i ≡ around i (a % 4)
      own =
          let same : Video m p i ≡ Video m p (around i (a % 4)) =
          sym e ∙ near l a a refl ∙ ap (λ (t : Target). moved t (a % 4)) e in
          cc

      place : (j : ℕ) → (a + j) / 4 ≡ a / 4 → around i ((a + j) % 4) ≡ i + j
      place j k = omega (arith, own)

  pub rom_aligned : target l a ≡ GamePakRom → AlignedWord l b a b.rom (rom_offset a)
  unfolding load8
  rom_aligned e =
      record {
        byte = λ j k. ap (byte_from b (a + j)) (there j k) ∙ ap (byte_at b.rom) (omega arith);
        plain = λ j k. ap is_sram (there j k);
      }
    where
      there : (j : ℕ) → (a + j) / 4 ≡ a / 4 → target l (a + j) ≡ GamePakRom
      there j k = near l a (a + j) k ∙ ap (λ (t : Target). moved t ((a + j) % 4)) e
