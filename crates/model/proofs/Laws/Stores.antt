-- Rules of stores, shown once for all sizes: bytes of the store that no rule names stay, what SRAM drops, how many halfwords
-- count; and wide stores by their parts, as the Rust does them.
use Rattle.std.specs.Prelude.{◌≡◌, refl, true, false, List, [], ◌∷◌, ◌++◌, ℕ, ◌+◌, ◌*◌, ◌/◌, ◌%◌, ◌^◌, ◌≤◌, ◌<◌, get_or, set}
use Rattle.std.proofs.Common.{sym, ◌∙◌, ap, true≢false, inl, inr, append_assoc, append-nil, arith, add_assoc, get_or-set_other, le-ltb}
use Rattle.std.proofs.lemmas.Bool.{false≢true}
use Rattle.model.specs.Base.{further, lowered, byte_of}
use Rattle.model.specs.Region.{decode}
use Rattle.model.specs.Mirror.{sram_offset}
use Rattle.model.specs.Wait.{size_bytes_of}
use Rattle.model.specs.Video.{fills}
use Rattle.model.specs.Memory.{sram_part, target, is_sram}
use Rattle.model.specs.Store.{Put, landed, put, put_bytes, put_aligned, puts_at, puts, video_count}
use Rattle.model.proofs.Laws.Choice.{if_false, bit≤1}
use Rattle.model.specs.Laws.Near.{around, moved}
use Rattle.model.proofs.Laws.Near.{near}
use Rattle.model.specs.declared.Region.TheVariants.{GamePakSram}
use Rattle.model.specs.declared.AccessSize.{AccessSize}
use Rattle.model.specs.declared.AccessSize.TheVariants.{Byte, Half, Word}
use Rattle.model.specs.declared.Lengths.{Lengths}
use Rattle.model.specs.declared.Part.{Part}
use Rattle.model.specs.declared.Target.{Target}
use Rattle.model.specs.declared.Target.TheVariants.{Unused, SystemRom, GamePakRom, Plain, Video, Sram}
use Rattle.model.specs.Laws.Stores.{Names, by_bytes}

-- what lands of two lists lands of one after the other
pub landed_append : (s : List ℕ) (ps qs : List Put) → landed s (ps ++ qs) ≡ landed (landed s ps) qs
landed_append s [] qs = refl
landed_append s (p ∷ ps) qs = landed_append (set s p.place p.byte) ps qs

-- ---- bytes that no put names stay as they are

pub unnamed_stays : (s : List ℕ) (ps : List Put) (i : ℕ) → ¬ (Names i ps) → get_or (landed s ps) i 0 ≡ get_or s i 0
unnamed_stays s [] i h = refl
unnamed_stays s (p ∷ ps) i h =
    unnamed_stays (set s p.place p.byte) ps i (λ n. h (inr n))
    ∙ get_or-set_other s p.place i p.byte 0 (λ e. h (inl (sym e)))

-- ---- an SRAM store past the chip's length is dropped, at every size

put_past : (p : Part) (i v : ℕ) → p.size ≤ i → put p i v ≡ []
unfolding put
put_past p i v h = if_false _ _ _ (le-ltb i p.size h)

pub sram_past : (l : Lengths) (mode : ℕ) (z : AccessSize) (a v : ℕ)
    → decode a ≡ GamePakSram → l.sram ≤ sram_offset a → puts l mode z a v ≡ []
unfolding target puts
sram_past l mode z a v e h = rw e (put_past (sram_part l) (sram_offset a) (byte_of (a % size_bytes_of z) v) h)

-- ---- a store counts at most two halfwords

pub few_counted : (mode : ℕ) (z : AccessSize) (t : Target) → video_count mode z t ≤ 2
few_counted mode z Unused = omega arith
few_counted mode z SystemRom = omega arith
few_counted mode z GamePakRom = omega arith
few_counted mode z (Plain p i) = omega arith
few_counted mode Byte (Video m p i) = omega (arith, bit≤1 (fills mode m i))
few_counted mode Half (Video m p i) = omega arith
few_counted mode Word (Video m p i) = omega arith
few_counted mode z (Sram p i) = omega arith

-- ---- so many bytes are some of them and the rest behind them

pub put_bytes_one : (p : Part) (i v : ℕ) → put_bytes p i 1 v ≡ put p i (v % 256)
put_bytes_one p i v = append-nil (put p i (v % 256))

pub put_bytes_two : (p : Part) (i v : ℕ) → put_bytes p i 2 v ≡ put p i (v % 256) ++ put p (i + 1) (v / 256 % 256)
put_bytes_two p i v = ap (λ (ps : List Put). put p i (v % 256) ++ ps) (put_bytes_one p (i + 1) (v / 256))

pub put_bytes_four : (p : Part) (i v : ℕ) → put_bytes p i 4 v ≡ put_bytes p i 2 v ++ put_bytes p (i + 2) 2 (v / 0x1_0000)
put_bytes_four p i v =
    let place : i + 1 + 1 ≡ i + 2 = omega arith in
    let high : v / 256 / 256 ≡ v / 0x1_0000 = omega arith in
    rw (place, high) (regroup (put p i (v % 256)) (put p (i + 1) (v / 256 % 256)) (put_bytes p (i + 2) 2 (v / 0x1_0000)))
  where
    regroup : (xs ys zs : List Put) → xs ++ (ys ++ zs) ≡ (xs ++ (ys ++ [])) ++ zs
    regroup xs ys zs =
        sym (append_assoc xs ys zs) ∙ ap (λ (w : List Put). w ++ zs) (ap (λ (w : List Put). xs ++ w) (sym (append-nil ys)))

-- ---- wide stores by their parts: the Rust's halfword store outside video memory and SRAM is two byte stores, and its word

-- store outside SRAM two halfword stores, at aligned addresses, each decoded by itself and in the display mode of its moment

-- the address as given is one of its word's
own_place : (l : Lengths) (a : ℕ) → target l a ≡ moved (target l a) (a % 4)
own_place l a = near l a a refl

byte_twice : (x : ℕ) → x % 256 % 256 ≡ x % 256
byte_twice x = omega arith

-- the two low bytes of a value are those of its low halfword
two_low : (p : Part) (i v : ℕ) → put_bytes p i 2 (v % 0x1_0000) ≡ put_bytes p i 2 v
two_low p i v =
    let cut : v % 0x1_0000 ≡ v % 256 + 256 * (v / 256 % 256) = omega arith in
    let low : v % 0x1_0000 % 256 ≡ v % 256 = omega (arith, cut) in
    let high : v % 0x1_0000 / 256 ≡ v / 256 % 256 = omega (arith, cut) in
    rw (low, high, byte_twice (v / 256))

-- the lower byte of a place's halfword, within its word
lower_half : (i : ℕ) → lowered 2 i ≡ lowered 4 i + i % 4 / 2 * 2
lower_half i = let which : i / 2 ≡ 2 * (i / 4) + i % 4 / 2 = omega arith in omega arith

in_word : (q r : ℕ) → r < 4 → (q * 4 + r) % 4 ≡ r
in_word q r h = omega arith

lower_half_in : (a : ℕ) → lowered 2 a % 4 ≡ a % 4 / 2 * 2
lower_half_in a = rw (lower_half a) (in_word (a / 4) (a % 4 / 2 * 2) (omega arith))

upper_half_in : (a : ℕ) → (lowered 2 a + 1) % 4 ≡ a % 4 / 2 * 2 + 1
upper_half_in a = rw (lower_half a, add_assoc) (in_word (a / 4) (a % 4 / 2 * 2 + 1) (omega arith))

half_at : (k m n a v : ℕ) (t : Target) → t ≡ moved t (a % 4) → by_bytes t ≡ true
    → puts_at m Byte (lowered 2 a) (v % 256) (moved t (lowered 2 a % 4))
    ++ puts_at n Byte (lowered 2 a + 1) (v / 256 % 256) (moved t ((lowered 2 a + 1) % 4))
    ≡ puts_at k Half a v t
half_at k m n a v Unused e h = refl
half_at k m n a v SystemRom e h = refl
half_at k m n a v GamePakRom e h = refl
half_at k m n a v (Plain p i) e h =
    let at : i ≡ around i (a % 4) = cc in
    let same : i % 4 ≡ a % 4 = omega arith in
    let half : lowered 2 i ≡ lowered 4 i + a % 4 / 2 * 2 = rw same at (lower_half i) in
    let low : lowered 2 a % 4 ≡ a % 4 / 2 * 2 = lower_half_in a in
    let high : (lowered 2 a + 1) % 4 ≡ a % 4 / 2 * 2 + 1 = upper_half_in a in
    let first : lowered 1 (around i (lowered 2 a % 4)) ≡ lowered 2 i = omega arith in
    let second : lowered 1 (around i ((lowered 2 a + 1) % 4)) ≡ lowered 2 i + 1 = omega arith in
    simp (first, second, append-nil, byte_twice)
half_at k m n a v (Video x p i) e h = absurd (false≢true h)
half_at k m n a v (Sram p i) e h = absurd (false≢true h)

pub half_by_bytes : (l : Lengths) (k m n a v : ℕ) → a < 2 ^ 32 → by_bytes (target l a) ≡ true
    → puts l m Byte (lowered 2 a) (v % 256) ++ puts l n Byte (further 1 (lowered 2 a)) (v / 256 % 256) ≡ puts l k Half a v
unfolding puts
half_by_bytes l k m n a v s h =
    let f : further 1 (lowered 2 a) ≡ lowered 2 a + 1 = omega arith in
    rw (f, near l a (lowered 2 a) (omega arith), near l a (lowered 2 a + 1) (omega arith))
    (half_at k m n a v (target l a) (own_place l a) h)

pair_at : (p : Part) (i a v : ℕ) → i ≡ around i (a % 4)
    → put_aligned p (around i (lowered 4 a % 4)) 2 (v % 0x1_0000)
    ++ put_aligned p (around i ((lowered 4 a + 2) % 4)) 2 (v / 0x1_0000 % 0x1_0000)
    ≡ put_aligned p i 4 v
pair_at p i a v at =
    let first : lowered 2 (around i (lowered 4 a % 4)) ≡ lowered 4 i = omega arith in
    let second : lowered 2 (around i ((lowered 4 a + 2) % 4)) ≡ lowered 4 i + 2 = omega arith in
    rw (first, second, two_low p (lowered 4 i) v, two_low p (lowered 4 i + 2) (v / 0x1_0000))
    (sym (put_bytes_four p (lowered 4 i) v))

word_at : (k m n a v : ℕ) (t : Target) → t ≡ moved t (a % 4) → is_sram t ≡ false
    → puts_at m Half (lowered 4 a) (v % 0x1_0000) (moved t (lowered 4 a % 4))
    ++ puts_at n Half (lowered 4 a + 2) (v / 0x1_0000 % 0x1_0000) (moved t ((lowered 4 a + 2) % 4))
    ≡ puts_at k Word a v t
word_at k m n a v Unused e h = refl
word_at k m n a v SystemRom e h = refl
word_at k m n a v GamePakRom e h = refl
word_at k m n a v (Plain p i) e h = pair_at p i a v cc
word_at k m n a v (Video x p i) e h = pair_at p i a v cc
word_at k m n a v (Sram p i) e h = absurd (true≢false h)

pub word_by_halves : (l : Lengths) (k m n a v : ℕ) → a < 2 ^ 32 → is_sram (target l a) ≡ false
    → puts l m Half (lowered 4 a) (v % 0x1_0000) ++ puts l n Half (further 2 (lowered 4 a)) (v / 0x1_0000 % 0x1_0000)
    ≡ puts l k Word a v
unfolding puts
word_by_halves l k m n a v s h =
    let f : further 2 (lowered 4 a) ≡ lowered 4 a + 2 = omega arith in
    rw (f, near l a (lowered 4 a) (omega arith), near l a (lowered 4 a + 2) (omega arith))
    (word_at k m n a v (target l a) (own_place l a) h)

-- it counts as they do
count_at : (k m n i j : ℕ) (t : Target) → video_count m Half (moved t i) + video_count n Half (moved t j) ≡ video_count k Word t
count_at k m n i j Unused = refl
count_at k m n i j SystemRom = refl
count_at k m n i j GamePakRom = refl
count_at k m n i j (Plain p x) = refl
count_at k m n i j (Video y p x) = refl
count_at k m n i j (Sram p x) = refl

pub word_count : (l : Lengths) (k m n a : ℕ) → a < 2 ^ 32
    → video_count m Half (target l (lowered 4 a)) + video_count n Half (target l (further 2 (lowered 4 a)))
    ≡ video_count k Word (target l a)
word_count l k m n a s =
    let f : further 2 (lowered 4 a) ≡ lowered 4 a + 2 = omega arith in
    rw (f, near l a (lowered 4 a) (omega arith), near l a (lowered 4 a + 2) (omega arith))
    (count_at k m n (lowered 4 a % 4) ((lowered 4 a + 2) % 4) (target l a))
