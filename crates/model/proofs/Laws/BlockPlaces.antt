-- The bytes of a block's words are at places of their own in the lent store: two of its words never meet one byte.
use Rattle.std.specs.Prelude.{◌≡◌, refl, ◌⊎◌, List, [], ◌∷◌, ◌++◌, ℕ, zero, suc, ◌+◌, ◌*◌, ◌/◌, ◌%◌, ◌^◌, ◌≤◌, ◌<◌, ltb, eqb, leb, not, ◌&&◌}
use Rattle.std.specs.Prelude.{Option, Some, None}
use Rattle.std.specs.Prelude.{if◌then◌else◌}
use Rattle.std.proofs.Common.{ap, ap₂, ◌∙◌, ⊎_elim, inl, inr, arith, ltb-true, lt-ltb, le-ltb, eqb-true}
use Rattle.model.specs.Base.{further, lowered, byte_of}
use Rattle.model.specs.Region.{page, decode}
use Rattle.model.specs.Mirror.{vram_offset, io_offset}
use Rattle.std.proofs.lemmas.Bool.{not-false}
use Rattle.std.proofs.Math.Nat.{zero-div}
use Rattle.model.specs.Memory.{ewram_part, iwram_part, io_part, palette_part, vram_part, oam_part, sram_part}
use Rattle.model.specs.Memory.{lengths_sum, io_target, target_in, target}
use Rattle.model.specs.Store.{Put, landed, put, put_bytes, mode_of, puts_at, puts}
use Rattle.model.specs.Step.{stores, block_stores}
use Rattle.model.proofs.Laws.Choice.{choose, if_true, if_false}
use Rattle.model.specs.Laws.Stores.{Names}
use Rattle.model.specs.Laws.Landed.{Apart, Written}
use Rattle.model.proofs.Laws.Landed.{written, block_own}
use Rattle.model.specs.declared.AccessSize.TheVariants.{Word}
use Rattle.model.specs.declared.Contents.{Contents}
use Rattle.model.specs.declared.Lengths.{Lengths}
use Rattle.model.specs.declared.Part.{Part}
use Rattle.model.specs.declared.Region.{Region}
use Rattle.model.specs.declared.Region.TheVariants.{Bios, UnusedLow, Ewram, Iwram, Io, Palette, Vram, Oam}
use Rattle.model.specs.declared.Region.TheVariants.{GamePakRomWs0, GamePakRomWs1, GamePakRomWs2, GamePakSram, UnusedHigh}
use Rattle.model.specs.declared.Target.{Target}
use Rattle.model.specs.declared.Target.TheVariants.{Unused, SystemRom, GamePakRom, Plain, Video, Sram}
use Rattle.model.specs.Laws.BlockPlaces.{Among, MeetsByte, base_under, TellsAddress, FoldOf, Zeros}

-- ---- where the bytes of a word are

-- what is among the n bytes behind an index is among the n + 1 from it on
wider : (p : Part) (i n j : ℕ) → Among p (i + 1) n j → Among p i (suc n) j
wider p i n j h = record { from = omega (arith, h.from); to = omega (arith, h.to); end = h.end }

named_among : (p : Part) (i n v j : ℕ) → Names j (put_bytes p i n v) → Among p i n j
unfolding put
named_among p i zero v j = λ h. absurd h
named_among p i (suc n) v j =
    let behind : Names j (put_bytes p (i + 1) n (v / 256)) → Among p i (suc n) j =
    λ h. wider p i n j (named_among p (i + 1) n (v / 256) j h) in
    choose (λ (ps : List Put). Names j (ps ++ put_bytes p (i + 1) n (v / 256)) → Among p i (suc n) j) (ltb i p.size)
    (λ e.
    ⊎_elim (λ at. record { from = omega arith; to = omega arith; end = omega (arith, ltb-true i p.size e) }) behind)
    (λ e. behind)

one_among : (p : Part) (i v j : ℕ) → Names j (put p i v) → Among p (lowered 4 i) 4 j
unfolding put
one_among p i v j =
    choose (λ (ps : List Put). Names j ps → Among p (lowered 4 i) 4 j) (ltb i p.size)
    (λ e.
    ⊎_elim
    (λ at. record { from = omega arith; to = omega arith; end = omega (arith, ltb-true i p.size e) })
    (λ h. absurd h))
    (λ e h. absurd h)

meets_at : (mode a v j : ℕ) (t : Target) → Names j (puts_at mode Word a v t) → MeetsByte t j
meets_at mode a v j Unused h = h
meets_at mode a v j SystemRom h = h
meets_at mode a v j GamePakRom h = h
meets_at mode a v j (Plain p i) h = named_among p (lowered 4 i) 4 v j h
meets_at mode a v j (Video m p i) h = named_among p (lowered 4 i) 4 v j h
meets_at mode a v j (Sram p i) h = one_among p i (byte_of (a % 4) v) j h

meets : (l : Lengths) (mode a v j : ℕ) → Names j (puts l mode Word a v) → MeetsByte (target l a) j
unfolding puts
meets l mode a v j h = meets_at mode a v j (target l a) h

-- ---- a place of the store tells the address modulo 0x400, of which the size of every memory and of every fold is a multiple

told_by : (l : Lengths) (p : Part) (i a j : ℕ) → Among p (lowered 4 i) 4 j → i % 0x400 ≡ a % 0x400 → base_under l j ≡ p.base
    → TellsAddress l a j
told_by l p i a j h e b = record { row = rw b (omega (arith, h.from, h.to)) }

vram_fold : (a : ℕ) → vram_offset a % 0x400 ≡ a % 0x400
unfolding vram_offset
vram_fold a = choose (λ (i : ℕ). i % 0x400 ≡ a % 0x400) (ltb (a % 0x20000) 0x10000) (λ e. omega arith) (λ e. omega arith)

-- a place in one of the seven memories is found to be there
module _ (l : Lengths) (j : ℕ) where
  before : (k b x : ℕ) → j < k → (if ltb j k then b else x) ≡ b
  before k b x h = if_true _ _ _ (lt-ltb j k h)

  behind : (k b x p : ℕ) → k ≤ j → x ≡ p → (if ltb j k then b else x) ≡ p
  behind k b x p h e = if_false _ _ _ (le-ltb j k h) ∙ e

  ewram_base : (i : ℕ) → Among (ewram_part l) i 4 j → base_under l j ≡ (ewram_part l).base
  ewram_base i h = before (iwram_part l).base _ _ (omega (arith, h.end))

  iwram_base : (i : ℕ) → Among (iwram_part l) i 4 j → base_under l j ≡ (iwram_part l).base
  iwram_base i h = behind (iwram_part l).base _ _ _ (omega (arith, h.from))
      (before (io_part l).base _ _ (omega (arith, h.end)))

  io_base : (i : ℕ) → Among (io_part l) i 4 j → base_under l j ≡ (io_part l).base
  io_base i h = behind (iwram_part l).base _ _ _ (omega (arith, h.from))
      (behind (io_part l).base _ _ _ (omega (arith, h.from))
      (before (palette_part l).base _ _ (omega (arith, h.end))))

  palette_base : (i : ℕ) → Among (palette_part l) i 4 j → base_under l j ≡ (palette_part l).base
  palette_base i h = behind (iwram_part l).base _ _ _ (omega (arith, h.from))
      (behind (io_part l).base _ _ _ (omega (arith, h.from))
      (behind (palette_part l).base _ _ _ (omega (arith, h.from))
      (before (vram_part l).base _ _ (omega (arith, h.end)))))

  vram_base : (i : ℕ) → Among (vram_part l) i 4 j → base_under l j ≡ (vram_part l).base
  vram_base i h = behind (iwram_part l).base _ _ _ (omega (arith, h.from))
      (behind (io_part l).base _ _ _ (omega (arith, h.from))
      (behind (palette_part l).base _ _ _ (omega (arith, h.from))
      (behind (vram_part l).base _ _ _ (omega (arith, h.from))
      (before (oam_part l).base _ _ (omega (arith, h.end))))))

  oam_base : (i : ℕ) → Among (oam_part l) i 4 j → base_under l j ≡ (oam_part l).base
  oam_base i h = behind (iwram_part l).base _ _ _ (omega (arith, h.from))
      (behind (io_part l).base _ _ _ (omega (arith, h.from))
      (behind (palette_part l).base _ _ _ (omega (arith, h.from))
      (behind (vram_part l).base _ _ _ (omega (arith, h.from))
      (behind (oam_part l).base _ _ _ (omega (arith, h.from))
      (before (sram_part l).base _ _ (omega (arith, h.end)))))))

  sram_base : (i : ℕ) → Among (sram_part l) i 4 j → base_under l j ≡ (sram_part l).base
  sram_base i h = behind (iwram_part l).base _ _ _ (omega (arith, h.from))
      (behind (io_part l).base _ _ _ (omega (arith, h.from))
      (behind (palette_part l).base _ _ _ (omega (arith, h.from))
      (behind (vram_part l).base _ _ _ (omega (arith, h.from))
      (behind (oam_part l).base _ _ _ (omega (arith, h.from))
      (behind (sram_part l).base _ _ _ (omega (arith, h.from))
      refl)))))

io_fold : (a : ℕ) → FoldOf a (io_offset a)
unfolding io_offset
io_fold a =
    choose (FoldOf a) (not (eqb (page a) 0x04)) (λ e. tt)
    λ e. choose (FoldOf a) (leb 0x800 (a % 0x10000) && ltb (a % 0x10000) 0x804) (λ h. omega arith)
    λ h. choose (FoldOf a) (ltb a 0x0400_0400)
    (λ u. omega (arith, eqb-true (page a) 0x04 (not-false (eqb (page a) 0x04) e)))
    λ u. tt

io_tells : (l : Lengths) (a j : ℕ) (x : Option ℕ) → FoldOf a x → MeetsByte (io_target (io_part l) x) j → TellsAddress l a j
io_tells l a j (Some i) f h = told_by l (io_part l) i a j h f (io_base l j _ h)
io_tells l a j None f h = absurd h

tells_in : (l : Lengths) (a j : ℕ) (r : Region) → MeetsByte (target_in l a r) j → TellsAddress l a j
tells_in l a j Bios h = absurd h
tells_in l a j UnusedLow h = absurd h
tells_in l a j Ewram h = told_by l (ewram_part l) _ a j h (omega arith) (ewram_base l j _ h)
tells_in l a j Iwram h = told_by l (iwram_part l) _ a j h (omega arith) (iwram_base l j _ h)
tells_in l a j Io h = io_tells l a j (io_offset a) (io_fold a) h
tells_in l a j Palette h = told_by l (palette_part l) _ a j h (omega arith) (palette_base l j _ h)
tells_in l a j Vram h = told_by l (vram_part l) _ a j h (vram_fold a) (vram_base l j _ h)
tells_in l a j Oam h = told_by l (oam_part l) _ a j h (omega arith) (oam_base l j _ h)
tells_in l a j GamePakRomWs0 h = absurd h
tells_in l a j GamePakRomWs1 h = absurd h
tells_in l a j GamePakRomWs2 h = absurd h
tells_in l a j GamePakSram h = told_by l (sram_part l) _ a j h (omega arith) (sram_base l j _ h)
tells_in l a j UnusedHigh h = absurd h

tells : (l : Lengths) (mode a v j : ℕ) → Names j (puts l mode Word a v) → TellsAddress l a j
unfolding target
tells l mode a v j h = tells_in l a j (decode a) (meets l mode a v j h)

-- ---- so two words of which the second is less than 0x400 bytes behind the first, modulo 2^32, meet no byte both

pub words_apart : (l : Lengths) (m n a g u v j : ℕ) → a % 4 ≡ 0 → 4 ≤ g → g ≤ 0x3FC
    → Names j (puts l m Word a u) → Names j (puts l n Word (further g a) v) → ⊥
words_apart l m n a g u v j w s t p q =
    let one = tells l m a u j p in
    let two = tells l n (further g a) v j q in
    absurd (omega (arith, one.row, two.row))

-- ---- so the bytes of a block's words are at places of their own, each once

named_in : (j : ℕ) (ps qs : List Put) → Names j (ps ++ qs) → Names j ps ⊎ Names j qs
named_in j [] qs h = inr h
named_in j (p ∷ ps) qs (inl e) = inl (inl e)
named_in j (p ∷ ps) qs (inr h) = ⊎_elim (λ n. inl (inr n)) (λ n. inr n) (named_in j ps qs h)

-- a word, and the words that begin at a distance behind it
rest_apart : (l : Lengths) (m : ℕ) (d : Contents) (s : List ℕ) (a g u n j : ℕ) → a % 4 ≡ 0 → 4 ≤ g → g + 4 * n ≤ 0x400
    → Names j (puts l m Word a u) → Names j (block_stores l d s (further g a) n).puts → ⊥
rest_apart l m d s a g u zero j w f t p q = q
rest_apart l m d s a g u (suc n) j w f t p q =
    let word = stores l d s Word (further g a) 0 in
    let next : further 4 (further g a) ≡ further (g + 4) a = omega arith in
    let rest = block_stores l word.contents (landed s word.puts) in
    ⊎_elim (λ h. words_apart l m (mode_of l s) a g u 0 j w f (omega arith) p h)
    (λ h. rest_apart l m word.contents (landed s word.puts) a (g + 4) u n j w (omega arith) (omega arith) p
    (rw next at h))
    (named_in j word.puts (rest (further 4 (further g a)) n).puts q)

apart_append : (ps qs : List Put) → Apart ps → Apart qs → ((j : ℕ) → Names j ps → Names j qs → ⊥) → Apart (ps ++ qs)
apart_append [] qs f g h = g
apart_append (p ∷ ps) qs f g h = (
  (λ n. ⊎_elim f.0 (h p.place (inl refl)) (named_in p.place ps qs n)),
  apart_append ps qs f.1 g (λ j n. h j (inr n)),
)

block_apart : (l : Lengths) (d : Contents) (s : List ℕ) (a n : ℕ) → a % 4 ≡ 0 → 4 * n ≤ 0x400
    → Apart (block_stores l d s a n).puts
block_apart l d s a zero w t = tt
block_apart l d s a (suc n) w t =
    let word = stores l d s Word a 0 in
    apart_append word.puts _ (written l (mode_of l s) Word a 0).apart
    (block_apart l word.contents (landed s word.puts) (further 4 a) n (omega arith) (omega arith))
    (λ j p q. rest_apart l (mode_of l s) word.contents (landed s word.puts) a 4 0 n j w (omega arith) (omega arith) p q)

pub block_written : (l : Lengths) (d : Contents) (s : List ℕ) (a n : ℕ) → a % 4 ≡ 0 → 4 * n ≤ 0x400
    → Written (lengths_sum l) (block_stores l d s a n).puts
block_written l d s a n w t = record { own = block_own l d s a n; apart = block_apart l d s a n w t }

-- ---- each of them is 0

zeros_append : (ps qs : List Put) → Zeros ps → Zeros qs → Zeros (ps ++ qs)
zeros_append [] qs f g = g
zeros_append (p ∷ ps) qs f g = (f.0, zeros_append ps qs f.1 g)

put_zero : (p : Part) (i v : ℕ) → v ≡ 0 → Zeros (put p i v)
unfolding put
put_zero p i v e = choose Zeros (ltb i p.size) (λ t. (e, tt)) (λ t. tt)

bytes_zero : (p : Part) (i n : ℕ) → Zeros (put_bytes p i n 0)
bytes_zero p i zero = tt
bytes_zero p i (suc n) = zeros_append (put p i 0) _ (put_zero p i 0 refl) (bytes_zero p (i + 1) n)

zeros_at : (mode a : ℕ) (t : Target) → Zeros (puts_at mode Word a 0 t)
zeros_at mode a Unused = tt
zeros_at mode a SystemRom = tt
zeros_at mode a GamePakRom = tt
zeros_at mode a (Plain p i) = bytes_zero p (lowered 4 i) 4
zeros_at mode a (Video m p i) = bytes_zero p (lowered 4 i) 4
zeros_at mode a (Sram p i) = put_zero p i (byte_of (a % 4) 0) (ap (λ (x : ℕ). x % 256) (zero-div (256 ^ (a % 4))))

word_zeros : (l : Lengths) (mode a : ℕ) → Zeros (puts l mode Word a 0)
unfolding puts
word_zeros l mode a = zeros_at mode a (target l a)

pub block_zeros : (l : Lengths) (d : Contents) (s : List ℕ) (a n : ℕ) → Zeros (block_stores l d s a n).puts
block_zeros l d s a zero = tt
block_zeros l d s a (suc n) =
    let word = stores l d s Word a 0 in
    zeros_append word.puts _ (word_zeros l (mode_of l s) a)
    (block_zeros l word.contents (landed s word.puts) (further 4 a) n)

-- ---- which places they are hangs on lengths, address and number of words alone: a word is stored alike in every display mode

any_mode_at : (m n a : ℕ) (t : Target) → puts_at m Word a 0 t ≡ puts_at n Word a 0 t
any_mode_at m n a Unused = refl
any_mode_at m n a SystemRom = refl
any_mode_at m n a GamePakRom = refl
any_mode_at m n a (Plain p i) = refl
any_mode_at m n a (Video x p i) = refl
any_mode_at m n a (Sram p i) = refl

any_mode : (l : Lengths) (m n a : ℕ) → puts l m Word a 0 ≡ puts l n Word a 0
unfolding puts
any_mode l m n a = any_mode_at m n a (target l a)

pub block_alike : (l : Lengths) (d c : Contents) (s t : List ℕ) (a n : ℕ)
    → (block_stores l d s a n).puts ≡ (block_stores l c t a n).puts
block_alike l d c s t a zero = refl
block_alike l d c s t a (suc n) =
    let one = stores l d s Word a 0 in
    let other = stores l c t Word a 0 in
    ap₂ (λ (ps qs : List Put). ps ++ qs) (any_mode l (mode_of l s) (mode_of l t) a)
    (block_alike l one.contents other.contents (landed s one.puts) (landed t other.puts) (further 4 a) n)
