-- Addresses of one aligned word meet one memory, at neighbouring places of it. So an aligned access, of whatever size, lies
-- in one memory, though each of its bytes is decoded by itself.
use Rattle.std.specs.Prelude.{◌≡◌, refl, Bool, true, false, ◌&&◌, ℕ, ◌+◌, ◌/◌, ◌%◌, ◌^◌, ◌≤◌, ◌<◌, eqb, ltb, leb}
use Rattle.std.proofs.Common.{sym, ◌∙◌, ap, arith, eqb-true, ltb-true, ltb-false, lt-ltb, le-ltb, leb-true, leb-false, le-leb}
use Rattle.std.proofs.lemmas.Bool.{lt-leb}
use Rattle.std.specs.Prelude.{if◌then◌else◌}
use Rattle.std.specs.Prelude.{Option}
use Rattle.model.specs.Region.{page, decode}
use Rattle.model.specs.Mirror.{vram_offset, io_offset}
use Rattle.model.specs.Wait.{aligned}
use Rattle.model.specs.Memory.{ewram_part, iwram_part, io_part, palette_part, vram_part}
use Rattle.model.specs.Memory.{oam_part, sram_part, io_target, target_in, target}
use Rattle.model.specs.declared.Region.{Region}
use Rattle.model.specs.declared.Region.TheVariants.{Bios, UnusedLow, Ewram, Iwram, Io, Palette, Vram, Oam}
use Rattle.model.specs.declared.Region.TheVariants.{GamePakRomWs0, GamePakRomWs1, GamePakRomWs2, GamePakSram, UnusedHigh}
use Rattle.model.proofs.Laws.Sizes.{aligned_address}
use Rattle.model.specs.declared.AccessSize.{AccessSize}
use Rattle.model.specs.declared.AccessSize.TheVariants.{Byte, Half, Word}
use Rattle.model.specs.declared.Lengths.{Lengths}
use Rattle.model.specs.declared.Part.{Part}
use Rattle.model.specs.declared.VideoMemory.TheVariants.{PaletteRam, VideoRam, ObjectRam}
use Rattle.model.specs.declared.Target.TheVariants.{Plain, Video, Sram}
use Rattle.model.specs.Laws.Near.{around, moved, io_at}

-- ---- tests that such addresses decide alike

alike : (t u : Bool) → (t ≡ true → u ≡ true) → (t ≡ false → u ≡ false) → u ≡ t
alike true u f g = f refl
alike false u f g = g refl

-- two numbers on the same side of a bound test alike
same_ltb : (x y k : ℕ) → (x < k → y < k) → (k ≤ x → k ≤ y) → ltb y k ≡ ltb x k
same_ltb x y k f g =
    alike (ltb x k) (ltb y k) (λ e. lt-ltb y k (f (ltb-true x k e))) (λ e. le-ltb y k (g (ltb-false x k e)))

same_leb : (x y k : ℕ) → (x < k → y < k) → (k ≤ x → k ≤ y) → leb k y ≡ leb k x
same_leb x y k f g =
    alike (leb k x) (leb k y) (λ e. le-leb k y (g (leb-true k x e))) (λ e. lt-leb k y (f (leb-false k x e)))

-- ---- one region

pub same_region_law : (a b : ℕ) → b / 4 ≡ a / 4 → decode b ≡ decode a
unfolding decode
same_region_law a b h =
    let p : page b ≡ page a = omega arith in
    let t = same_ltb a b 0x4000 (λ q. omega arith) (λ q. omega arith) in
    simp (p, t)

-- of a lowered address too
pub aligned_region : (z : AccessSize) (a : ℕ) → a < 2 ^ 32 → decode (aligned z a) ≡ decode a
aligned_region Byte a h = same_region_law a (aligned Byte a) (omega (arith, aligned_address a h Byte))
aligned_region Half a h = same_region_law a (aligned Half a) (omega (arith, aligned_address a h Half))
aligned_region Word a h = same_region_law a (aligned Word a) (omega (arith, aligned_address a h Word))

-- ---- one memory

vram_near : (a b : ℕ) → b / 4 ≡ a / 4 → vram_offset b ≡ around (vram_offset a) (b % 4)
unfolding vram_offset
vram_near a b h =
    let t = same_ltb (a % 0x20000) (b % 0x20000) 0x10000 (λ q. omega arith) (λ q. omega arith) in
    rw t (by (ltb (a % 0x20000) 0x10000))
  where
    by : (t : Bool)
        → (if t then b % 0x20000 else 0x10000 + b % 0x8000) ≡ around (if t then a % 0x20000 else 0x10000 + a % 0x8000) (b % 4)
    by true = omega arith
    by false = omega arith

io_tests : (a b : ℕ) → b / 4 ≡ a / 4
    → io_offset b ≡ io_at (eqb (page a) 0x04) (leb 0x800 (a % 0x10000) && ltb (a % 0x10000) 0x804) (ltb a 0x0400_0400) b
unfolding io_offset
io_tests a b h =
    let p : page b ≡ page a = omega arith in
    let from = same_leb (a % 0x10000) (b % 0x10000) 0x800 (λ q. omega arith) (λ q. omega arith) in
    let to = same_ltb (a % 0x10000) (b % 0x10000) 0x804 (λ q. omega arith) (λ q. omega arith) in
    let once = same_ltb a b 0x0400_0400 (λ q. omega arith) (λ q. omega arith) in
    simp (p, from, to, once)

io_case : (p : Part) (a b : ℕ) → b / 4 ≡ a / 4 → (t u w : Bool) → (t ≡ true → 0x0400_0000 ≤ a)
    → io_target p (io_at t u w b) ≡ moved (io_target p (io_at t u w a)) (b % 4)
io_case p a b h false u w k = refl
io_case p a b h true true w k = ap (Plain p) (omega arith)
io_case p a b h true false true k = let low = k refl in ap (Plain p) (omega arith)
io_case p a b h true false false k = refl

io_near : (p : Part) (a b : ℕ) → b / 4 ≡ a / 4 → io_target p (io_offset b) ≡ moved (io_target p (io_offset a)) (b % 4)
io_near p a b h =
    ap (io_target p) (io_tests a b h)
    ∙ io_case p a b h (eqb (page a) 0x04) (leb 0x800 (a % 0x10000) && ltb (a % 0x10000) 0x804) (ltb a 0x0400_0400)
    (λ t. omega (arith, eqb-true (page a) 0x04 t))
    ∙ ap (λ (x : Option ℕ). moved (io_target p x) (b % 4)) (sym (io_tests a a refl))

near_in : (l : Lengths) (a b : ℕ) → b / 4 ≡ a / 4 → (r : Region) → target_in l b r ≡ moved (target_in l a r) (b % 4)
near_in l a b h Bios = refl
near_in l a b h UnusedLow = refl
near_in l a b h Ewram = ap (Plain (ewram_part l)) (omega arith)
near_in l a b h Iwram = ap (Plain (iwram_part l)) (omega arith)
near_in l a b h Io = io_near (io_part l) a b h
near_in l a b h Palette = ap (Video PaletteRam (palette_part l)) (omega arith)
near_in l a b h Vram = ap (Video VideoRam (vram_part l)) (vram_near a b h)
near_in l a b h Oam = ap (Video ObjectRam (oam_part l)) (omega arith)
near_in l a b h GamePakRomWs0 = refl
near_in l a b h GamePakRomWs1 = refl
near_in l a b h GamePakRomWs2 = refl
near_in l a b h GamePakSram = ap (Sram (sram_part l)) (omega arith)
near_in l a b h UnusedHigh = refl

pub near : (l : Lengths) (a b : ℕ) → b / 4 ≡ a / 4 → target l b ≡ moved (target l a) (b % 4)
unfolding target
near l a b h = ap (target_in l b) (same_region_law a b h) ∙ near_in l a b h (decode a)
