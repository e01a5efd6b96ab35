-- Places and sizes: every place that an address has in a memory lies within its physical size, a memory that it meets lies in
-- the store, and a store whose lengths fit has at most the bytes of the seven memories.
use Rattle.std.specs.Prelude.{◌≡◌, not, ◌&&◌, true, ℕ, ◌%◌, ◌≤◌, ◌<◌, eqb, ltb, leb}
use Rattle.std.proofs.Common.{arith, eqb-true, ltb-true, leb-true}
use Rattle.std.specs.Prelude.{Option, Some, None}
use Rattle.model.specs.Region.{page, decode, bios_size, ewram_size, iwram_size, io_size}
use Rattle.model.specs.Region.{palette_size, vram_size, oam_size, sram_size}
use Rattle.model.specs.Mirror.{vram_offset}
use Rattle.model.specs.Mirror.{io_offset, bios_offset}
use Rattle.model.specs.Memory.{io_part, lengths_sum, io_target, target_in, target}
use Rattle.model.specs.Outcome.{sizes_fit}
use Rattle.model.proofs.Laws.Choice.{choose, parts}
use Rattle.model.specs.declared.Region.{Region}
use Rattle.model.specs.declared.Region.TheVariants.{Bios, UnusedLow, Ewram, Iwram, Io, Palette, Vram, Oam}
use Rattle.model.specs.declared.Region.TheVariants.{GamePakRomWs0, GamePakRomWs1, GamePakRomWs2, GamePakSram, UnusedHigh}
use Rattle.model.specs.declared.Lengths.{Lengths}
use Rattle.model.specs.Laws.Places.{Below, Within, Lies, sizes_small, Sized}

pub vram_within : (a : ℕ) → vram_offset a < vram_size
unfolding vram_offset
vram_within a =
    choose (λ (i : ℕ). i < vram_size) (ltb (a % 0x20000) 0x10000)
    (λ e. omega (arith, ltb-true (a % 0x20000) 0x10000 e))
    (λ e. omega arith)

pub io_within : (a : ℕ) → Below io_size (io_offset a)
unfolding io_offset
io_within a =
    choose (Below io_size) (not (eqb (page a) 0x04)) (λ e. tt)
    λ e. choose (Below io_size) (leb 0x800 (a % 0x10000) && ltb (a % 0x10000) 0x804)
    (λ h. let u : ltb (a % 0x10000) 0x804 ≡ true = search parts in ltb-true (a % 0x10000) 0x804 u)
    λ h. choose (Below io_size) (ltb a 0x0400_0400) (λ u. omega (arith, ltb-true a 0x0400_0400 u)) λ u. tt

pub bios_within : (a : ℕ) → Below bios_size (bios_offset a)
unfolding bios_offset
bios_within a = choose (Below bios_size) (ltb a bios_size) (λ e. ltb-true a bios_size e) λ e. tt

pub within : (a : ℕ) → Within a
within a =
    record {
      bios = bios_within a;
      ewram = omega arith;
      iwram = omega arith;
      io = io_within a;
      palette = omega arith;
      vram = vram_within a;
      oam = omega arith;
      rom = omega arith;
      sram = omega arith;
    }

-- ---- the place that an address meets

io_lies : (l : Lengths) (x : Option ℕ) → Below io_size x → Lies (lengths_sum l) (io_target (io_part l) x)
io_lies l (Some i) h = record { end = omega arith; small = omega arith }
io_lies l None h = tt

lies_in : (l : Lengths) (a : ℕ) (r : Region) → Lies (lengths_sum l) (target_in l a r)
lies_in l a Bios = tt
lies_in l a UnusedLow = tt
lies_in l a Ewram = record { end = omega arith; small = omega arith }
lies_in l a Iwram = record { end = omega arith; small = omega arith }
lies_in l a Io = io_lies l (io_offset a) (io_within a)
lies_in l a Palette = record { end = omega arith; small = omega arith }
lies_in l a Vram = record { end = omega arith; small = omega (arith, vram_within a) }
lies_in l a Oam = record { end = omega arith; small = omega arith }
lies_in l a GamePakRomWs0 = tt
lies_in l a GamePakRomWs1 = tt
lies_in l a GamePakRomWs2 = tt
lies_in l a GamePakSram = record { end = omega arith; small = omega arith }
lies_in l a UnusedHigh = tt

pub target_lies : (l : Lengths) (a : ℕ) → Lies (lengths_sum l) (target l a)
unfolding target
target_lies l a = lies_in l a (decode a)

-- ---- lengths

pub small_sized : (l : Lengths) (bios rom : ℕ) → sizes_small l bios rom ≡ true → Sized l
small_sized l bios rom e =
    record {
      ewram = leb-true l.ewram ewram_size (search parts depth 9);
      iwram = leb-true l.iwram iwram_size (search parts depth 9);
      io = leb-true l.io io_size (search parts depth 9);
      palette = leb-true l.palette palette_size (search parts depth 9);
      vram = leb-true l.vram vram_size (search parts depth 9);
      oam = leb-true l.oam oam_size (search parts depth 9);
      sram = leb-true l.sram sram_size (search parts depth 9);
    }

-- a store that fits has at most the seven physical sizes
pub store_most : (l : Lengths) (store bios rom : ℕ) → sizes_fit l store bios rom ≡ true → store ≤ 462_852
unfolding sizes_fit
store_most l store bios rom e =
    let small : sizes_small l bios rom ≡ true = search parts in
    let sum : lengths_sum l ≡ store = eqb-true (lengths_sum l) store (search parts) in
    let s = small_sized l bios rom small in
    omega (arith, s.ewram, s.iwram, s.io, s.palette, s.vram, s.oam, s.sram)
