-- The prefetch reads by the bus's halfword load, and only at even addresses inside the ROM windows, where that is a read of
-- the image: what it fills in depends on no other memory.
use Rattle.std.specs.Prelude.{◌≡◌, refl, true, not, ◌&&◌, List, ℕ, zero, suc, ◌+◌, ◌*◌, ◌%◌, set, ltb}
use Rattle.std.proofs.Common.{ap, ap₂, ◌∙◌, arith}
use Rattle.model.specs.Base.{further, byte_at}
use Rattle.model.specs.Region.{page, decode}
use Rattle.model.specs.Mirror.{rom_offset}
use Rattle.model.specs.Waitcnt.{Waits}
use Rattle.model.specs.Wait.{in_window}
use Rattle.model.specs.Prefetch.{capacity, ready, tick1, arrives, slot, filled}
use Rattle.model.specs.Memory.{target_in, target, is_sram}
use Rattle.model.specs.Load.{Bus, byte_from, load8, load16, rom_halfword}
use Rattle.model.proofs.Laws.Choice.{choose, choose₂, if_false, parts, tests}
use Rattle.model.specs.Laws.Window.{InRom}
use Rattle.model.proofs.Laws.Window.{in_window_true}
use Rattle.model.specs.Laws.Bounds.{SmallWaits}
use Rattle.model.specs.Laws.Sound.{Sound}
use Rattle.model.proofs.Laws.Sound.{tick1_sound}
use Rattle.model.specs.declared.PrefetchBuffer.{PrefetchBuffer}
use Rattle.model.specs.declared.Region.{Region}
use Rattle.model.specs.declared.Lengths.{Lengths}
use Rattle.model.specs.declared.Target.TheVariants.{GamePakRom}

pub rom_target : (l : Lengths) (a : ℕ) → InRom a → target l a ≡ GamePakRom
unfolding target decode
rom_target l a k =
    choose P (ltb (page a) 0x08) (λ e. absurd (omega (arith, tests)))
    λ e₁. choose P (ltb (page a) 0x0A) (λ e. refl)
    λ e₂. choose P (ltb (page a) 0x0C) (λ e. refl)
    λ e₃. choose P (ltb (page a) 0x0E) (λ e. refl)
    λ e. absurd (omega (arith, tests))
  where
    P : Region → Type 0
    P r = target_in l a r ≡ GamePakRom

pub rom_byte : (l : Lengths) (b : Bus) (a : ℕ) → InRom a → load8 l b a ≡ byte_at b.rom (rom_offset a)
unfolding load8
rom_byte l b a k = ap (byte_from b a) (rom_target l a k)

pub rom_load : (l : Lengths) (b : Bus) (a : ℕ) → InRom a → a % 2 ≡ 0 → load16 l b a ≡ rom_halfword b.rom a
unfolding load16 rom_halfword
rom_load l b a k e =
    if_false _ _ _ (ap is_sram (rom_target l a k))
    ∙ ap₂ (λ (x y : ℕ). x + 0x100 * y) (rom_byte l b a k) (rom_byte l b (further 1 a) (omega arith))

-- a beat in flight, also one that starts now, fetches inside the windows
beat_in_rom : (t : Waits) (p : PrefetchBuffer) → Sound p → (ready t p).filling ≡ true → InRom p.next_addr
unfolding ready
beat_in_rom t p s =
    choose (λ (q : PrefetchBuffer). q.filling ≡ true → InRom p.next_addr)
    (not p.filling && ltb p.count capacity && in_window p.next_addr)
    (λ e f. let i : in_window p.next_addr ≡ true = search parts in in_window_true p.next_addr i)
    (λ e f. (s.busy f).into)

arrives_rom : (t : Waits) (p : PrefetchBuffer) → Sound p → arrives t p ≡ true → InRom p.next_addr
unfolding arrives
arrives_rom t p s e = let f : (ready t p).filling ≡ true = search parts in beat_in_rom t p s f

pub filled_rom : (l : Lengths) (b : Bus) (t : Waits) → SmallWaits t → (n : ℕ) (p : PrefetchBuffer) (h : List ℕ) → Sound p
    → filled (load16 l b) t n p h ≡ filled (rom_halfword b.rom) t n p h
unfolding filled
filled_rom l b t small zero p h s = refl
filled_rom l b t small (suc n) p h s =
    ap (filled (load16 l b) t n (tick1 t p))
    (choose₂ (λ (x y : List ℕ). x ≡ y) (arrives t p)
    (λ e. ap (set h (slot p)) (rom_load l b p.next_addr (arrives_rom t p s e) s.even))
    (λ e. refl))
    ∙ filled_rom l b t small n (tick1 t p) _ (tick1_sound t small p s)
