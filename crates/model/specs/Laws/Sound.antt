-- Words of the laws in proofs/Laws/Sound.antt, as definitions. Those laws:
-- A sound prefetch buffer and a sound clock, as propositions, and that every operation and every step keeps them sound.
use Rattle.std.specs.Prelude.{◌≡◌, false}
use Rattle.std.proofs.Math.Bool.{true}
use Prim.Native.Nat.{ℕ, ◌+◌, ◌*◌, ◌/◌, ◌%◌, ◌^◌, ◌≤◌, ◌<◌}
use Rattle.model.specs.Waitcnt.{prefetch_enable}
use Rattle.model.specs.Prefetch.{new_buffer}
use Rattle.model.specs.Price.{previous as previousOf}
use Rattle.model.specs.Laws.Window.{InRom}
use Rattle.model.specs.Laws.Previous.{SoundPrevious}
use Rattle.model.specs.declared.PrefetchBuffer.{PrefetchBuffer}
use Rattle.model.specs.declared.Clock.{Clock}

-- a beat is in flight
pub record Busy (p : PrefetchBuffer) : Type 0 where
  pub waits : 1 ≤ p.wait_left
  pub room : p.count ≤ 7
  pub into : InRom p.next_addr

-- halfwords stand in the buffer, from one address up to another
pub record Stands (from count next : ℕ) : Type 0 where
  pub first : 0x0800_0000 ≤ from
  pub end : next ≤ 0x0E00_0000
  pub row : from + 2 * count ≡ next

pub record Sound (p : PrefetchBuffer) : Type 0 where
  pub head≤7 : p.head ≤ 7
  pub count≤8 : p.count ≤ 8
  pub wait≤9 : p.wait_left ≤ 9
  pub next<2³² : p.next_addr < 2 ^ 32
  pub even : p.next_addr % 2 ≡ 0
  pub busy : p.filling ≡ true → Busy p
  pub still : p.filling ≡ false → p.wait_left ≡ 0
  pub empty : p.count ≡ 0 → p.head_addr ≡ 0
  pub stands : 1 ≤ p.count → Stands p.head_addr p.count p.next_addr
  pub off : p.enabled ≡ false → p ≡ new_buffer

pub record SoundClock (c : Clock) : Type 0 where
  pub previous : SoundPrevious (previousOf c)
  pub size : c.waitcnt < 0x1_0000
  pub bit13 : c.waitcnt / 0x2000 % 2 ≡ 0
  pub switch : c.prefetch.enabled ≡ prefetch_enable c.waitcnt
  pub buffer : Sound c.prefetch
