-- A sound prefetch buffer and a sound clock, as propositions, and that every operation and every step keeps them sound.
use Rattle.std.specs.Prelude.{◌≡◌, Bool, false, ◌&&◌, leb, eqb}
use Rattle.std.proofs.Math.Path.{refl}
use Rattle.std.proofs.Common.{ap, ◌∙◌, true≢false}
use Rattle.std.proofs.Math.Bool.{true, not}
use Rattle.std.proofs.lemmas.Bool.{false≢true, not-true}
use Prim.Native.Nat.{ℕ, zero, suc, ◌+◌, ◌-◌, ◌≤◌}
use native.Mathlib.Omega.{arith}
use Rattle.std.proofs.Math.Dec.{ltb}
use Rattle.std.specs.Prelude.{Option, Some, None}
use Rattle.model.specs.Base.{further, lowered}
use Rattle.model.specs.Waitcnt.{Waits, written, prefetch_enable}
use Rattle.model.specs.Wait.{window, in_window, kind_at, nonseq_if, rom_half_cycles}
use Rattle.model.specs.Prefetch.{capacity, emptied, set_enabled, restart_in, restart, beat_in, start_beat}
use Rattle.model.specs.Prefetch.{arrived, ended, advance, ready, tick1, ticks, occupied, hit, taken, fetched}
use Rattle.model.specs.Price.{previous as previousOf, no_access}
use Rattle.model.specs.declared.Previous.{Previous}
use Rattle.model.specs.Step.{waits_of, with_prefetch, with_previous, set_waitcnt, rom_fetched, fetched_in, code_fetched}
use Rattle.model.specs.BoardBytes.{fresh_board}
use Rattle.model.specs.Step.{code_clock, Timed, timed, idled, clock_after}
use Rattle.model.proofs.Laws.Choice.{choose, either, never, tests, and_true_left, and_true_right, parts}
use Rattle.model.specs.Laws.Window.{InRom}
use Rattle.model.proofs.Laws.Window.{window_in}
use Rattle.model.specs.Laws.Previous.{SoundPrevious}
use Rattle.model.proofs.Laws.Previous.{none_sound, access_sound, block_sound}
use Rattle.model.specs.Laws.Bounds.{SmallWaits}
use Rattle.model.proofs.Laws.Bounds.{rom_waits_small}
use Rattle.model.proofs.Laws.Switch.{ready_switch, ticks_switch, fetched_switch, restart_switch}
use Rattle.model.proofs.Laws.Switch.{set_enabled_switch, code_fetched_switch}
use Rattle.model.specs.declared.PrefetchBuffer.{PrefetchBuffer}
use Rattle.model.specs.declared.RomWindow.{RomWindow}
use Rattle.model.specs.declared.Clock.{Clock}
use Rattle.model.specs.declared.AccessKind.TheVariants.{Nonseq}
use Rattle.model.specs.declared.IsaState.{IsaState}
use Rattle.model.specs.declared.IsaState.TheVariants.{Thumb, Arm}
use Rattle.model.specs.declared.Step.{Step}
use Rattle.model.specs.declared.Step.TheVariants.{Read, Write, Waitcnt, Idle, Fetch, Restart, Instruction, Pc, Latch}
use Rattle.model.specs.declared.Step.TheVariants.{BlockRead, BlockWrite}
use Rattle.model.specs.Laws.Sound.{Busy, Stands, Sound, SoundClock}

-- ---- each operation of the prefetch

pub emptied_sound : (on : Bool) → Sound (emptied on)
emptied_sound on =
    record {
      head≤7 = omega arith;
      count≤8 = omega arith;
      wait≤9 = omega arith;
      next<2³² = omega arith;
      even = refl;
      busy = λ e. absurd (false≢true e);
      still = λ e. refl;
      empty = λ e. refl;
      stands = λ h. absurd (omega arith);
      off = λ e. ap emptied e;
    }

module _ (t : Waits) (small : SmallWaits t) where
  restart_in_sound : (p : PrefetchBuffer) (a : ℕ) (v : Option RomWindow) → p.enabled ≡ true → window a ≡ v
      → Sound (restart_in t p a v)
  unfolding rom_half_cycles
  restart_in_sound p a None on e = emptied_sound p.enabled
  restart_in_sound p a (Some win) on e =
      let k : InRom a = window_in a win e in
      let c : rom_half_cycles t win Nonseq ≤ 9 = small.small win Nonseq in
      record {
        head≤7 = omega arith;
        count≤8 = omega arith;
        wait≤9 = omega arith;
        next<2³² = omega arith;
        even = omega arith;
        busy = λ h. record { waits = omega arith; room = omega arith; into = omega arith };
        still = λ h. absurd (true≢false h);
        empty = λ h. refl;
        stands = λ h. absurd (omega arith);
        off = never on;
      }

  pub restart_sound : (p : PrefetchBuffer) (a : ℕ) → Sound (restart t p a)
  unfolding restart
  restart_sound p a =
      choose Sound p.enabled (λ on. restart_in_sound p a (window a) on refl) (λ e. emptied_sound p.enabled)

  beat_in_sound : (p : PrefetchBuffer) (v : Option RomWindow) → Sound p → p.enabled ≡ true → p.filling ≡ false → p.count ≤ 7
      → window p.next_addr ≡ v → Sound (beat_in t p v)
  unfolding rom_half_cycles
  beat_in_sound p None s on idle room e =
      record {
        head≤7 = s.head≤7;
        count≤8 = s.count≤8;
        wait≤9 = s.wait≤9;
        next<2³² = s.next<2³²;
        even = s.even;
        busy = λ h. absurd (false≢true h);
        still = λ h. s.still idle;
        empty = s.empty;
        stands = s.stands;
        off = never on;
      }
  beat_in_sound p (Some win) s on idle room e =
      record {
        head≤7 = s.head≤7;
        count≤8 = s.count≤8;
        wait≤9 = small.small win (kind_at p.next_addr (nonseq_if p.first_beat));
        next<2³² = s.next<2³²;
        even = s.even;
        busy = λ h. record { waits = omega arith; room = room; into = window_in p.next_addr win e };
        still = λ h. absurd (true≢false h);
        empty = s.empty;
        stands = s.stands;
        off = never on;
      }

  -- a beat starts, where none is in flight and there is room
  pub start_beat_sound : (p : PrefetchBuffer) → Sound p → p.enabled ≡ true
      → p.filling ≡ false → p.count ≤ 7 → Sound (start_beat t p)
  unfolding start_beat
  start_beat_sound p s on idle room = beat_in_sound p (window p.next_addr) s on idle room refl

  arrived_sound : (p : PrefetchBuffer) → Sound p → p.enabled ≡ true → Busy p → Sound (arrived p)
  unfolding arrived
  arrived_sound p s on b =
      record {
        head≤7 = s.head≤7;
        count≤8 = omega arith;
        wait≤9 = omega arith;
        next<2³² = omega arith;
        even = omega (arith, s.even);
        busy = λ h. absurd (false≢true h);
        still = λ h. refl;
        empty = λ h. absurd (omega arith);
        stands = λ h. choose (λ (a : ℕ). Stands a (p.count + 1) (further 2 p.next_addr)) (eqb p.count 0)
            (λ e. omega (arith, tests))
            (λ e.
            let k : 1 ≤ p.count = omega (arith, tests) in
            let d : Stands p.head_addr p.count p.next_addr = s.stands k in
            omega arith);
        off = never on;
      }

  pub ended_sound : (p : PrefetchBuffer) → Sound p → p.enabled ≡ true → Busy p → Sound (ended t p)
  unfolding ended arrived
  ended_sound p s on b =
      choose Sound (ltb (p.count + 1) capacity)
      (λ h. start_beat_sound (arrived p) (arrived_sound p s on b) on refl (omega (arith, tests)))
      (λ h. arrived_sound p s on b)

  advance_sound : (p : PrefetchBuffer) → Sound p → p.enabled ≡ true → p.filling ≡ true → Sound (advance t p)
  unfolding advance
  advance_sound p s on f =
      let b : Busy p = s.busy f in
      choose Sound (leb p.wait_left 1) (λ e. ended_sound p s on b)
      (λ e.
      record {
        head≤7 = s.head≤7;
        count≤8 = s.count≤8;
        wait≤9 = omega (arith, s.wait≤9);
        next<2³² = s.next<2³²;
        even = s.even;
        busy = λ h. record { waits = omega (arith, tests); room = b.room; into = b.into };
        still = never f;
        empty = s.empty;
        stands = s.stands;
        off = never on;
      })

  pub ready_sound : (p : PrefetchBuffer) → Sound p → p.enabled ≡ true → Sound (ready t p)
  unfolding ready
  ready_sound p s on =
      choose Sound (not p.filling && ltb p.count capacity && in_window p.next_addr)
      (λ e.
      let room : ltb p.count capacity ≡ true = search parts in
      let idle : not p.filling ≡ true = search parts in
      start_beat_sound p s on (not-true p.filling idle) (omega (arith, tests)))
      (λ e. s)

  pub tick1_sound : (p : PrefetchBuffer) → Sound p → Sound (tick1 t p)
  unfolding tick1
  tick1_sound p s =
      choose Sound (p.enabled && (ready t p).filling)
      (λ e.
      let on : p.enabled ≡ true = and_true_left p.enabled (ready t p).filling e in
      let busy : (ready t p).filling ≡ true = and_true_right p.enabled (ready t p).filling e in
      advance_sound (ready t p) (ready_sound p s on) (ready_switch t p ∙ on) busy)
      (λ e. s)

  pub ticks_sound : (n : ℕ) (p : PrefetchBuffer) → Sound p → Sound (ticks t n p)
  unfolding ticks
  ticks_sound zero p s = s
  ticks_sound (suc n) p s = ticks_sound n (tick1 t p) (tick1_sound p s)

pub fetched_sound : (p : PrefetchBuffer) (a : ℕ) → Sound p → Sound (fetched p a)
unfolding fetched hit occupied taken
fetched_sound p a s =
    choose Sound (p.enabled && not (eqb p.count 0) && eqb (lowered 2 a) p.head_addr)
    (λ e.
    let on : p.enabled ≡ true = search parts in
    let full : not (eqb p.count 0) ≡ true = search parts in
    let some : eqb p.count 0 ≡ false = not-true (eqb p.count 0) full in
    let k : 1 ≤ p.count = omega (arith, tests) in
    let d : Stands p.head_addr p.count p.next_addr = s.stands k in
    record {
      head≤7 = omega arith;
      count≤8 = omega (arith, s.count≤8);
      wait≤9 = s.wait≤9;
      next<2³² = s.next<2³²;
      even = s.even;
      busy = λ h. let b : Busy p = s.busy h in record { waits = b.waits; room = omega arith; into = b.into };
      still = s.still;
      empty = λ h. choose (λ (x : ℕ). x ≡ 0) (eqb p.count 1) (λ t. refl) (λ t. absurd (omega (arith, tests)));
      stands = λ h. choose (λ (x : ℕ). Stands x (p.count - 1) p.next_addr) (eqb p.count 1)
          (λ t. absurd (omega (arith, tests)))
          (λ t. omega (arith, tests));
      off = never on;
    })
    (λ e. either Sound (occupied p) (emptied_sound p.enabled) s)

pub set_enabled_sound : (on : Bool) (p : PrefetchBuffer) → Sound p → Sound (set_enabled on p)
unfolding set_enabled
set_enabled_sound false p s = either Sound p.enabled (emptied_sound false) s
set_enabled_sound true p s =
    record {
      head≤7 = s.head≤7;
      count≤8 = s.count≤8;
      wait≤9 = s.wait≤9;
      next<2³² = s.next<2³²;
      even = s.even;
      busy = λ h. let b : Busy p = s.busy h in record { waits = b.waits; room = b.room; into = b.into };
      still = s.still;
      empty = s.empty;
      stands = s.stands;
      off = λ e. absurd (true≢false e);
    }

-- ---- the clock

-- a step that changes only the buffer
with_prefetch_sound : (c : Clock) (p : PrefetchBuffer) → SoundClock c
    → p.enabled ≡ c.prefetch.enabled → Sound p → SoundClock (with_prefetch c p)
with_prefetch_sound c p k e s =
    record { previous = k.previous; size = k.size; bit13 = k.bit13; switch = e ∙ k.switch; buffer = s }

-- one that changes only the previous access
with_previous_sound : (c : Clock) (p : Previous) → SoundClock c → SoundPrevious p → SoundClock (with_previous c p)
with_previous_sound c p k s =
    record { previous = s; size = k.size; bit13 = k.bit13; switch = k.switch; buffer = k.buffer }

module _ (t : Waits) (small : SmallWaits t) where
  rom_fetched_sound : (p : PrefetchBuffer) (a : ℕ) (isa : IsaState) → Sound p → Sound (rom_fetched t p a isa)
  rom_fetched_sound p a Thumb s = either Sound (hit p a) (fetched_sound p a s) (restart_sound t small (fetched p a) (further 2 a))
  rom_fetched_sound p a Arm s =
      either Sound (hit p a && hit (fetched p a) (further 2 a))
      (fetched_sound (fetched p a) (further 2 a) (fetched_sound p a s))
      (restart_sound t small (fetched (fetched p a) (further 2 a)) (further 4 a))

  fetched_in_sound : (p : PrefetchBuffer) (a : ℕ) (isa : IsaState) (v : Option RomWindow) → Sound p
      → Sound (fetched_in t p a isa v)
  fetched_in_sound p a isa (Some win) s = rom_fetched_sound p a isa s
  fetched_in_sound p a isa None s = s

pub code_fetched_sound : (c : Clock) (isa : IsaState) (a : ℕ) → SoundClock c → Sound (code_fetched c isa a)
unfolding code_fetched
code_fetched_sound c isa a k = fetched_in_sound (waits_of c) (rom_waits_small c.waitcnt) c.prefetch a isa (window a) k.buffer

set_waitcnt_sound : (c : Clock) (v : ℕ) → SoundClock c → SoundClock (set_waitcnt c v)
unfolding set_waitcnt written
set_waitcnt_sound c v k =
    record {
      previous = k.previous;
      size = omega arith;
      bit13 = omega arith;
      switch = set_enabled_switch (prefetch_enable (written c.waitcnt v)) c.prefetch;
      buffer = set_enabled_sound (prefetch_enable (written c.waitcnt v)) c.prefetch k.buffer;
    }

-- up to its idle cycles every step leaves a sound clock
pub timed_sound : (c : Clock) (x : Step) → SoundClock c → SoundClock (timed c x).clock
unfolding code_clock
timed_sound c (Read z a) k = with_previous_sound c _ k (access_sound z a)
timed_sound c (Write z a v) k = with_previous_sound c _ k (access_sound z a)
timed_sound c (Waitcnt v) k = with_previous_sound (set_waitcnt c v) no_access (set_waitcnt_sound c v k) none_sound
timed_sound c (Idle n) k = k
timed_sound c (Fetch a) k =
    with_previous_sound (with_prefetch c _) no_access
    (with_prefetch_sound c _ k (fetched_switch c.prefetch a) (fetched_sound c.prefetch a k.buffer)) none_sound
timed_sound c (Restart a) k =
    with_previous_sound (with_prefetch c _) no_access
    (with_prefetch_sound c _ k (restart_switch (waits_of c) c.prefetch a)
    (restart_sound (waits_of c) (rom_waits_small c.waitcnt) c.prefetch a)) none_sound
timed_sound c (Instruction v isa a op jump) k =
    record {
      previous = none_sound;
      size = k.size;
      bit13 = k.bit13;
      switch = code_fetched_switch c isa a ∙ k.switch;
      buffer = code_fetched_sound c isa a k;
    }
timed_sound c (Pc a) k = k
timed_sound c (Latch v) k = k
timed_sound c (BlockRead a n) k = with_previous_sound c _ k (block_sound (previousOf c) a n k.previous)
timed_sound c (BlockWrite a n) k = with_previous_sound c _ k (block_sound (previousOf c) a n k.previous)

-- and so do the idle cycles
pub idled_sound : (t : Timed) → SoundClock t.clock → SoundClock (idled t)
idled_sound t k =
    with_prefetch_sound t.clock _ k (ticks_switch (waits_of t.clock) t.idle t.clock.prefetch)
    (ticks_sound (waits_of t.clock) (rom_waits_small t.clock.waitcnt) t.idle t.clock.prefetch k.buffer)

pub clock_after_sound : (c : Clock) (x : Step) → SoundClock c → SoundClock (clock_after c x)
clock_after_sound c x k = idled_sound (timed c x) (timed_sound c x k)

pub fresh_sound : SoundClock fresh_board.clock
unfolding prefetch_enable
fresh_sound = record { previous = none_sound; size = omega arith; bit13 = refl; switch = refl; buffer = emptied_sound false }
