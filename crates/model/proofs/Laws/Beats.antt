-- Idle cycles a beat at a time: what n of them do at the start of a beat, within it, to its end and at rest, for the buffer
-- and its halfwords. With these a loop that takes a beat a turn is the idle cycles one by one.
use Rattle.std.specs.Prelude.{◌≡◌, Bool, ◌&&◌, List, set}
use Rattle.std.proofs.Math.Path.{refl, ap, ap₂}
use Rattle.std.proofs.Common.{sym, ◌∙◌, arith}
use Rattle.std.proofs.Math.Bool.{true, false, not}
use Prim.Native.Nat.{ℕ, zero, suc, ◌+◌, ◌-◌, ◌≤◌, ◌<◌}
use Rattle.std.proofs.Math.Nat.{sub-zero}
use Rattle.std.proofs.Math.Dec.{ltb, leb}
use borrow.Author.Tests.{le-leb, lt-leb}
use Rattle.std.specs.Prelude.{if◌then◌else◌}
use Rattle.std.specs.Prelude.{Option, Some, None}
use Rattle.model.specs.Base.{further}
use Rattle.model.specs.Waitcnt.{Waits}
use Rattle.model.specs.Wait.{window, is_in, in_window}
use Rattle.model.specs.Prefetch.{capacity, beat_in, start_beat, arrived, ended, with_wait}
use Rattle.model.specs.Prefetch.{advance, ready, tick1, ticks, arrives, slot, filled}
use Rattle.model.proofs.Laws.Choice.{choose, either, by_test, if_true, if_false, never, and-true, and_true_right, parts}
use Rattle.model.proofs.Laws.Switch.{ready_switch}
use Rattle.model.proofs.Laws.Rules.{ticks_rest, tick1_off}
use Rattle.model.specs.declared.RomWindow.{RomWindow}
use Rattle.model.specs.declared.PrefetchBuffer.{PrefetchBuffer}

module _ (t : Waits) where
  -- ---- a buffer with no beat to start: one is in flight, the buffer is full, or the next address has no window

  abbrev pub Awake : PrefetchBuffer → Type 0
  Awake p = ready t p ≡ p

  busy_awake : (p : PrefetchBuffer) → p.filling ≡ true → Awake p
  unfolding ready
  busy_awake p f = if_false _ _ _ (ap (λ (s : Bool). not s && ltb p.count capacity && in_window p.next_addr) f)

  beat_in_awake : (p : PrefetchBuffer) (v : Option RomWindow) → window p.next_addr ≡ v → Awake (beat_in t p v)
  unfolding ready
  beat_in_awake p (Some win) e = refl
  beat_in_awake p None e =
      choose (λ (q : PrefetchBuffer). q ≡ beat_in t p None) (ltb p.count capacity && in_window p.next_addr)
      (λ h. never (and_true_right (ltb p.count capacity) (in_window p.next_addr) h) (ap is_in e))
      (λ h. refl)

  start_beat_awake : (p : PrefetchBuffer) → Awake (start_beat t p)
  unfolding start_beat
  start_beat_awake p = beat_in_awake p (window p.next_addr) refl

  arrived_awake : (p : PrefetchBuffer) → ltb (p.count + 1) capacity ≡ false → Awake (arrived p)
  unfolding ready arrived
  arrived_awake p e = if_false _ _ _ (ap (λ (s : Bool). s && in_window (further 2 p.next_addr)) e)

  ended_awake : (p : PrefetchBuffer) → Awake (ended t p)
  unfolding ended
  ended_awake p = choose Awake (ltb (p.count + 1) capacity) (λ e. start_beat_awake (arrived p)) (arrived_awake p)

  advance_awake : (p : PrefetchBuffer) → p.filling ≡ true → Awake (advance t p)
  unfolding advance
  advance_awake p f =
      choose Awake (leb p.wait_left 1) (λ e. ended_awake p) (λ e. busy_awake (with_wait (p.wait_left - 1) p) f)

  -- what `ready` gives has none to start, and neither has what follows it
  pub ready_awake : (p : PrefetchBuffer) → Awake (ready t p)
  unfolding ready
  ready_awake p =
      choose Awake (not p.filling && ltb p.count capacity && in_window p.next_addr)
      (λ e. start_beat_awake p) (λ e. if_false _ _ _ e)

  tick1_awake : (p : PrefetchBuffer) → Awake p → Awake (tick1 t p)
  unfolding tick1
  tick1_awake p a =
      choose Awake (p.enabled && (ready t p).filling)
      (λ e. advance_awake (ready t p) (and_true_right p.enabled (ready t p).filling e)) (λ e. a)

  pub ticks_awake : (n : ℕ) (p : PrefetchBuffer) → Awake p → Awake (ticks t n p)
  unfolding ticks
  ticks_awake zero p a = a
  ticks_awake (suc n) p a = ticks_awake n (tick1 t p) (tick1_awake p a)

  -- ---- the start: the first cycle starts a beat where one can start

  beat_in_fills : (p : PrefetchBuffer) (v : Option RomWindow) → is_in v ≡ true → (beat_in t p v).filling ≡ true
  beat_in_fills p (Some win) i = refl
  beat_in_fills p None i = i

  start_beat_fills : (p : PrefetchBuffer) → in_window p.next_addr ≡ true → (start_beat t p).filling ≡ true
  unfolding start_beat
  start_beat_fills p i = beat_in_fills p (window p.next_addr) i

  -- where none is in flight after `ready`, none was started
  ready_none : (p : PrefetchBuffer) → (ready t p).filling ≡ false → ready t p ≡ p
  unfolding ready
  ready_none p =
      choose (λ (q : PrefetchBuffer). q.filling ≡ false → q ≡ p)
      (not p.filling && ltb p.count capacity && in_window p.next_addr)
      (λ e h. let i : in_window p.next_addr ≡ true = search parts in never (start_beat_fills p i) h)
      (λ e h. refl)

  -- one cycle with a beat in flight
  tick1_on : (p : PrefetchBuffer) → p.enabled ≡ true → (ready t p).filling ≡ true → tick1 t p ≡ advance t (ready t p)
  unfolding tick1
  tick1_on p on f = if_true _ _ _ (and-true _ _ on f)

  tick1_busy : (p : PrefetchBuffer) → p.enabled ≡ true → p.filling ≡ true → tick1 t p ≡ advance t p
  tick1_busy p on f =
      tick1_on p on (ap (λ (q : PrefetchBuffer). q.filling) (busy_awake p f) ∙ f) ∙ ap (advance t) (busy_awake p f)

  tick1_start : (p : PrefetchBuffer) → p.enabled ≡ true → tick1 t p ≡ tick1 t (ready t p)
  tick1_start p on =
      by_test (ready t p).filling
      (λ f. tick1_on p on f ∙ sym (tick1_busy (ready t p) (ready_switch t p ∙ on) f))
      (λ f. ap (tick1 t) (sym (ready_none p f)))

  pub ticks_start : (n : ℕ) (p : PrefetchBuffer) → p.enabled ≡ true → 1 ≤ n → ticks t n p ≡ ticks t n (ready t p)
  unfolding ticks
  ticks_start zero p on h = absurd (omega arith)
  ticks_start (suc n) p on h = ap (ticks t n) (tick1_start p on)

  arrives_start : (p : PrefetchBuffer) → arrives t (ready t p) ≡ arrives t p
  unfolding arrives
  arrives_start p = rw (ready_awake p, ready_switch t p)

  -- a beat that starts fetches the same halfword into the same place
  record Place (p q : PrefetchBuffer) : Type 0 where
    slots : slot q ≡ slot p
    next : q.next_addr ≡ p.next_addr

  beat_in_place : (p : PrefetchBuffer) (v : Option RomWindow) → Place p (beat_in t p v)
  beat_in_place p (Some win) = record { slots = refl; next = refl }
  beat_in_place p None = record { slots = refl; next = refl }

  ready_place : (p : PrefetchBuffer) → Place p (ready t p)
  unfolding ready start_beat
  ready_place p =
      either (Place p) (not p.filling && ltb p.count capacity && in_window p.next_addr)
      (beat_in_place p (window p.next_addr))
      record { slots = refl; next = refl }

  -- the halfwords after one cycle
  abbrev landed : (ℕ → ℕ) → PrefetchBuffer → List ℕ → List ℕ
  landed read p h = if arrives t p then set h (slot p) (read p.next_addr) else h

  landed_start : (read : ℕ → ℕ) (p : PrefetchBuffer) (h : List ℕ) → landed read (ready t p) h ≡ landed read p h
  landed_start read p h = let w = ready_place p in rw (arrives_start p, w.slots, w.next)

  pub filled_start : (read : ℕ → ℕ) (n : ℕ) (p : PrefetchBuffer) (h : List ℕ) → p.enabled ≡ true → 1 ≤ n
      → filled read t n p h ≡ filled read t n (ready t p) h
  unfolding filled
  filled_start read zero p h on k = absurd (omega arith)
  filled_start read (suc n) p h on k = ap₂ (filled read t n) (tick1_start p on) (sym (landed_start read p h))

  -- ---- within a beat

  tick1_wait : (p : PrefetchBuffer) → p.enabled ≡ true → p.filling ≡ true
      → 1 < p.wait_left → tick1 t p ≡ with_wait (p.wait_left - 1) p
  unfolding advance
  tick1_wait p on f h = tick1_busy p on f ∙ if_false _ _ _ (lt-leb p.wait_left 1 h)

  tick1_end : (p : PrefetchBuffer) → p.enabled ≡ true → p.filling ≡ true → p.wait_left ≤ 1 → tick1 t p ≡ ended t p
  unfolding advance
  tick1_end p on f h = tick1_busy p on f ∙ if_true _ _ _ (le-leb p.wait_left 1 h)

  pub ticks_within : (n : ℕ) (p : PrefetchBuffer) → p.enabled ≡ true → p.filling ≡ true → n < p.wait_left
      → ticks t n p ≡ with_wait (p.wait_left - n) p
  unfolding ticks
  ticks_within zero p on f h = ap (λ (m : ℕ). with_wait m p) (sym (sub-zero p.wait_left))
  ticks_within (suc n) p on f h =
      ap (ticks t n) (tick1_wait p on f (omega arith))
      ∙ ticks_within n (with_wait (p.wait_left - 1) p) on f (omega arith)
      ∙ ap (λ (m : ℕ). with_wait m p) (omega arith)

  arrives_busy : (p : PrefetchBuffer) → p.enabled ≡ true → p.filling ≡ true → arrives t p ≡ leb p.wait_left 1
  unfolding arrives
  arrives_busy p on f = rw (busy_awake p f, on, f)

  landed_wait : (read : ℕ → ℕ) (p : PrefetchBuffer) (h : List ℕ) → p.enabled ≡ true
      → p.filling ≡ true → 1 < p.wait_left → landed read p h ≡ h
  landed_wait read p h on f k = if_false _ _ _ (arrives_busy p on f ∙ lt-leb p.wait_left 1 k)

  pub filled_within : (read : ℕ → ℕ) (n : ℕ) (p : PrefetchBuffer) (h : List ℕ)
      → p.enabled ≡ true → p.filling ≡ true → n < p.wait_left
      → filled read t n p h ≡ h
  unfolding filled
  filled_within read zero p h on f k = refl
  filled_within read (suc n) p h on f k =
      ap₂ (filled read t n) (tick1_wait p on f (omega arith)) (landed_wait read p h on f (omega arith))
      ∙ filled_within read n (with_wait (p.wait_left - 1) p) h on f (omega arith)

  -- ---- to the end of a beat

  pub ticks_beat : (n : ℕ) (p : PrefetchBuffer) → p.enabled ≡ true
      → p.filling ≡ true → 1 ≤ n → p.wait_left ≡ n → ticks t n p ≡ ended t p
  unfolding ticks ended arrived
  ticks_beat zero p on f h e = absurd (omega arith)
  ticks_beat (suc zero) p on f h e = tick1_end p on f (omega arith)
  ticks_beat (suc (suc n)) p on f h e =
      ap (ticks t (suc n)) (tick1_wait p on f (omega arith))
      ∙ ticks_beat (suc n) (with_wait (p.wait_left - 1) p) on f (omega arith) (omega arith)

  pub filled_beat : (read : ℕ → ℕ) (n : ℕ) (p : PrefetchBuffer) (h : List ℕ)
      → p.enabled ≡ true → p.filling ≡ true → 1 ≤ n → p.wait_left ≡ n
      → filled read t n p h ≡ set h (slot p) (read p.next_addr)
  unfolding filled
  filled_beat read zero p h on f k e = absurd (omega arith)
  filled_beat read (suc zero) p h on f k e = if_true _ _ _ (arrives_busy p on f ∙ le-leb p.wait_left 1 (omega arith))
  filled_beat read (suc (suc n)) p h on f k e =
      ap₂ (filled read t (suc n)) (tick1_wait p on f (omega arith)) (landed_wait read p h on f (omega arith))
      ∙ filled_beat read (suc n) (with_wait (p.wait_left - 1) p) h on f (omega arith) (omega arith)

  -- ---- at rest: no beat in flight and none to start

  still_ready : (p : PrefetchBuffer) → Awake p → p.filling ≡ false → (ready t p).filling ≡ false
  still_ready p a f = ap (λ (q : PrefetchBuffer). q.filling) a ∙ f

  tick1_still : (p : PrefetchBuffer) → Awake p → p.filling ≡ false → tick1 t p ≡ p
  unfolding tick1
  tick1_still p a f =
      choose (λ (q : PrefetchBuffer). q ≡ p) (p.enabled && (ready t p).filling)
      (λ e. never (and_true_right p.enabled (ready t p).filling e) (still_ready p a f))
      (λ e. refl)

  pub ticks_still : (n : ℕ) (p : PrefetchBuffer) → Awake p → p.filling ≡ false → ticks t n p ≡ p
  ticks_still n p a f = ticks_rest t n p (tick1_still p a f)

  -- ---- and the halfwords, where nothing arrives

  filled_rest : (read : ℕ → ℕ) (n : ℕ) (p : PrefetchBuffer) (h : List ℕ)
      → tick1 t p ≡ p → arrives t p ≡ false → filled read t n p h ≡ h
  unfolding filled
  filled_rest read zero p h e a = refl
  filled_rest read (suc n) p h e a = ap₂ (filled read t n) e (if_false _ _ _ a) ∙ filled_rest read n p h e a

  pub filled_off : (read : ℕ → ℕ) (n : ℕ) (p : PrefetchBuffer) (h : List ℕ) → p.enabled ≡ false → filled read t n p h ≡ h
  unfolding arrives
  filled_off read n p h off =
      filled_rest read n p h (tick1_off t p off)
      (ap (λ (s : Bool). s && (ready t p).filling && leb (ready t p).wait_left 1) off)

  pub filled_still : (read : ℕ → ℕ) (n : ℕ) (p : PrefetchBuffer) (h : List ℕ)
      → Awake p → p.filling ≡ false → filled read t n p h ≡ h
  unfolding arrives
  filled_still read n p h a f =
      by_test p.enabled
      (λ on. filled_rest read n p h (tick1_still p a f)
      (ap₂ (λ (s u : Bool). s && u && leb (ready t p).wait_left 1) on (still_ready p a f)))
      (filled_off read n p h)
