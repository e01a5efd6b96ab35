-- What idle cycles bring in: the buffer grows by the halfwords that arrive, one after the other from next address on; each
-- goes to the next of the eight places, and the other places keep theirs.
use Rattle.std.specs.Prelude.{◌≡◌, false, not, ◌&&◌, List, get_or, set}
use Rattle.std.proofs.Math.Path.{refl}
use Rattle.std.proofs.Common.{ap, ◌∙◌, arith, get_or-set_other}
use Rattle.std.proofs.Math.Bool.{true}
use Prim.Native.Nat.{ℕ, zero, suc, ◌+◌, ◌-◌, ◌%◌}
use Rattle.std.proofs.Math.Dec.{ltb, leb}
use Rattle.std.specs.Prelude.{if◌then◌else◌}
use Rattle.std.specs.Prelude.{Option, Some, None}
use Rattle.model.specs.Base.{further}
use Rattle.model.specs.Waitcnt.{Waits}
use Rattle.model.specs.Wait.{window, in_window}
use Rattle.model.specs.Prefetch.{capacity, beat_in, start_beat, arrived, ended, advance}
use Rattle.model.specs.Prefetch.{ready, tick1, ticks, arrives, slot, filled}
use Rattle.model.proofs.Laws.Choice.{choose, either, by_test, never, and-true, parts}
use Rattle.model.specs.declared.RomWindow.{RomWindow}
use Rattle.model.specs.declared.PrefetchBuffer.{PrefetchBuffer}
use Rattle.model.specs.Laws.Commits.{along, commits, Grown, NotAmong}

same_size : (p : PrefetchBuffer) → Grown p p 0
same_size p = record { head = refl; count = omega arith; next = refl }

module _ (t : Waits) where
  -- ---- one idle cycle

  beat_in_same : (p : PrefetchBuffer) (v : Option RomWindow) → Grown p (beat_in t p v) 0
  beat_in_same p (Some win) = record { head = refl; count = omega arith; next = refl }
  beat_in_same p None = record { head = refl; count = omega arith; next = refl }

  start_beat_same : (p : PrefetchBuffer) → Grown p (start_beat t p) 0
  unfolding start_beat
  start_beat_same p = beat_in_same p (window p.next_addr)

  pub ready_same : (p : PrefetchBuffer) → Grown p (ready t p) 0
  unfolding ready
  ready_same p =
      either (λ (q : PrefetchBuffer). Grown p q 0)
      (not p.filling && ltb p.count capacity && in_window p.next_addr) (start_beat_same p) (same_size p)

  arrived_one : (p : PrefetchBuffer) → Grown p (arrived p) 1
  unfolding arrived
  arrived_one p = record { head = refl; count = refl; next = refl }

  -- what starts after it brings in nothing yet
  then_same : {p q r : PrefetchBuffer} {k : ℕ} → Grown p q k → Grown q r 0 → Grown p r k
  then_same g s = record { head = s.head ∙ g.head; count = omega (arith, g.count, s.count); next = s.next ∙ g.next }

  after_same : {p q r : PrefetchBuffer} {k : ℕ} → Grown p q 0 → Grown q r k → Grown p r k
  after_same {p} {q} {r} {k} s g =
      record { head = g.head ∙ s.head; count = omega (arith, g.count, s.count); next = g.next ∙ ap (along k) s.next }

  ended_one : (p : PrefetchBuffer) → Grown p (ended t p) 1
  unfolding ended
  ended_one p =
      either (λ (q : PrefetchBuffer). Grown p q 1) (ltb (p.count + 1) capacity)
      (then_same (arrived_one p) (start_beat_same (arrived p))) (arrived_one p)

  -- a cycle in which a halfword arrives, and one in which none does
  pub tick1_one : (p : PrefetchBuffer) → arrives t p ≡ true → Grown p (tick1 t p) 1
  unfolding arrives tick1 advance
  tick1_one p e =
      let on : p.enabled && (ready t p).filling ≡ true =
      and-true p.enabled (ready t p).filling (search parts) (search parts) in
      let last : leb (ready t p).wait_left 1 ≡ true = search parts in
      choose (λ (q : PrefetchBuffer). Grown p q 1) (p.enabled && (ready t p).filling)
      (λ h.
      choose (λ (q : PrefetchBuffer). Grown p q 1) (leb (ready t p).wait_left 1)
      (λ l. after_same (ready_same p) (ended_one (ready t p)))
      (λ l. never last l))
      (λ h. never on h)

  pub tick1_none : (p : PrefetchBuffer) → arrives t p ≡ false → Grown p (tick1 t p) 0
  unfolding arrives tick1 advance
  tick1_none p e =
      choose (λ (q : PrefetchBuffer). Grown p q 0) (p.enabled && (ready t p).filling)
      (λ h.
      choose (λ (q : PrefetchBuffer). Grown p q 0) (leb (ready t p).wait_left 1)
      (λ l. never (and-true (p.enabled && (ready t p).filling) _ h l) e)
      (λ l. let s = ready_same p in record { head = s.head; count = s.count; next = s.next }))
      (λ h. same_size p)

  -- ---- n idle cycles

  -- how many halfwords arrive in them
  abbrev pub arriving : ℕ → PrefetchBuffer → ℕ
  arriving zero p = 0
  arriving (suc n) p = if arrives t p then suc (arriving n (tick1 t p)) else arriving n (tick1 t p)

  more : {p q r : PrefetchBuffer} {k : ℕ} → Grown p q 1 → Grown q r k → Grown p r (suc k)
  more {p} {q} {r} {k} g s =
      record { head = s.head ∙ g.head; count = omega (arith, g.count, s.count); next = s.next ∙ ap (along k) g.next }

  -- the buffer grows by these, so they are count' - count
  pub ticks_grown : (n : ℕ) (p : PrefetchBuffer) → Grown p (ticks t n p) (arriving n p)
  unfolding ticks
  ticks_grown zero p = same_size p
  ticks_grown (suc n) p =
      choose (λ (k : ℕ). Grown p (ticks t n (tick1 t p)) k) (arrives t p)
      (λ e. more (tick1_one p e) (ticks_grown n (tick1 t p)))
      (λ e. after_same (tick1_none p e) (ticks_grown n (tick1 t p)))

  pub arriving_count : (n : ℕ) (p : PrefetchBuffer) → (ticks t n p).count - p.count ≡ arriving n p
  arriving_count n p = omega (arith, (ticks_grown n p).count)

  -- and they are the loads from next address on
  pub filled_commits : (read : ℕ → ℕ) (n : ℕ) (p : PrefetchBuffer) (h : List ℕ)
      → filled read t n p h ≡ commits read (p.head + p.count) p.next_addr (arriving n p) h
  unfolding filled
  filled_commits read zero p h = refl
  filled_commits read (suc n) p h =
      by_test (arrives t p)
      (λ e.
      let g = tick1_one p e in
      let r = filled_commits read n (tick1 t p) (set h (slot p) (read p.next_addr)) in
      let place : (tick1 t p).head + (tick1 t p).count ≡ p.head + p.count + 1 = omega (arith, g.head, g.count) in
      rw e (r ∙ rw (place, g.next) refl))
      (λ e.
      let g = tick1_none p e in
      let r = filled_commits read n (tick1 t p) h in
      let place : (tick1 t p).head + (tick1 t p).count ≡ p.head + p.count = omega (arith, g.head, g.count) in
      rw e (r ∙ rw (place, g.next) refl))

-- ---- the other places

pub others_kept : (read : ℕ → ℕ) (place a k : ℕ) (h : List ℕ) (i : ℕ)
    → NotAmong i place k → get_or (commits read place a k h) i 0 ≡ get_or h i 0
others_kept read place a zero h i s = refl
others_kept read place a (suc k) h i s =
    others_kept read (place + 1) (further 2 a) k (set h (place % capacity) (read a)) i s.1
    ∙ get_or-set_other h (place % capacity) i (read a) 0 s.0
