-- The test of a sound prefetch buffer holds exactly of the sound ones.
use Rattle.std.specs.Prelude.{◌≡◌, refl, Bool, true, false, not, ◌&&◌, ◌||◌, ◌+◌, ◌-◌, ◌*◌, ◌%◌, ◌^◌, ◌≤◌, ◌<◌, eqb, leb}
use Rattle.std.proofs.Common.{sym, ap, ◌∙◌, arith, eqb-true, leb-true, leb-false, eq-eqb, ne_eqb, le-leb}
use Rattle.std.proofs.lemmas.Bool.{false≢true, lt-leb, not-true}
use Rattle.model.specs.Base.{same}
use Rattle.model.specs.Wait.{in_window}
use Rattle.model.specs.Prefetch.{new_buffer}
use Rattle.model.specs.BoardBytes.{sound_prefetch, sound_beat, sound_row, is_zero}
use Rattle.model.proofs.Laws.Choice.{choose, by_test, if_true, if_false, tests, parts}
use Rattle.model.proofs.Laws.Choice.{and-true, or_true_left, or_true_right, or_right}
use Rattle.model.specs.Laws.Window.{InRom}
use Rattle.model.proofs.Laws.Window.{in_window_true, true_in_window}
use Rattle.model.specs.Laws.Sound.{Sound, Busy, Stands}
use Rattle.model.specs.declared.PrefetchBuffer.{PrefetchBuffer}

same_true : (a b : Bool) → same a b ≡ true → a ≡ b
same_true true true e = refl
same_true true false e = absurd (false≢true e)
same_true false true e = absurd (false≢true e)
same_true false false e = refl

true_same : (a b : Bool) → a ≡ b → same a b ≡ true
true_same true b e = ap (same true) (sym e)
true_same false b e = ap (same false) (sym e)

-- ---- it holds

true_beat : (p : PrefetchBuffer) → Sound p → sound_beat p ≡ true
unfolding sound_beat
true_beat p s =
    by_test p.filling
    (λ f.
    let b : Busy p = s.busy f in
    and-true _ _ (true_same p.filling _ (f ∙ sym (le-leb 1 p.wait_left b.waits)))
    (or_true_right (not p.filling) _
    (and-true _ _ (le-leb p.count 7 b.room) (true_in_window p.next_addr b.into))))
    (λ f.
    let z : p.wait_left ≡ 0 = s.still f in
    and-true _ _ (true_same p.filling _ (f ∙ sym (lt-leb 1 p.wait_left (omega arith))))
    (or_true_left (not p.filling) _ (ap not f)))

true_row : (p : PrefetchBuffer) → Sound p → sound_row p ≡ true
unfolding sound_row
true_row p s =
    choose (λ (b : Bool). b ≡ true) (eqb p.count 0)
    (λ e. eq-eqb p.head_addr 0 (s.empty (eqb-true p.count 0 e)))
    (λ e.
    let k : 1 ≤ p.count = omega (arith, tests) in
    let d : Stands p.head_addr p.count p.next_addr = s.stands k in
    and-true _ _
    (and-true _ _ (true_in_window p.head_addr (omega arith)) (true_in_window (p.next_addr - 2) (omega arith)))
    (eq-eqb _ _ d.row))

true_zero : (p : PrefetchBuffer) → p ≡ new_buffer → is_zero p ≡ true
unfolding is_zero
true_zero p e = ap is_zero e

pub true_sound : (p : PrefetchBuffer) → Sound p → sound_prefetch p ≡ true
unfolding sound_prefetch
true_sound p s =
    and-true _ _
    (and-true _ _
    (and-true _ _
    (and-true _ _
    (and-true _ _ (and-true _ _ (le-leb p.head 7 s.head≤7) (le-leb p.count 8 s.count≤8))
    (le-leb p.wait_left 9 s.wait≤9))
    (eq-eqb (p.next_addr % 2) 0 s.even))
    (true_beat p s))
    (true_row p s))
    (by_test p.enabled (or_true_left p.enabled (is_zero p))
    (λ e. or_true_right p.enabled (is_zero p) (true_zero p (s.off e))))

-- ---- and what it says

busy_true : (p : PrefetchBuffer) → sound_beat p ≡ true → p.filling ≡ true → Busy p
unfolding sound_beat
busy_true p t f =
    let even : same p.filling (leb 1 p.wait_left) ≡ true = search parts in
    let rest : not p.filling || (leb p.count 7 && in_window p.next_addr) ≡ true = search parts in
    let both : leb p.count 7 && in_window p.next_addr ≡ true = or_right (not p.filling) _ rest (ap not f) in
    let room : leb p.count 7 ≡ true = search parts in
    let into : in_window p.next_addr ≡ true = search parts in
    record {
      waits = leb-true 1 p.wait_left (sym (same_true p.filling _ even) ∙ f);
      room = leb-true p.count 7 room;
      into = in_window_true p.next_addr into;
    }

still_true : (p : PrefetchBuffer) → sound_beat p ≡ true → p.filling ≡ false → p.wait_left ≡ 0
unfolding sound_beat
still_true p t f =
    let even : same p.filling (leb 1 p.wait_left) ≡ true = search parts in
    let none : p.wait_left < 1 = leb-false 1 p.wait_left (sym (same_true p.filling _ even) ∙ f) in
    omega arith

empty_true : (p : PrefetchBuffer) → sound_row p ≡ true → p.count ≡ 0 → p.head_addr ≡ 0
unfolding sound_row
empty_true p t e = eqb-true _ _ (sym (if_true _ _ _ (eq-eqb p.count 0 e)) ∙ t)

stands_true : (p : PrefetchBuffer) → sound_row p ≡ true → p.next_addr % 2 ≡ 0 → 1 ≤ p.count
    → Stands p.head_addr p.count p.next_addr
unfolding sound_row
stands_true p t v l =
    let u : in_window p.head_addr && in_window (p.next_addr - 2)
    && eqb (p.head_addr + 2 * p.count) p.next_addr ≡ true =
    sym (if_false _ _ _ (ne_eqb p.count 0 (λ e. omega arith))) ∙ t in
    let a : in_window p.head_addr ≡ true = search parts in
    let b : in_window (p.next_addr - 2) ≡ true = search parts in
    let c : eqb (p.head_addr + 2 * p.count) p.next_addr ≡ true = search parts in
    let k : InRom p.head_addr = in_window_true p.head_addr a in
    let m : InRom (p.next_addr - 2) = in_window_true (p.next_addr - 2) b in
    omega (arith, tests)

zero_true : (p : PrefetchBuffer) → is_zero p ≡ true → p.enabled ≡ false → p ≡ new_buffer
unfolding is_zero
zero_true p t e x =
    record {
      head = eqb-true p.head 0 (search parts) x;
      count = eqb-true p.count 0 (search parts) x;
      next_addr = eqb-true p.next_addr 0 (search parts) x;
      wait_left = eqb-true p.wait_left 0 (search parts) x;
      head_addr = eqb-true p.head_addr 0 (search parts) x;
      enabled = e x;
      filling = not-true p.filling (search parts) x;
      first_beat = not-true p.first_beat (search parts) x;
    }

pub sound_true : (p : PrefetchBuffer) → p.next_addr < 2 ^ 32 → sound_prefetch p ≡ true → Sound p
unfolding sound_prefetch
sound_true p small t =
    let even : p.next_addr % 2 ≡ 0 = eqb-true (p.next_addr % 2) 0 (search parts) in
    let off : p.enabled || is_zero p ≡ true = search parts in
    record {
      head≤7 = leb-true p.head 7 (search parts);
      count≤8 = leb-true p.count 8 (search parts);
      wait≤9 = leb-true p.wait_left 9 (search parts);
      next<2³² = small;
      even = even;
      busy = busy_true p (search parts);
      still = still_true p (search parts);
      empty = empty_true p (search parts);
      stands = stands_true p (search parts) even;
      off = λ e. zero_true p (or_right p.enabled (is_zero p) off e) e;
    }
