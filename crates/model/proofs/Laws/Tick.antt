-- Idle cycles add up: IDLE 0 is the identity, and IDLE a then IDLE b is IDLE a + b, for the clock, the halfwords and the
-- whole state.
use Rattle.std.specs.Prelude.{◌≡◌, refl, List, ℕ, zero, suc, ◌+◌, set}
use Rattle.std.proofs.Common.{zero-add, suc-add}
use Rattle.std.specs.Prelude.{if◌then◌else◌}
use Rattle.model.specs.Waitcnt.{Waits}
use Rattle.model.specs.Prefetch.{ticks, tick1, filled, arrives, slot}
use Rattle.model.specs.Step.{Media, State, set_waitcnt, code_clock, timed, stepped}
use Rattle.model.specs.declared.PrefetchBuffer.{PrefetchBuffer}
use Rattle.model.specs.declared.Clock.{Clock}
use Rattle.model.specs.declared.Step.{Step}
use Rattle.model.specs.declared.Step.TheVariants.{Read, Write, Waitcnt, Idle, Fetch, Restart, Instruction, Pc, Latch}
use Rattle.model.specs.declared.Step.TheVariants.{BlockRead, BlockWrite}
use Rattle.model.specs.Laws.Tick.{SameWaits}

pub ticks_add : (t : Waits) (a b : ℕ) (p : PrefetchBuffer) → ticks t (a + b) p ≡ ticks t b (ticks t a p)
unfolding ticks
ticks_add t zero b p = rw zero-add
ticks_add t (suc a) b p = rw suc-add (ticks_add t a b (tick1 t p))

pub filled_add : (read : ℕ → ℕ) (t : Waits) (a b : ℕ) (p : PrefetchBuffer) (h : List ℕ)
    → filled read t (a + b) p h ≡ filled read t b (ticks t a p) (filled read t a p h)
unfolding ticks filled
filled_add read t zero b p h = rw zero-add
filled_add read t (suc a) b p h =
    rw suc-add (filled_add read t a b (tick1 t p) (if arrives t p then set h (slot p) (read p.next_addr) else h))

pub idle_zero : (m : Media) (s : State) → stepped m s (Idle 0) ≡ s
unfolding ticks filled
idle_zero m s = refl

pub idle_add : (m : Media) (s : State) (i j : ℕ) → stepped m (stepped m s (Idle i)) (Idle j) ≡ stepped m s (Idle (i + j))
idle_add m s i j = rw (ticks_add, filled_add)

-- ---- a step that ticks leaves WAITCNT alone, so that its idle cycles may take the waits from before it

pub same_waits : (c : Clock) (x : Step) → SameWaits c (timed c x)
unfolding ticks filled set_waitcnt code_clock
same_waits c (Read z a) = record { buffer = refl; halves = λ read h. refl }
same_waits c (Write z a v) = record { buffer = refl; halves = λ read h. refl }
same_waits c (Waitcnt v) = record { buffer = refl; halves = λ read h. refl }
same_waits c (Idle n) = record { buffer = refl; halves = λ read h. refl }
same_waits c (Fetch a) = record { buffer = refl; halves = λ read h. refl }
same_waits c (Restart a) = record { buffer = refl; halves = λ read h. refl }
same_waits c (Instruction v isa a op jump) = record { buffer = refl; halves = λ read h. refl }
same_waits c (Pc a) = record { buffer = refl; halves = λ read h. refl }
same_waits c (Latch v) = record { buffer = refl; halves = λ read h. refl }
same_waits c (BlockRead a n) = record { buffer = refl; halves = λ read h. refl }
same_waits c (BlockWrite a n) = record { buffer = refl; halves = λ read h. refl }
