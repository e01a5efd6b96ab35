-- Only a write to WAITCNT moves the prefetch switch: every other operation of the buffer keeps it.
use Rattle.std.specs.Prelude.{◌≡◌, Bool, true, false, not, ◌&&◌, leb}
use Rattle.std.proofs.Math.Path.{refl, ap₂}
use Rattle.std.proofs.Common.{◌∙◌}
use Prim.Native.Nat.{ℕ, zero, suc, ◌+◌}
use Rattle.std.proofs.Math.Dec.{ltb}
use Rattle.std.specs.Prelude.{if◌then◌else◌}
use Rattle.std.specs.Prelude.{Option, Some, None}
use Rattle.model.specs.Base.{further}
use Rattle.model.specs.Waitcnt.{Waits}
use Rattle.model.specs.Wait.{window, in_window}
use Rattle.model.specs.Prefetch.{capacity, emptied, set_enabled, restart_in, restart, beat_in, start_beat, arrived}
use Rattle.model.specs.Prefetch.{ended, advance, ready, tick1, ticks, occupied, hit, taken, fetched}
use Rattle.model.specs.Step.{waits_of, rom_fetched, fetched_in, code_fetched}
use Rattle.model.proofs.Laws.Choice.{choose, either}
use Rattle.model.specs.declared.PrefetchBuffer.{PrefetchBuffer}
use Rattle.model.specs.declared.RomWindow.{RomWindow}
use Rattle.model.specs.declared.Clock.{Clock}
use Rattle.model.specs.declared.IsaState.{IsaState}
use Rattle.model.specs.declared.IsaState.TheVariants.{Thumb, Arm}
use Rattle.model.specs.Laws.Switch.{Keeps}

pub set_enabled_switch : (on : Bool) (p : PrefetchBuffer) → (set_enabled on p).enabled ≡ on
unfolding set_enabled
set_enabled_switch true p = refl
set_enabled_switch false p = choose (λ (q : PrefetchBuffer). q.enabled ≡ false) p.enabled (λ e. refl) (λ e. e)

module _ (t : Waits) where
  restart_in_switch : (p : PrefetchBuffer) (a : ℕ) (v : Option RomWindow) → Keeps p (restart_in t p a v)
  restart_in_switch p a (Some win) = refl
  restart_in_switch p a None = refl

  pub restart_switch : (p : PrefetchBuffer) (a : ℕ) → (restart t p a).enabled ≡ p.enabled
  unfolding restart
  restart_switch p a = either (Keeps p) p.enabled (restart_in_switch p a (window a)) refl

  -- a restart drains: what it leaves depends on the switch alone
  restart_in_anew : (p q : PrefetchBuffer) (a : ℕ) (v : Option RomWindow) → p.enabled ≡ q.enabled
      → restart_in t p a v ≡ restart_in t q a v
  restart_in_anew p q a (Some win) e = rw e refl
  restart_in_anew p q a None e = rw e refl

  restart_anew : (p q : PrefetchBuffer) (a : ℕ) → p.enabled ≡ q.enabled → restart t p a ≡ restart t q a
  unfolding restart
  restart_anew p q a e =
      ap₂ (λ (on : Bool) (r : PrefetchBuffer). if on then r else emptied on) e (restart_in_anew p q a (window a) e)

  beat_in_switch : (p : PrefetchBuffer) (v : Option RomWindow) → Keeps p (beat_in t p v)
  beat_in_switch p (Some win) = refl
  beat_in_switch p None = refl

  start_beat_switch : (p : PrefetchBuffer) → Keeps p (start_beat t p)
  unfolding start_beat
  start_beat_switch p = beat_in_switch p (window p.next_addr)

  ended_switch : (p : PrefetchBuffer) → Keeps p (ended t p)
  unfolding ended arrived
  ended_switch p = either (Keeps p) (ltb (p.count + 1) capacity) (start_beat_switch (arrived p)) refl

  advance_switch : (p : PrefetchBuffer) → Keeps p (advance t p)
  unfolding advance
  advance_switch p = either (Keeps p) (leb p.wait_left 1) (ended_switch p) refl

  pub ready_switch : (p : PrefetchBuffer) → (ready t p).enabled ≡ p.enabled
  unfolding ready
  ready_switch p =
      either (Keeps p) (not p.filling && ltb p.count capacity && in_window p.next_addr) (start_beat_switch p) refl

  pub tick1_switch : (p : PrefetchBuffer) → (tick1 t p).enabled ≡ p.enabled
  unfolding tick1
  tick1_switch p = either (Keeps p) (p.enabled && (ready t p).filling) (advance_switch (ready t p) ∙ ready_switch p) refl

  pub ticks_switch : (n : ℕ) (p : PrefetchBuffer) → (ticks t n p).enabled ≡ p.enabled
  unfolding ticks
  ticks_switch zero p = refl
  ticks_switch (suc n) p = ticks_switch n (tick1 t p) ∙ tick1_switch p

pub fetched_switch : (p : PrefetchBuffer) (a : ℕ) → (fetched p a).enabled ≡ p.enabled
unfolding fetched taken
fetched_switch p a = either (Keeps p) (hit p a) refl (either (Keeps p) (occupied p) refl refl)

-- so a fetch before it changes nothing
pub restart_fetched : (t : Waits) (p : PrefetchBuffer) (a b : ℕ) → restart t (fetched p a) b ≡ restart t p b
restart_fetched t p a b = restart_anew t (fetched p a) p b (fetched_switch p a)

rom_fetched_switch : (t : Waits) (p : PrefetchBuffer) (a : ℕ) (isa : IsaState) → Keeps p (rom_fetched t p a isa)
rom_fetched_switch t p a Thumb =
    either (Keeps p) (hit p a) (fetched_switch p a) (restart_switch t (fetched p a) (further 2 a) ∙ fetched_switch p a)
rom_fetched_switch t p a Arm =
    either (Keeps p) (hit p a && hit (fetched p a) (further 2 a)) twice
    (restart_switch t (fetched (fetched p a) (further 2 a)) (further 4 a) ∙ twice)
  where
    twice : Keeps p (fetched (fetched p a) (further 2 a))
    twice = fetched_switch (fetched p a) (further 2 a) ∙ fetched_switch p a

fetched_in_switch : (t : Waits) (p : PrefetchBuffer) (a : ℕ) (isa : IsaState) (v : Option RomWindow)
    → Keeps p (fetched_in t p a isa v)
fetched_in_switch t p a isa (Some win) = rom_fetched_switch t p a isa
fetched_in_switch t p a isa None = refl

pub code_fetched_switch : (c : Clock) (isa : IsaState) (a : ℕ) → (code_fetched c isa a).enabled ≡ c.prefetch.enabled
unfolding code_fetched
code_fetched_switch c isa a = fetched_in_switch (waits_of c) c.prefetch a isa (window a)
