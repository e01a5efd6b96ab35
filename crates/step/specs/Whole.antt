-- A whole step from its parts: what it does up to its idle cycles, the tick, and the answer.
use Rattle.std.specs.Prelude.{◌≡◌, ℕ, ◌%◌, ◌≤◌, List}
use Rattle.std.proofs.Common.{sym, ap, ap₂, ◌∙◌, arith, mod-eq_of_lt}
use Rattle.model.specs.Waitcnt.{Waits, rom_waits_of}
use Rattle.model.specs.Prefetch.{ticks, filled}
use Rattle.model.specs.Load.{rom_halfword}
use Rattle.model.specs.Step.{Media, State, bus_of, waits_of, with_prefetch, Timed, timed}
use Rattle.model.specs.Step.{refilled, stepped, answer, clock_after}
use Rattle.model.specs.Laws.Bounds.{SmallWaits}
use Rattle.model.proofs.Laws.Bounds.{rom_waits_small}
use Rattle.model.specs.Laws.Sound.{Sound, SoundClock}
use Rattle.model.proofs.Laws.Sound.{timed_sound, clock_after_sound}
use Rattle.model.proofs.Laws.RomLoad.{filled_rom}
use Rattle.model.proofs.Laws.Tick.{same_waits}
use Rattle.model.specs.declared.PrefetchBuffer.{PrefetchBuffer}
use Rattle.model.specs.declared.Clock.{Clock}
use Rattle.model.specs.declared.Answer.{Answer}
use Rattle.model.specs.declared.Step.{Step}
use Rattle.prefetch.specs.Ticked.{Ticked}
use Rattle.step.specs.Begun.{state_from, Begins, Steps}
use Rattle.step.specs.declared.Begun.{Begun}
use Rattle.step.specs.declared.Stepped.{Stepped}
use Rattle.model.specs.declared.Contents.{Contents}

module _ (m : Media) (s : State) (x : Step) (t : Waits)
    (sound : SoundClock s.board.clock) (w : t ≡ rom_waits_of s.board.clock.waitcnt)
    (b : Begun) (u : List ℕ) (begins : Begins m s x b u) where
  -- the step's own clock
  abbrev c : Clock
  c = s.board.clock

  abbrev step_timed : Timed
  step_timed = timed c x

  -- what the tick asks
  pub tick_sound : Sound b.clock.prefetch
  tick_sound = rw begins.record_is (timed_sound c x sound).buffer

  pub tick_small : SmallWaits t
  tick_small = rw w (rom_waits_small c.waitcnt)

  -- the tick is over the ROM that is lent
  module _ (p : PrefetchBuffer) (h : List ℕ) {rom : List ℕ} (lent : rom ≡ m.rom)
      (ticked-over : Ticked t rom b.idle b.clock.prefetch s.board.halves p h)
      (after : Clock) (clocked : after ≡ with_prefetch b.clock p) where
    ticked : Ticked t m.rom b.idle b.clock.prefetch s.board.halves p h
    ticked = rw lent at ticked-over

    clock_is : after ≡ clock_after c x
    clock_is =
        clocked
        ∙ ap (with_prefetch b.clock) ticked.buffer
        ∙ ap₂ (λ (z : Begun) (v : Waits). with_prefetch z.clock (ticks v z.idle z.clock.prefetch)) begins.record_is w
        ∙ ap (with_prefetch step_timed.clock) (same_waits c x).buffer

    -- what the step leaves asks for a sound clock
    pub after_sound : SoundClock after
    after_sound = rw clock_is (clock_after_sound c x sound)

    halves_is : h ≡ refilled m s step_timed
    halves_is =
        ticked.halves
        ∙ ap₂ (λ (z : Begun) (v : Waits). filled (rom_halfword m.rom) v z.idle z.clock.prefetch s.board.halves)
        begins.record_is w
        ∙ sym (filled_rom m.lengths (bus_of m s) (waits_of c) (rom_waits_small c.waitcnt) step_timed.idle
        step_timed.clock.prefetch s.board.halves (timed_sound c x sound).buffer)
        ∙ (same_waits c x).halves _ s.board.halves

    count_is : p.count % 256 ≡ (clock_after c x).prefetch.count
    count_is =
        let same : p ≡ (clock_after c x).prefetch =
        sym (ap (λ (k : Clock). k.prefetch) clocked) ∙ ap (λ (k : Clock). k.prefetch) clock_is in
        let few : (clock_after c x).prefetch.count ≤ 8 = (clock_after_sound c x sound).buffer.count≤8 in
        ap (λ (q : PrefetchBuffer). q.count % 256) same ∙ mod-eq_of_lt (omega arith)

    -- the answer, with what the tick left
    abbrev answered : Answer
    answered =
        record {
          value = b.value;
          cycles = b.cycles;
          hits = b.hits;
          count = p.count % 256;
          force = after.force_next_fetch_n;
        }

    told : answered ≡ answer m s x
    told i =
        record {
          value = (begins.record_is i).value;
          cycles = (begins.record_is i).cycles;
          hits = (begins.record_is i).hits;
          count = count_is i;
          force = (clock_is i).force_next_fetch_n;
        }

    left : state_from after h b.contents u ≡ stepped m s x
    left i =
        record {
          board = record { clock = clock_is i; halves = halves_is i; contents = (begins.record_is i).contents };
          store = begins.store_is i;
        }

    -- in what the step leaves
    pub whole : {r : Stepped} → r.machine.clock ≡ after → r.machine.contents ≡ b.contents → r.answer ≡ answered
        → Steps m s x r h u
    whole clock contents answers =
        record {
          state_is = ap₂ (λ (k : Clock) (d : Contents). state_from k h d u) clock contents ∙ left;
          answer_is = answers ∙ told;
        }
