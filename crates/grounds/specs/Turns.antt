-- The loop over the records: what it rests on, that a turn tells the grounds of one more, and that the trail follows the clock.
use Rattle.std.specs.Prelude.{◌≡◌, ℕ, zero, suc, ◌+◌, ◌-◌, ◌*◌, ◌<◌, ◌≤◌, Bool, true, false, ◌≢◌, List, ◌++◌, map, length, drop, ◌==◌, nat_eq, refl}
use Rattle.std.proofs.Common.{sym, ◌∙◌, length-append, length-drop}
use Rattle.std.proofs.Math.Path.{ap, ap₂}
use native.Mathlib.Omega.{arith}
use Rattle.std.proofs.Math.Nat.{mod-eq_of_lt}
use Rattle.std.proofs.lemmas.List.{length-map}
use borrow.Author.Tests.{ne_eqb}
use borrow.Rule.Slice.PartMut.{put_mid}
use Rattle.model.specs.Base.{bit, byte_at}
use Rattle.model.specs.Step.{timed, clock_after}
use Rattle.model.specs.Sheet.{max_records, record_start, record_count, record_at, records_from, step_of}
use Rattle.model.specs.BoardBytes.{answer_length}
use Rattle.model.specs.Alike.{answer_start}
use Rattle.model.specs.Grounds.{grounds, grounds_after, grounds_length, beat_bytes, grounds_bytes}
use Rattle.model.proofs.Laws.Choice.{if_false}
use Rattle.model.specs.Laws.Sound.{SoundClock}
use Rattle.model.proofs.Laws.Sound.{clock_after_sound}
use Rattle.model.proofs.Laws.Codec.{blocks_length, blocks_snoc, put_next}
use Rattle.model.specs.Laws.Times.{clock_past}
use Rattle.model.proofs.Laws.Times.{clock_snoc, grounds_snoc}
use Rattle.model.proofs.Laws.Limits.{records_length, steps_short, steps_snoc}
use Rattle.model.proofs.Laws.Explained.{all_widths, grounds_length_law}
use Rattle.model.specs.declared.Clock.{Clock}
use Rattle.model.specs.declared.SheetRecord.{SheetRecord}
use Rattle.model.specs.declared.Step.{Step}
use Rattle.records.specs.Shape.{Shaped}
use Rattle.grounds.specs.declared.Trail.{Trail}
use Rattle.grounds.specs.declared.Before.{Before}
use Rattle.grounds.specs.Trail.{begins, before_step, beats_by, trail_after, Tells}
use Rattle.grounds.specs.Follows.{Follows, begins_follows, counted_hits, follows}

-- ---- what the loop rests on: `OfOneRun` is in the type of a past run, and `Explainable` is what it comes to with room

-- the steps of the first k records
abbrev pub steps_to : List ℕ → ℕ → List Step
steps_to sheet k = map step_of (records_from sheet 0 k)

-- the answer to step k, of record r, tells what the step does to the clock c: how many halfwords it takes, but for WRITE and
-- BLOCK WRITE, whose hits byte is another number; and the prefetch count and the force flag behind it
pub record Shows (answers : List ℕ) (k : ℕ) (c : Clock) (r : SheetRecord) : Type 0 where
  pub hits : r.kind ≢ 2 → r.kind ≢ 11 → byte_at answers (answer_start k + 8) ≡ (timed c (step_of r)).hits
  pub count : byte_at answers (answer_start k + 9) ≡ (clock_after c (step_of r)).prefetch.count
  pub force : byte_at answers (answer_start k + 10) ≡ bit (clock_after c (step_of r)).force_next_fetch_n

-- n records of a sheet, each of which has a kind, and the answers of a run of them that began with the clock, a sound one
pub record OfOneRun (c : Clock) (n : ℕ) (sheet answers : List ℕ) : Type 0 where
  pub within : n ≤ record_count sheet
  pub answered : answer_length * n ≤ length answers
  pub sound : SoundClock c
  pub kinds : (k : ℕ) → k < n → 1 ≤ (record_at sheet k).kind
  pub shown : (k : ℕ) → k < n → Shows answers k (clock_past c (steps_to sheet k)) (record_at sheet k)

-- n records that stand in the sheet and have a kind, with their answers and room for their grounds, behind a sound clock
pub record Explainable (c : Clock) (n : ℕ) (sheet answers grounds : List ℕ) : Type 0 where
  pub few : n ≤ max_records
  pub long : record_start n ≤ length sheet
  pub answered : answer_length * n ≤ length answers
  pub room : grounds_length * n ≤ length grounds
  pub sound : SoundClock c
  pub kinds : (k : ℕ) → k < n → 1 ≤ (record_at sheet k).kind
  pub shown : (k : ℕ) → k < n → Shows answers k (clock_past c (steps_to sheet k)) (record_at sheet k)

-- so it is of a sheet that has its shape, with room for the grounds
pub explainable : {c : Clock} {n : ℕ} {sheet answers grounds : List ℕ} → OfOneRun c n sheet answers → Shaped sheet
    → grounds_length * n ≤ length grounds → Explainable c n sheet answers grounds
explainable a s h =
    record {
      few = omega (arith, a.within, s.few);
      long = omega (arith, a.within, s.long);
      answered = a.answered;
      room = h;
      sound = a.sound;
      kinds = a.kinds;
      shown = a.shown;
    }

-- ---- the clock before a step, as far as it is told

abbrev moment : ℕ → Bool → Before
moment count forced = record { count = count; forced = forced }

abbrev moment_of : Clock → Before
moment_of c = moment c.prefetch.count c.force_next_fetch_n

flag_back : (t : Bool) → (bit t == 1) ≡ t
flag_back true = refl
flag_back false = refl

-- ---- what holds at the loop's test

pub record Going (c : Clock) (sheet : List ℕ) (n : ℕ) (lent : List ℕ) (t : Trail) (told : List ℕ) (k : ℕ) : Type 0 where
  pub written : told ≡ grounds_bytes (grounds_after c (steps_to sheet k)) ++ drop (grounds_length * k) lent
  pub follows : Follows t (clock_past c (steps_to sheet k))
  pub sound : SoundClock (clock_past c (steps_to sheet k))
  pub within : k ≤ n

module _ {c : Clock} {n : ℕ} {sheet answers lent : List ℕ} (x : Explainable c n sheet answers lent) where
  pub begin : Going c sheet n lent (begins c) lent 0
  unfolding records_from grounds_after clock_past
  begin = record { written = refl; follows = begins_follows c x.sound; sound = x.sound; within = omega arith }

  done_size : (k : ℕ) → length (grounds_bytes (grounds_after c (steps_to sheet k))) ≡ grounds_length * k
  done_size k =
      blocks_length grounds_length beat_bytes (grounds_after c (steps_to sheet k))
      (all_widths c (steps_to sheet k) (steps_short sheet 0 k))
      ∙ ap (λ (j : ℕ). grounds_length * j)
      (grounds_length_law c (steps_to sheet k) ∙ length-map (records_from sheet 0 k) step_of ∙ records_length sheet 0 k)

  -- the buffer keeps its length
  pub same_room : {t : Trail} {told : List ℕ} {k : ℕ} → Going c sheet n lent t told k → length told ≡ length lent
  same_room {t} {told} {k} g =
      ap length g.written
      ∙ length-append (grounds_bytes (grounds_after c (steps_to sheet k))) (drop (grounds_length * k) lent)
      ∙ omega (arith, done_size k, length-drop (grounds_length * k) lent, g.within, x.room)

  -- the clock behind one step more
  clock_further : (k : ℕ)
      → clock_past c (steps_to sheet (k + 1)) ≡ clock_after (clock_past c (steps_to sheet k)) (step_of (record_at sheet k))
  clock_further k = ap (clock_past c) (steps_snoc sheet k) ∙ clock_snoc c (steps_to sheet k) (step_of (record_at sheet k))

  -- what the answers tell of the clock before step k: at the start, and behind step j
  first_before : before_step c answers 0 ≡ moment_of (clock_past c (steps_to sheet 0))
  unfolding before_step records_from clock_past
  first_before i = record { count = mod-eq_of_lt small i; forced = c.force_next_fetch_n }
    where
      small : c.prefetch.count < 256
      small = omega (arith, x.sound.buffer.count≤8)

  next_before : (j : ℕ) → j < n → before_step c answers (j + 1) ≡ moment_of (clock_past c (steps_to sheet (j + 1)))
  unfolding before_step
  next_before j h =
      let r : Shows answers j (clock_past c (steps_to sheet j)) (record_at sheet j) = x.shown j h in
      let place : answer_length * (j + 1) - answer_length ≡ answer_start j = omega arith in
      let some : nat_eq (j + 1) 0 ≡ false = ne_eqb (j + 1) 0 (λ e. omega (arith, e)) in
      if_false _ _ _ some
      ∙ ap (λ (at : ℕ). moment (byte_at answers (at + 9)) (byte_at answers (at + 10) == 1)) place
      ∙ ap₂ (λ (count force : ℕ). moment count (force == 1)) r.count r.force
      ∙ ap (moment _) (flag_back _)
      ∙ ap moment_of (sym (clock_further j))

  pub before_is : (k : ℕ) → k < n → before_step c answers k ≡ moment_of (clock_past c (steps_to sheet k))
  before_is zero h = first_before
  before_is (suc j) h =
      let e : suc j ≡ j + 1 = omega arith in
      rw e (next_before j (omega arith))

  -- one record more
  pub turn : {t after : Trail} {b : Before} {y : Step} {told out : List ℕ} {k part : ℕ} → Going c sheet n lent t told k
      → k < n → b ≡ before_step c answers k → y ≡ step_of (record_at sheet k)
      → Tells t b y (byte_at answers (answer_start k + 8)) out after → part ≡ grounds_length
      → Going c sheet n lent after (put_mid (grounds_length * k) part told out) (k + 1)
  turn {t} {after} {b} {y} {told} {out} {k} {part} g h eb ey s w =
      let d = clock_past c (steps_to sheet k) in
      let read = step_of (record_at sheet k) in
      let taken = byte_at answers (answer_start k + 8) in
      let right = follows t d (before_step c answers k) taken g.sound g.follows (before_is k h) read
      (counted_hits d (record_at sheet k) taken (x.shown k h).hits) in
      record {
        written =
            ap₂ (λ (m : ℕ) (l : List ℕ). put_mid (grounds_length * k) m l out) w g.written
            ∙ ap (put_mid (grounds_length * k) grounds_length _)
            (s.told
            ∙ ap₂ (λ (z : Step) (p : Before). beats_by z t p) ey eb
            ∙ right.0)
            ∙ put_next grounds_length k (grounds_bytes (grounds_after c (steps_to sheet k))) lent (beat_bytes (grounds d read))
            (done_size k)
            ∙ ap (λ (l : List ℕ). l ++ drop (grounds_length * (k + 1)) lent)
            (sym (blocks_snoc beat_bytes (grounds_after c (steps_to sheet k)) (grounds d read))
            ∙ ap grounds_bytes (sym (ap (grounds_after c) (steps_snoc sheet k) ∙ grounds_snoc c (steps_to sheet k) read)));
        follows =
            rw (
              clock_further k,
              s.followed ∙ ap (λ (z : Step). trail_after z t taken) ey,
            )
            right.1;
        sound = rw (clock_further k) (clock_after_sound d read g.sound);
        within = omega (arith, h);
      }
