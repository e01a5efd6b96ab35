-- A run with a second buffer beside the answers, for shares or grounds: with room in it the table says what the run's does, and
-- no row holds exactly when none of the run's does and there is room.
use Rattle.std.specs.Prelude.{◌≡◌, Bool, false, ◌||◌, List, ◌++◌, ℕ, ◌*◌, length, ltb}
use Rattle.std.proofs.Common.{sym, ap, ◌∙◌, ltb-true, ltb-false, le-ltb}
use Rattle.model.specs.Base.{Exactly}
use Rattle.model.specs.Sheet.{record_count}
use Rattle.model.specs.BoardBytes.{answer_length}
use Rattle.model.specs.Outcome.{Lent, Row, row, by_row, first_row, lent_rows, answers_rows, room_rows, records_rows}
use Rattle.model.specs.Outcome.{rows, second_rows, outcome_by}
use Rattle.model.proofs.Laws.Choice.{or-false, or_false_left, or_false_right}
use Rattle.model.specs.Laws.Rows.{Decides, NoneHolds, or_else_of}
use Rattle.model.proofs.Laws.Rows.{first_append, decides_refusal}
use Rattle.model.specs.Laws.Refusal.{FirstFault}
use Rattle.model.proofs.Laws.Refusal.{first_fault, none_acceptable, acceptable_none}
use Rattle.model.specs.declared.Refusal.TheVariants.{ShortAnswers}
use Rattle.model.specs.Laws.Second.{Room, AcceptableWith}

module _ (i : Lent) (each second : ℕ) where
  -- the row of the room
  abbrev too_short : Bool
  too_short = ltb (length i.answers) (answer_length * record_count i.sheet)

  abbrev too_narrow : Bool
  too_narrow = ltb second (each * record_count i.sheet)

  long_enough : Exactly (too_short || too_narrow ≡ false) ((too_short ≡ false) × Room i each second)
  long_enough = (
    λ h. (or_false_left too_short too_narrow h, record { fits = ltb-false _ _ (or_false_right too_short too_narrow h) }),
    λ h. or-false too_short too_narrow (le-ltb second _ h.1.fits) ∙ h.0,
  )

  -- with room it says what the run's table does, with whatever rows behind it
  pub same_verdict : Room i each second → first_row (second_rows i each second) ≡ first_row (rows i)
  same_verdict r =
      first_append (lent_rows i) (room_rows (record_count i.sheet) (length i.answers) each second ++ records_rows i.sheet)
      ∙ ap
      (λ (short : Bool).
      or_else_of (first_row (lent_rows i)) (by_row (row short ShortAnswers) (first_row (records_rows i.sheet))))
      (or-false too_short too_narrow (le-ltb second _ r.fits))
      ∙ sym (first_append (lent_rows i) (answers_rows (record_count i.sheet) (length i.answers) ++ records_rows i.sheet))

  -- no row of it holds
  pub none_of_second : Exactly (NoneHolds (second_rows i each second)) (AcceptableWith i each second)
  none_of_second = (to, from)
    where
      to : NoneHolds (second_rows i each second) → AcceptableWith i each second
      to h =
          let e = long_enough.0 h.1.1.1.1.1.0 in
          record {
            run =
                none_acceptable i
                (h.0, (h.1.0, (h.1.1.0, (h.1.1.1.0, (h.1.1.1.1.0, (e.0, h.1.1.1.1.1.1))))));
            room = e.1;
          }

      from : AcceptableWith i each second → NoneHolds (second_rows i each second)
      from a =
          let h = acceptable_none i a.run in
          let short = long_enough.1 (h.1.1.1.1.1.0, a.room) in
          (h.0, (h.1.0, (h.1.1.0, (h.1.1.1.0, (h.1.1.1.1.0, (short, h.1.1.1.1.1.1))))))

  -- where its last row decides, with whatever rows behind it, the index is that of the first faulty record
  pub fault_told : (more : List Row) → Decides (second_rows i each second ++ more) 6
      → FirstFault i.sheet (outcome_by i (first_row (second_rows i each second ++ more))).index
  fault_told more d =
      rw (decides_refusal (second_rows i each second ++ more) 6 d) (first_fault i.sheet (ltb-true _ _ d.1.1.1.1.1.1))
