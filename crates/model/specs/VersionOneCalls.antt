-- What the three other operations gave for a sheet before version 2 (docs/RULES.md, "The two versions"): the run under a tariff,
-- the preview and the run with grounds, over the steps, the table and the run of VersionOne.antt. What version 2 left alone is
-- not written twice. Of contracts only promises about version 1 cite them;
-- proofs/Laws/VersionOneCalls.antt has that a version 1 sheet still means what they say.
use Rattle.std.specs.Prelude.{Bool, List, [], ◌∷◌, ◌++◌, ℕ, ◌*◌, length, drop}
use Rattle.model.specs.Base.{sum}
use Rattle.model.specs.Prefetch.{hit}
use Rattle.model.specs.Price.{previous}
use Rattle.model.specs.Step.{cycles_in, cycles_of, total}
use Rattle.model.specs.Sheet.{record_count}
use Rattle.model.specs.BoardBytes.{answer_length, clock_of, answers_bytes}
use Rattle.model.specs.Outcome.{Lent, Row, first_row, board_rows, answers_rows, room_rows, refusal_number, refusal_index}
use Rattle.model.specs.Tariff.{charge, share_length, shares_in, Tariffed, Billed, rate_rows}
use Rattle.model.specs.Preview.{Asked, Previewed, giving}
use Rattle.model.specs.Grounds.{fetch_grounds, data_grounds, grounds_length, grounds_bytes, Explaining, Explained}
use Rattle.model.specs.VersionOne.{Step₁, Read₁, Write₁, Waitcnt₁, Idle₁, Fetch₁, Restart₁, Instruction₁, Pc₁, Latch₁}
use Rattle.model.specs.VersionOne.{steps_of₁, priced₁, timed₁, clock_after₁}
use Rattle.model.specs.VersionOne.{sheet_rows₁, lent_rows₁, records_rows₁, ran₁, outcome_by₁}
use Rattle.model.specs.declared.Answer.{Answer}
use Rattle.model.specs.declared.Clock.{Clock}
use Rattle.model.specs.declared.Ground.{Ground}
use Rattle.model.specs.declared.Previous.{Previous}
use Rattle.model.specs.Verdict.{Verdict, Accepted, Refused}

-- ---- the table of a run with a second buffer, for shares or grounds

abbrev pub second_rows₁ : Lent → ℕ → ℕ → List Row
second_rows₁ i each second =
    lent_rows₁ i ++ (room_rows (record_count i.sheet) (length i.answers) each second ++ records_rows₁ i.sheet)

-- ---- a run under a tariff

abbrev pub tariff_rows₁ : Tariffed → List Row
tariff_rows₁ t = second_rows₁ t.run share_length (length t.shares) ++ rate_rows t.rate

unfoldable pub tariff_verdict₁ : Tariffed → Verdict
tariff_verdict₁ t = first_row (tariff_rows₁ t)

abbrev pub charge_by₁ : Tariffed → Verdict → ℕ
charge_by₁ t (Refused r) = 0
charge_by₁ t Accepted = charge t.rate (total (ran₁ t.run))

abbrev pub shares_by₁ : Tariffed → Verdict → List ℕ
shares_by₁ t (Refused r) = t.shares
shares_by₁ t Accepted = shares_in t.shares t.rate (cycles_of (ran₁ t.run)) (record_count t.run.sheet)

abbrev pub bill_by₁ : Tariffed → Verdict → Billed
bill_by₁ t v = record { run = outcome_by₁ t.run v; charge = charge_by₁ t v; shares = shares_by₁ t v }

unfoldable pub bill₁ : Tariffed → Billed
bill₁ t = bill_by₁ t (tariff_verdict₁ t)

-- ---- a preview

abbrev pub clock_value₁ : Clock → Step₁ → ℕ
clock_value₁ c (Read₁ z a) = 0
clock_value₁ c (Write₁ z a v) = 0
clock_value₁ c (Waitcnt₁ v) = 0
clock_value₁ c (Idle₁ n) = 0
clock_value₁ c (Fetch₁ a) = 0
clock_value₁ c (Restart₁ a) = 0
clock_value₁ c (Instruction₁ isa a op jump) = (priced₁ c isa a op jump).cart_idle
clock_value₁ c (Pc₁ a) = 0
clock_value₁ c (Latch₁ v) = 0

abbrev pub foretold₁ : Clock → Step₁ → Answer
foretold₁ c x =
    record {
      value = clock_value₁ c x;
      cycles = (timed₁ c x).cycles;
      hits = (timed₁ c x).hits;
      count = (clock_after₁ c x).prefetch.count;
      force = (clock_after₁ c x).force_next_fetch_n;
    }

unfoldable pub previewed₁ : Clock → List Step₁ → List Answer
previewed₁ c [] = []
previewed₁ c (x ∷ xs) = foretold₁ c x ∷ previewed₁ (clock_after₁ c x) xs

abbrev pub preview_rows₁ : Asked → List Row
preview_rows₁ q =
    sheet_rows₁ q.sheet
    ++ (board_rows q.board
    ++ (answers_rows (record_count q.sheet) (length q.answers) ++ records_rows₁ q.sheet))

unfoldable pub preview_verdict₁ : Asked → Verdict
preview_verdict₁ q = first_row (preview_rows₁ q)

unfoldable pub preview_answers₁ : Asked → List Answer
preview_answers₁ q = previewed₁ (clock_of q.board) (steps_of₁ q.sheet)

abbrev pub preview_by₁ : Asked → Verdict → Previewed
preview_by₁ q (Refused r) = giving q (refusal_number r) (refusal_index r) 0 q.answers
preview_by₁ q Accepted =
    giving q 0 (record_count q.sheet) (sum (cycles_in (preview_answers₁ q)))
    (answers_bytes (preview_answers₁ q) ++ drop (answer_length * record_count q.sheet) q.answers)

unfoldable pub preview₁ : Asked → Previewed
preview₁ q = preview_by₁ q (preview_verdict₁ q)

-- ---- a run with grounds

abbrev pub grounds_by₁ : (ℕ → Bool) → Bool → Previous → Step₁ → List Ground
grounds_by₁ hits forced p (Read₁ z a) = data_grounds p z a
grounds_by₁ hits forced p (Write₁ z a v) = data_grounds p z a
grounds_by₁ hits forced p (Waitcnt₁ v) = []
grounds_by₁ hits forced p (Idle₁ n) = []
grounds_by₁ hits forced p (Fetch₁ a) = []
grounds_by₁ hits forced p (Restart₁ a) = []
grounds_by₁ hits forced p (Instruction₁ isa a op jump) = fetch_grounds hits forced isa a
grounds_by₁ hits forced p (Pc₁ a) = []
grounds_by₁ hits forced p (Latch₁ v) = []

abbrev pub grounds₁ : Clock → Step₁ → List Ground
grounds₁ c x = grounds_by₁ (hit c.prefetch) c.force_next_fetch_n (previous c) x

unfoldable pub grounds_after₁ : Clock → List Step₁ → List (List Ground)
grounds_after₁ c [] = []
grounds_after₁ c (x ∷ xs) = grounds₁ c x ∷ grounds_after₁ (clock_after₁ c x) xs

abbrev pub grounds_rows₁ : Explaining → List Row
grounds_rows₁ e = second_rows₁ e.run grounds_length (length e.grounds)

unfoldable pub grounds_verdict₁ : Explaining → Verdict
grounds_verdict₁ e = first_row (grounds_rows₁ e)

unfoldable pub run_grounds₁ : Lent → List (List Ground)
run_grounds₁ i = grounds_after₁ (clock_of i.board) (steps_of₁ i.sheet)

abbrev pub grounds_for₁ : Explaining → Verdict → List ℕ
grounds_for₁ e (Refused r) = e.grounds
grounds_for₁ e Accepted =
    grounds_bytes (run_grounds₁ e.run) ++ drop (grounds_length * record_count e.run.sheet) e.grounds

abbrev pub explain_by₁ : Explaining → Verdict → Explained
explain_by₁ e v = record { run = outcome_by₁ e.run v; grounds = grounds_for₁ e v }

unfoldable pub explain₁ : Explaining → Explained
explain₁ e = explain_by₁ e (grounds_verdict₁ e)
