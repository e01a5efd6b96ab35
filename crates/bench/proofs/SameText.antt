-- What the printing functions write, by the bytes that a run gave back, is the text that the model makes of the sheet.
use Rattle.std.specs.Prelude.{◌≡◌, refl, List, [], ◌∷◌, ◌++◌, map, ℕ, zero, suc, ◌+◌, ◌-◌, ◌*◌, ◌==◌, ◌≤◌, ◌<◌, length, take, drop, replicate, codes}
use Rattle.std.proofs.Common.{ap, ap₂, ◌∙◌, arith, eqb-true}
use Rattle.std.proofs.lemmas.List.{get_or-take, get_or-drop}
use Rattle.model.specs.Base.{bit, byte_at, number, AllBytes}
use Rattle.model.specs.Sheet.{max_records, record_count}
use Rattle.model.specs.BoardBytes.{answer_length, board_length}
use Rattle.model.specs.Outcome.{LentBytes}
use Rattle.model.specs.Alike.{answer_at, answer_start, ReadBack}
use Rattle.model.specs.Grounds.{ground_byte, beat_bytes, beat_ground, grounds_length, grounds_start, grounds_at, Explained, explain}
use Rattle.model.proofs.Laws.Choice.{choose₂}
use Rattle.model.proofs.Laws.Grounds.{byte_back}
use Rattle.promises.specs.Run.{Accounted}
use Rattle.promises.specs.Grounds.{ExplainedIndex, SmallExplainedIndex, GroundsGiven}
use Rattle.promises.proofs.Run.{accounts}
use Rattle.promises.proofs.Grounds as promises
use Rattle.bts.specs.Explained.{reported_grounds}
use Rattle.bts.specs.declared.Report.{Report}
use Rattle.model.specs.declared.Answer.{Answer}
use Rattle.model.specs.declared.Ground.{Ground}
use Rattle.bench.specs.Text.{bench_lends, grounds_text, numbers_text, line_text, lines, total_text, text_of, bench_text, ending_by, bench_ending}
use Rattle.bench.specs.Example.{fresh_zeros}
use Rattle.bench.specs.Lines.{beat_text, beats_text, numbers_read, line_read, report_read}

-- ---- a part of a list of bytes

byte_in_part : (w s j : ℕ) (b : List ℕ) → j < w → byte_at (take w (drop s b)) j ≡ byte_at b (s + j)
byte_in_part w s j b h = get_or-take w (drop s b) j 0 h ∙ get_or-drop s b j 0

number_in_part : (n w s j : ℕ) (b : List ℕ) → j + n ≤ w → number n (take w (drop s b)) j ≡ number n b (s + j)
number_in_part zero w s j b h = refl
number_in_part (suc n) w s j b h =
    let next : s + (j + 1) ≡ s + j + 1 = omega arith in
    ap₂ (λ (low high : ℕ). low + 256 * high) (byte_in_part w s j b (omega arith))
    (number_in_part n w s (j + 1) b (omega arith) ∙ ap (number n b) next)

-- ---- the words of a record

-- no beat has no word
none_text : (n : ℕ) → beats_text (replicate n 0) ≡ []
unfolding beat_ground
none_text zero = refl
none_text (suc n) = none_text n

grounds_words : (gs : List Ground) (n : ℕ) → beats_text (map ground_byte gs ++ replicate n 0) ≡ grounds_text gs
grounds_words [] n = none_text n
grounds_words (g ∷ gs) n = ap₂ (λ (a b : List ℕ). a ++ b) (ap beat_text (byte_back g)) (grounds_words gs n)

-- ---- lines

lines_same : (f g : ℕ → List ℕ) (n : ℕ) → ((k : ℕ) → k < n → f k ≡ g k) → lines f n ≡ lines g n
lines_same f g zero h = refl
lines_same f g (suc n) h =
    ap₂ (λ (a b : List ℕ). a ++ b) (lines_same f g n (λ k below. h k (omega arith))) (h n (omega arith))

-- answer k
abbrev part : ℕ → List ℕ → List ℕ
part k answers = take answer_length (drop (answer_start k) answers)

numbers_same : (k : ℕ) (answers : List ℕ) (a : Answer) → ReadBack answers k a → numbers_read k (part k answers) ≡ numbers_text k a
numbers_same k answers a r =
    let at = answer_start k in
    let start : answer_start k + 0 ≡ answer_start k = omega arith in
    let cycles : number 4 (part k answers) 4 ≡ a.cycles = number_in_part 4 12 at 4 answers (omega arith) ∙ r.cycles in
    let value : number 4 (part k answers) 0 ≡ a.value =
    number_in_part 4 12 at 0 answers (omega arith) ∙ ap (number 4 answers) start ∙ r.value in
    let hits : byte_at (part k answers) 8 ≡ a.hits = byte_in_part 12 at 8 answers (omega arith) ∙ r.hits in
    let count : byte_at (part k answers) 9 ≡ a.count = byte_in_part 12 at 9 answers (omega arith) ∙ r.count in
    let force : byte_at (part k answers) 10 ≡ bit a.force = byte_in_part 12 at 10 answers (omega arith) ∙ r.force in
    rw (cycles, value, hits, count, force) refl

line_same : (k : ℕ) (answers grounds : List ℕ) (a : Answer) (gs : List Ground) → ReadBack answers k a
    → take grounds_length (drop (grounds_start k) grounds) ≡ beat_bytes gs
    → line_read k (part k answers) (take grounds_length (drop (grounds_start k) grounds)) ≡ line_text k a gs
line_same k answers grounds a gs r b =
    ap₂ (λ (numbers words : List ℕ). numbers ++ words ++ codes "\n") (numbers_same k answers a r)
    (ap beats_text b ∙ grounds_words gs (grounds_length - length gs))

-- ---- what the program lends are bytes

zero_bytes : (n i : ℕ) → byte_at (replicate n 0) i < 256
zero_bytes zero i = omega arith
zero_bytes (suc n) zero = omega arith
zero_bytes (suc n) (suc i) = zero_bytes n i

lent_bytes : (sheet : List ℕ) → AllBytes sheet → LentBytes (bench_lends sheet).run
lent_bytes sheet bytes =
    record {
      sheet = bytes;
      board = rw fresh_zeros (zero_bytes board_length);
      store = zero_bytes 61444;
      bios = zero_bytes 0;
      rom = zero_bytes 0;
    }

-- ---- a call of the run

module _ (sheet : List ℕ) (bytes : AllBytes sheet) (r : Report) (board store answers grounds : List ℕ)
    (call : reported_grounds r board store answers grounds ≡ explain (bench_lends sheet)) where
  abbrev gave : Explained
  gave = reported_grounds r board store answers grounds

  each_line : r.number ≡ 0 → (k : ℕ) → k < r.index
      → line_read k (part k answers) (take grounds_length (drop (grounds_start k) grounds))
      ≡ line_text k (answer_at (bench_lends sheet).run k) (grounds_at (bench_lends sheet).run k)
  unfolding Accounted ExplainedIndex GroundsGiven
  each_line z k h =
      let told = promises.explains (bench_lends sheet) gave call z in
      let count = (promises.grounds_index (bench_lends sheet) gave call).accepted z in
      let there : k < record_count sheet = omega (arith, h, count) in
      let read = (accounts (bench_lends sheet).run gave.run told.run z).fields (lent_bytes sheet bytes) k there in
      line_same k answers grounds (answer_at (bench_lends sheet).run k) (grounds_at (bench_lends sheet).run k) read
      (told.bytes k there)

  pub report_same : report_read r answers grounds ≡ bench_text sheet
  report_same =
      choose₂ (λ (a b : List ℕ). a ≡ b) (r.number == 0)
      (λ t. ap (λ (l : List ℕ). l ++ total_text r.total)
      (lines_same _ _ r.index (each_line (eqb-true r.number 0 t))))
      (λ f. refl)
      ∙ ap (λ (x : Explained). text_of (bench_lends sheet).run x.run) call

  -- there is room for as many records as the report tells of
  pub few : r.index ≤ max_records
  unfolding SmallExplainedIndex
  few = promises.grounds_few_records (bench_lends sheet) gave call

  pub ending_same : ending_by r.number ≡ bench_ending sheet
  ending_same = ap (λ (x : Explained). ending_by x.run.number) call
