-- What the printing functions write, by the bytes that they read; and what of a line waits for its end.
use Rattle.std.specs.Prelude.{List, ◌++◌, ℕ, take, drop, decimal, codes, flat_map, Option, Some, None, [], ◌==◌}
use Rattle.std.specs.Prelude.{if◌then◌else◌}
use Rattle.model.specs.Base.{byte_at, number}
use Rattle.model.specs.BoardBytes.{answer_length}
use Rattle.model.specs.Alike.{answer_start}
use Rattle.model.specs.Grounds.{ground_name, beat_ground, grounds_length, grounds_start}
use Rattle.model.specs.declared.Ground.{Ground}
use Rattle.bts.specs.declared.Report.{Report}
use Rattle.bench.specs.declared.line.Line.{Line}
use Rattle.bench.specs.Text.{spaced, lines, total_text, refusal_text}

-- of what a byte says
abbrev pub beat_text : Option Ground → List ℕ
beat_text None = []
beat_text (Some g) = spaced (ground_name g)

-- of the bytes of a record's grounds
abbrev pub beats_text : List ℕ → List ℕ
beats_text bytes = flat_map (λ (b : ℕ). beat_text (beat_ground b)) bytes

-- the numbers of record k, by the bytes of its answer
abbrev pub numbers_read : ℕ → List ℕ → List ℕ
numbers_read k answer =
    decimal k ++ spaced (decimal (number 4 answer 4)) ++ spaced (decimal (number 4 answer 0))
    ++ spaced (decimal (byte_at answer 8)) ++ spaced (decimal (byte_at answer 9)) ++ spaced (decimal (byte_at answer 10))

-- its line, by those and the bytes of its grounds
abbrev pub line_read : ℕ → List ℕ → List ℕ → List ℕ
line_read k answer grounds = numbers_read k answer ++ beats_text grounds ++ codes "\n"

-- of the first n records
abbrev pub lines_read : List ℕ → List ℕ → ℕ → List ℕ
lines_read answers grounds n =
    lines (λ (k : ℕ). line_read k (take answer_length (drop (answer_start k) answers))
    (take grounds_length (drop (grounds_start k) grounds))) n

-- of a report
abbrev pub report_read : Report → List ℕ → List ℕ → List ℕ
report_read r answers grounds =
    if r.number == 0 then lines_read answers grounds r.index ++ total_text r.total else refusal_text r.number r.index

-- ---- of a line that is being made

-- what was written into it
abbrev pub line_bytes : Line → List ℕ
line_bytes line = take line.len line.bytes
