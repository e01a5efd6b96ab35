-- What `bench` writes of a sheet, in bytes, from the model alone: a line for each record, with its answer and the grounds of its
-- price, and the total; or the refusal. And how it ends.
-- From docs/RULES.md, "The program bench".
use Rattle.std.specs.Prelude.{List, [], ◌++◌, ℕ, zero, suc, ◌*◌, ◌==◌, replicate, decimal, codes, flat_map, Option, ◌≡◌, ⊤}
use Rattle.std.specs.Prelude.{if◌then◌else◌}
use Rattle.std.specs.Io.KnownBytes.{Appends, Keeps}
use Rattle.model.specs.Base.{bit}
use Rattle.model.specs.Sheet.{max_records}
use Rattle.model.specs.BoardBytes.{answer_length, board_bytes, fresh_board}
use Rattle.model.specs.Outcome.{Lent, Outcome}
use Rattle.model.specs.Alike.{answer_at}
use Rattle.model.specs.Grounds.{ground_name, grounds_length, Explaining, explain, grounds_at}
use Rattle.model.specs.declared.Answer.{Answer}
use Rattle.model.specs.declared.Ground.{Ground}
use Rattle.bench.specs.declared.Ending.{Ending}
use Rattle.bench.specs.declared.Ending.TheVariants.{Figures, Refusal, Unread, Unwritten}

-- ---- what the program lends

-- to the run of a sheet: a fresh board, memories of zeros, no BIOS and no ROM, and room for the answers and the grounds of the
-- longest sheet (RULES, "The program bench")
abbrev pub bench_lends : List ℕ → Explaining
bench_lends sheet =
    record {
      run =
          record {
            sheet = sheet;
            board = board_bytes fresh_board;
            store = replicate 61444 0;
            bios = [];
            rom = [];
            answers = replicate (answer_length * max_records) 0;
            lengths =
                record { ewram = 16384; iwram = 16384; io = 2052; palette = 1024; vram = 16384; oam = 1024; sram = 8192 };
          };
      grounds = replicate (grounds_length * max_records) 0;
    }

-- ---- the lines

-- behind a space
abbrev pub spaced : List ℕ → List ℕ
spaced text = codes " " ++ text

-- the words of grounds, each behind a space
abbrev pub grounds_text : List Ground → List ℕ
grounds_text gs = flat_map (λ (g : Ground). spaced (ground_name g)) gs

-- of record `k`: index, cycles, value, hits, prefetch count and force flag
abbrev pub numbers_text : ℕ → Answer → List ℕ
numbers_text k a =
    decimal k ++ spaced (decimal a.cycles) ++ spaced (decimal a.value) ++ spaced (decimal a.hits)
    ++ spaced (decimal a.count) ++ spaced (decimal (bit a.force))

-- its line: the numbers, and then the grounds
abbrev pub line_text : ℕ → Answer → List Ground → List ℕ
line_text k a gs = numbers_text k a ++ grounds_text gs ++ codes "\n"

-- n lines, of which `line` gives each by its number
abbrev pub lines : (ℕ → List ℕ) → ℕ → List ℕ
lines line zero = []
lines line (suc n) = lines line n ++ line n

abbrev pub total_text : ℕ → List ℕ
total_text n = codes "total " ++ decimal n ++ codes "\n"

abbrev pub refusal_text : ℕ → ℕ → List ℕ
refusal_text number index = codes "refused " ++ decimal number ++ codes " at " ++ decimal index ++ codes "\n"

-- ---- the whole text

-- of a run over what is lent, with its outcome
abbrev pub text_of : Lent → Outcome → List ℕ
text_of i o =
    if o.number == 0 then lines (λ (k : ℕ). line_text k (answer_at i k) (grounds_at i k)) o.index ++ total_text o.total
    else refusal_text o.number o.index

-- of a sheet, over what the program lends (RULES, "The program bench")
abbrev pub bench_text : List ℕ → List ℕ
bench_text sheet = text_of (bench_lends sheet).run (explain (bench_lends sheet)).run

-- ---- how the program ends

-- by the number of a refusal, 0 where nothing is refused
abbrev pub ending_by : ℕ → Ending
ending_by number = if number == 0 then Figures else Refusal

-- of a sheet that was read, and whose text was written (RULES, "The program bench")
abbrev pub bench_ending : List ℕ → Ending
bench_ending sheet = ending_by (explain (bench_lends sheet)).run.number

-- what is known of the output, by how the program ended. With figures or a refusal it has got the sheet's text; with input that
-- can't be read, nothing; of what stands there where a write failed, std says nothing
abbrev pub Wrote : List ℕ → Ending → Option (List ℕ) → Option (List ℕ) → Type 0
Wrote sheet Figures before after = (bench_ending sheet ≡ Figures) × Appends before after (bench_text sheet)
Wrote sheet Refusal before after = (bench_ending sheet ≡ Refusal) × Appends before after (bench_text sheet)
Wrote sheet Unread before after = Keeps before after
Wrote sheet Unwritten before after = ⊤

-- its exit status (RULES, "The program bench")
abbrev pub status_of : Ending → ℕ
status_of Figures = 0
status_of Refusal = 1
status_of Unread = 2
status_of Unwritten = 2
