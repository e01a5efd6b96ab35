-- One accepted outcome, over bytes as lent: the program `bench`'s example, whose total is 31, its grounds, and what the program
-- writes of it, to the letter.
-- The example is README.md's; docs/RULES.md, "The program bench", has the rule.
use Rattle.std.specs.Prelude.{◌≡◌, refl, List, [], ◌∷◌, ◌++◌, ℕ, replicate, codes}
use Rattle.std.specs.Fmt.{digits}
use Rattle.model.specs.Wait.{access_size_of}
use Rattle.model.specs.Sheet.{rules_of, record_at, records_from, isa_state, step_of, size_fits, kind_fault, field_fault, first_of}
use Rattle.model.specs.BoardBytes.{board_length, clock_of, contents_of, board_bytes, fresh_board, sound_beat}
use Rattle.model.specs.BoardBytes.{sound_row, is_zero, sound_prefetch, sound_previous, sound_bytes, sound}
use Rattle.model.specs.Outcome.{Lent, Outcome, sizes_fit, verdict, ran, outcome}
use Rattle.model.specs.Alike.{state_at, answer_at}
use Rattle.model.specs.Grounds.{half_ground, fetch_grounds, first_ground, data_grounds, grounds_after, beat_bytes, Explaining}
use Rattle.model.specs.Grounds.{grounds_verdict, run_grounds, explain}
use Rattle.model.specs.Laws.Figures.{machine}
use Rattle.model.specs.declared.Ground.TheVariants.{BufferHit, EwramBus}
use Rattle.bench.specs.Text.{bench_text, bench_ending}
use Rattle.bench.specs.declared.Ending.TheVariants.{Figures, Refusal}

-- the sheet: its header, and five records
abbrev example_sheet : List ℕ
example_sheet =
    (0x42 ∷ 0x54 ∷ 0x53 ∷ 1 ∷ 0 ∷ 0 ∷ 5 ∷ 0 ∷ [])
    -- WAITCNT 0x4000
    ++ (3 ∷ 0 ∷ 0 ∷ 0 ∷ 0 ∷ 0 ∷ 0 ∷ 0 ∷ 0 ∷ 0x40 ∷ 0 ∷ 0 ∷ [])
    -- RESTART 0x08000100
    ++ (6 ∷ 0 ∷ 0 ∷ 0 ∷ 0 ∷ 1 ∷ 0 ∷ 8 ∷ 0 ∷ 0 ∷ 0 ∷ 0 ∷ [])
    -- IDLE 27
    ++ (4 ∷ 0 ∷ 0 ∷ 0 ∷ 0 ∷ 0 ∷ 0 ∷ 0 ∷ 0x1B ∷ 0 ∷ 0 ∷ 0 ∷ [])
    -- Thumb 0x1C00 at 0x08000100
    ++ (7 ∷ 2 ∷ 0 ∷ 0 ∷ 0 ∷ 1 ∷ 0 ∷ 8 ∷ 0 ∷ 0x1C ∷ 0 ∷ 0 ∷ [])
    -- READ 2 at 0x02000000
    ++ (1 ∷ 2 ∷ 0 ∷ 0 ∷ 0 ∷ 0 ∷ 0 ∷ 2 ∷ 0 ∷ 0 ∷ 0 ∷ 0 ∷ [])

-- a fresh board is 80 zero bytes: what `board::fresh` gives `bench`, and what the example lends
pub fresh_zeros : board_bytes fresh_board ≡ replicate board_length 0
unfolding board_bytes
fresh_zeros = refl

-- what `bench` lends, with room for its answers alone: a fresh board, zeroed memories of its lengths, no BIOS and no ROM
abbrev pub example : Lent
example =
    record {
      sheet = example_sheet;
      board = replicate board_length 0;
      store = replicate 61444 0;
      bios = [];
      rom = [];
      answers = replicate 60 0;
      lengths = record { ewram = 16384; iwram = 16384; io = 2052; palette = 1024; vram = 16384; oam = 1024; sram = 8192 };
    }

-- cycles, hits and prefetch count of a step that answers 0 and leaves the force flag clear
abbrev answered : ℕ → ℕ → ℕ → List ℕ
answered cycles hits count = 0 ∷ 0 ∷ 0 ∷ 0 ∷ cycles ∷ 0 ∷ 0 ∷ 0 ∷ hits ∷ count ∷ 0 ∷ 0 ∷ []

pub record Example (o : Outcome) : Type 0 where
  pub number : o.number ≡ 0
  pub index : o.index ≡ 5
  pub total : o.total ≡ 31
  pub answers : o.answers ≡ answered 0 0 0 ++ (answered 0 0 0 ++ (answered 27 0 7 ++ (answered 1 1 6 ++ answered 3 0 6)))
  pub store : o.store ≡ replicate 61444 0

pub bench_example : Example (outcome example)
unfolding machine rules_of record_at records_from access_size_of isa_state step_of size_fits kind_fault field_fault first_of
    clock_of contents_of board_bytes sound_beat sound_row is_zero sound_prefetch sound_previous sound_bytes sound
    sizes_fit verdict ran outcome
bench_example = record { number = refl; index = refl; total = refl; answers = refl; store = refl }

-- its grounds: of the opcode a hit, of the halfword from EWRAM ewram, of the others none
abbrev explained_example : Explaining
explained_example = record { run = example; grounds = replicate 160 0 }

pub bench_grounds : (explain explained_example).grounds
    ≡ beat_bytes [] ++ (beat_bytes [] ++ (beat_bytes [] ++ (beat_bytes (BufferHit ∷ []) ++ beat_bytes (EwramBus ∷ []))))
unfolding machine rules_of record_at records_from access_size_of isa_state step_of size_fits kind_fault field_fault first_of
    clock_of contents_of board_bytes sound_beat sound_row is_zero sound_prefetch sound_previous sound_bytes sound
    sizes_fit explain grounds_verdict run_grounds grounds_after half_ground fetch_grounds first_ground data_grounds
bench_grounds = refl

-- what `bench` writes of it, to the letter
abbrev pub example_text : List ℕ
example_text =
    codes "0 0 0 0 0 0\n"
    ++ codes "1 0 0 0 0 0\n"
    ++ codes "2 27 0 0 7 0\n"
    ++ codes "3 1 0 1 6 0 hit\n"
    ++ codes "4 3 0 0 6 0 ewram\n"
    ++ codes "total 31\n"

pub bench_writes : (bench_text example_sheet ≡ example_text) × (bench_ending example_sheet ≡ Figures)
unfolding machine rules_of record_at records_from access_size_of isa_state step_of size_fits kind_fault field_fault first_of
    clock_of contents_of board_bytes sound_beat sound_row is_zero sound_prefetch sound_previous sound_bytes sound
    sizes_fit ran explain grounds_verdict half_ground fetch_grounds first_ground data_grounds state_at answer_at digits
bench_writes = (refl, refl)

-- and of no sheet
pub bench_refuses : (bench_text [] ≡ codes "refused 1 at 0\n") × (bench_ending [] ≡ Refusal)
unfolding explain grounds_verdict digits
bench_refuses = (refl, refl)
