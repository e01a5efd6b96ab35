-- The head of a recorded case: 17 numbers of four bytes, of which six are the lengths of what is lent, seven those of the
-- memories, then the seed, the length of the second buffer, the operation and the rate. From tests/against-rust/README.md, "The
-- sample". Assumes nothing.
use Rattle.std.specs.Prelude.{Bool, ◌&&◌, List, ℕ, ◌*◌, leb, eqb, if◌then◌else◌}
use Rattle.model.specs.Base.{number}
use Rattle.model.specs.declared.Lengths.{Lengths}
use Rattle.replay.specs.declared.head.Asked.{Asked}
use Rattle.replay.specs.declared.head.Head.{Head}
use Rattle.replay.specs.declared.head.BufferLengths.{BufferLengths}
use Rattle.replay.specs.declared.head.Operation.{Operation}
use Rattle.replay.specs.declared.head.Operation.TheVariants.{Run, RunTariff, Preview, RunGrounds}

abbrev pub head_number : List ℕ → ℕ → ℕ
head_number b k = number 4 b (4 * k)

abbrev pub head_buffers : List ℕ → BufferLengths
head_buffers b =
    record {
      sheet = head_number b 0;
      board = head_number b 1;
      store = head_number b 2;
      bios = head_number b 3;
      rom = head_number b 4;
      answers = head_number b 5;
      second = head_number b 14;
    }

-- a case lends at most so much
abbrev pub buffers_fit : BufferLengths → Bool
buffers_fit x =
    leb x.sheet 49172 && leb x.board 144 && leb x.store 462853 && leb x.bios 16385 && leb x.rom 131136 && leb x.answers 49164
    && leb x.second 131104

abbrev pub head_fits : List ℕ → Bool
head_fits b = buffers_fit (head_buffers b)

abbrev pub head_lengths : List ℕ → Lengths
head_lengths b =
    record {
      ewram = head_number b 6;
      iwram = head_number b 7;
      io = head_number b 8;
      palette = head_number b 9;
      vram = head_number b 10;
      oam = head_number b 11;
      sram = head_number b 12;
    }

-- the numbers of a run under a tariff, of a preview and of a run with grounds; any other is that of a run without either
abbrev pub operation_of : ℕ → Operation
operation_of n = if eqb n 1 then RunTariff else if eqb n 2 then Preview else if eqb n 3 then RunGrounds else Run

abbrev pub head_asked : List ℕ → Asked
head_asked b = record { seed = head_number b 13; operation = operation_of (head_number b 15); rate = head_number b 16 }

-- all of it
abbrev pub head_of : List ℕ → Head
head_of b = record { buffers = head_buffers b; memories = head_lengths b; asked = head_asked b }
