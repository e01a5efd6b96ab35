-- A board as 80 bytes, when such bytes are sound, and an answer as 12.
-- From docs/RULES.md, "The board", "A sound board" and "The answer". A board is the state that a run starts from and leaves; its
-- fields are the Rust's, but for the previous access, from byte 68 on.
use Rattle.std.specs.Prelude.{Bool, false, not, ◌&&◌, ◌||◌, List, [], ◌∷◌, ◌++◌, ℕ, ◌+◌, ◌-◌, ◌*◌, ◌/◌, ◌%◌, length, replicate, eqb, leb}
use Rattle.std.specs.Prelude.{if◌then◌else◌}
use Rattle.model.specs.Base.{bit, same, byte_at, number, numbers_from, Field, field, encoded, numbers_bytes}
use Rattle.model.specs.Base.{blocks}
use Rattle.model.specs.Waitcnt.{prefetch_enable}
use Rattle.model.specs.Wait.{in_window}
use Rattle.model.specs.Prefetch.{new_buffer}
use Rattle.model.specs.Price.{previously, previous, no_access}
use Rattle.model.specs.declared.PrefetchBuffer.{PrefetchBuffer}
use Rattle.model.specs.declared.Clock.{Clock}
use Rattle.model.specs.declared.Previous.{Previous}
use Rattle.model.specs.declared.Contents.{Contents}
use Rattle.model.specs.declared.Board.{Board}
use Rattle.model.specs.declared.Answer.{Answer}

abbrev pub board_length : ℕ
board_length = 80

abbrev pub answer_length : ℕ
answer_length = 12

-- ---- from bytes

abbrev pub prefetch_of : List ℕ → Bool → PrefetchBuffer
prefetch_of b on =
    record {
      head = byte_at b 3;
      count = byte_at b 4;
      next_addr = number 4 b 12;
      wait_left = number 4 b 8;
      head_addr = number 4 b 16;
      enabled = on;
      filling = eqb (byte_at b 5) 1;
      first_beat = eqb (byte_at b 6) 1;
    }

-- the prefetch switch follows from WAITCNT
unfoldable pub clock_of : List ℕ → Clock
clock_of b =
    record {
      waitcnt = number 2 b 0;
      force_next_fetch_n = eqb (byte_at b 2) 1;
      prefetch = prefetch_of b (prefetch_enable (number 2 b 0));
      previous = previously (number 4 b 68) (byte_at b 72);
    }

-- n halfwords from place i on
abbrev pub halves_from : List ℕ → ℕ → ℕ → List ℕ
halves_from b i n = numbers_from 2 b i n

unfoldable pub contents_of : List ℕ → Contents
contents_of b =
    record {
      cpu_pc = number 4 b 36;
      last_bios_opcode = number 4 b 40;
      vram_write_count = number 8 b 44;
      oam_write_count = number 8 b 52;
      palette_write_count = number 8 b 60;
    }

-- the board that 80 bytes are (RULES, "The board")
abbrev pub board_of : List ℕ → Board
board_of b = record { clock = clock_of b; halves = halves_from b 20 8; contents = contents_of b }

-- ---- to bytes

-- bytes 0 to 7
abbrev pub flag_fields : Clock → List Field
flag_fields c =
    field 2 c.waitcnt
    ∷ field 1 (bit c.force_next_fetch_n)
    ∷ field 1 c.prefetch.head
    ∷ field 1 c.prefetch.count
    ∷ field 1 (bit c.prefetch.filling)
    ∷ field 1 (bit c.prefetch.first_beat)
    ∷ field 1 0
    ∷ []

-- bytes 8 to 19
abbrev pub word_fields : PrefetchBuffer → List Field
word_fields p = field 4 p.wait_left ∷ field 4 p.next_addr ∷ field 4 p.head_addr ∷ []

abbrev pub clock_fields : Clock → List Field
clock_fields c = flag_fields c ++ word_fields c.prefetch

-- bytes 36 to 67
abbrev pub contents_fields : Contents → List Field
contents_fields d =
    field 4 d.cpu_pc
    ∷ field 4 d.last_bios_opcode
    ∷ field 8 d.vram_write_count
    ∷ field 8 d.oam_write_count
    ∷ field 8 d.palette_write_count
    ∷ []

-- bytes 68 to 79
abbrev pub previous_fields : Previous → List Field
previous_fields p = field 4 p.addr ∷ field 1 p.size ∷ field 7 0 ∷ []

-- its 80 bytes (RULES, "The board")
unfoldable pub board_bytes : Board → List ℕ
board_bytes b =
    encoded (clock_fields b.clock)
    ++ (numbers_bytes 2 b.halves ++ encoded (contents_fields b.contents ++ previous_fields (previous b.clock)))

-- ---- the board whose bytes are all zero

-- the board that those bytes are (RULES, "The board")
abbrev pub fresh_board : Board
fresh_board =
    record {
      clock =
          record { waitcnt = 0; force_next_fetch_n = false; prefetch = new_buffer; previous = no_access };
      halves = replicate 8 0;
      contents =
          record {
            cpu_pc = 0;
            last_bios_opcode = 0;
            vram_write_count = 0;
            oam_write_count = 0;
            palette_write_count = 0;
          };
    }

-- ---- a sound board

-- filling is 1 exactly when wait left is at least 1; then there is room, and next address lies in a ROM window
unfoldable pub sound_beat : PrefetchBuffer → Bool
sound_beat p =
    same p.filling (leb 1 p.wait_left) && (not p.filling || (leb p.count 7 && in_window p.next_addr))

-- the halfwords that stand run from head address to next address
unfoldable pub sound_row : PrefetchBuffer → Bool
sound_row p =
    if eqb p.count 0 then eqb p.head_addr 0
    else in_window p.head_addr && in_window (p.next_addr - 2) && eqb (p.head_addr + 2 * p.count) p.next_addr

-- with prefetch off, bytes 3-6 and 8-19 are 0
unfoldable pub is_zero : PrefetchBuffer → Bool
is_zero p =
    eqb p.head 0 && eqb p.count 0 && not p.filling && not p.first_beat
    && eqb p.wait_left 0 && eqb p.next_addr 0 && eqb p.head_addr 0

-- the bounds of its fields, and what the three above say (RULES, "A sound board")
unfoldable pub sound_prefetch : PrefetchBuffer → Bool
sound_prefetch p =
    leb p.head 7 && leb p.count 8 && leb p.wait_left 9 && eqb (p.next_addr % 2) 0
    && sound_beat p && sound_row p && (p.enabled || is_zero p)

-- the previous data access: with size 0 its address is 0; otherwise its size is 1, 2 or 4, and its address a multiple of that
-- (RULES, "A sound board")
unfoldable pub sound_previous : Previous → Bool
sound_previous p =
    if eqb p.size 0 then eqb p.addr 0
    else (eqb p.size 1 || eqb p.size 2 || eqb p.size 4) && eqb (p.addr % p.size) 0

-- zero bytes are zero, flags are 0 or 1, WAITCNT bit 13 is clear
unfoldable pub sound_bytes : List ℕ → Bool
sound_bytes b =
    eqb (byte_at b 7) 0 && eqb (number 7 b 73) 0 && leb (byte_at b 2) 1 && leb (byte_at b 5) 1 && leb (byte_at b 6) 1
    && eqb (number 2 b 0 / 0x2000 % 2) 0

-- the whole: 80 bytes, and each part of them sound (RULES, "A sound board")
unfoldable pub sound : List ℕ → Bool
sound b =
    eqb (length b) board_length && sound_bytes b && sound_prefetch (clock_of b).prefetch && sound_previous (previous (clock_of b))

-- ---- answers

-- the 12 bytes, field by field (RULES, "The answer")
abbrev pub answer_fields : Answer → List Field
answer_fields x =
    field 4 x.value
    ∷ field 4 x.cycles
    ∷ field 1 x.hits
    ∷ field 1 x.count
    ∷ field 1 (bit x.force)
    ∷ field 1 0
    ∷ []

abbrev pub answer_bytes : Answer → List ℕ
answer_bytes x = encoded (answer_fields x)

abbrev pub answers_bytes : List Answer → List ℕ
answers_bytes xs = blocks answer_bytes xs
