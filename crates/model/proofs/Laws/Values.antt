-- Bytes stay bytes: over memories of bytes every load fits its size, every byte that lands is one, and every halfword that
-- the prefetch brings in has 16 bits. So each value that a run answers fits its field.
use Rattle.std.specs.Prelude.{◌≡◌, refl, Bool, List, [], ◌∷◌, ◌++◌, ℕ, zero, suc, ◌+◌, ◌*◌, ◌/◌, ◌%◌, ◌^◌, ◌<◌, get_or, set, eqb, ltb}
use native.Mathlib.Omega.{arith}
use Rattle.model.specs.Base.{further, lowered, byte_of, AllBytes}
use Rattle.model.specs.Region.{bios_size}
use Rattle.model.specs.Mirror.{rom_offset}
use Rattle.model.specs.Waitcnt.{Waits}
use Rattle.model.specs.Wait.{size_bytes_of}
use Rattle.model.specs.Prefetch.{tick1, arrives, slot, filled, hit}
use Rattle.model.specs.Timing.{price_insn}
use Rattle.model.specs.Video.{fills}
use Rattle.model.specs.Memory.{byte_in, target, is_sram}
use Rattle.model.specs.Load.{Bus, sram_byte, bios_byte, byte_from, load8, load16, load32, load, last_word_of}
use Rattle.model.specs.Store.{Put, landed, put, put_bytes, video_puts, puts_at, puts}
use Rattle.model.specs.Step.{Media, State, bus_of, waits_of, half_at, counted_in, counted_at}
use Rattle.model.specs.Step.{count_store, turns_in, Timed, timed, changed, stepped}
use Rattle.model.specs.Step.{stores, block_stores}
use Rattle.model.specs.Laws.Choice.{All}
use Rattle.model.proofs.Laws.Choice.{either}
use Rattle.model.proofs.Laws.Bounds.{cart_idle≤7}
use Rattle.model.proofs.Laws.Landed.{four_land, block_land}
use Rattle.model.specs.declared.PrefetchBuffer.{PrefetchBuffer}
use Rattle.model.specs.declared.Contents.{Contents}
use Rattle.model.specs.declared.VideoMemory.{VideoMemory}
use Rattle.model.specs.declared.VideoMemory.TheVariants.{PaletteRam, VideoRam, ObjectRam}
use Rattle.model.specs.declared.AccessSize.{AccessSize}
use Rattle.model.specs.declared.AccessSize.TheVariants.{Byte, Half, Word}
use Rattle.model.specs.declared.Lengths.{Lengths}
use Rattle.model.specs.declared.Part.{Part}
use Rattle.model.specs.declared.Target.{Target}
use Rattle.model.specs.declared.Target.TheVariants.{Unused, SystemRom, GamePakRom, Plain, Video, Sram}
use Rattle.model.specs.declared.Step.{Step}
use Rattle.model.specs.declared.Step.TheVariants.{Read, Write, Waitcnt, Idle, Fetch, Restart, Instruction, Pc, Latch}
use Rattle.model.specs.declared.Step.TheVariants.{BlockRead, BlockWrite}
use Rattle.model.specs.Laws.Values.{BusBytes, PutByte, MediaBytes, Held, SmallLatch, Fitting}

-- ---- loads

byte_in_fits : (s : List ℕ) → AllBytes s → (p : Part) (i : ℕ) → byte_in s p i < 256
unfolding byte_in
byte_in_fits s h p i = either (λ (n : ℕ). n < 256) (ltb i p.size) (h (p.base + i)) (omega arith)

byte_from_fits : (b : Bus) → BusBytes b → (a : ℕ) (t : Target) → byte_from b a t < 256
unfolding bios_byte sram_byte
byte_from_fits b h a Unused = omega arith
byte_from_fits b h a SystemRom = either (λ (n : ℕ). n < 256) (ltb b.pc bios_size) (h.bios a) (omega arith)
byte_from_fits b h a GamePakRom = h.rom (rom_offset a)
byte_from_fits b h a (Plain p i) = byte_in_fits b.store h.store p i
byte_from_fits b h a (Video m p i) = byte_in_fits b.store h.store p i
byte_from_fits b h a (Sram p i) =
    either (λ (n : ℕ). n < 256) (eqb p.size 0) (omega arith) (byte_in_fits b.store h.store p (i % p.size))

module _ (l : Lengths) (b : Bus) (h : BusBytes b) where
  load8_fits : (a : ℕ) → load8 l b a < 256
  unfolding load8
  load8_fits a = byte_from_fits b h a (target l a)

  pub load16_fits : (a : ℕ) → load16 l b a < 0x1_0000
  unfolding load16
  load16_fits a =
      either (λ (n : ℕ). n < 0x1_0000) (is_sram (target l a)) (omega (arith, load8_fits a))
      (omega (arith, load8_fits a, load8_fits (further 1 a)))

  load32_fits : (a : ℕ) → load32 l b a < 2 ^ 32
  unfolding load32
  load32_fits a =
      either (λ (n : ℕ). n < 2 ^ 32) (is_sram (target l a)) (omega (arith, load8_fits a))
      (omega (arith, load16_fits a, load16_fits (further 2 a)))

  pub load_fits : (z : AccessSize) (a : ℕ) → load l b z a < 2 ^ 32
  load_fits Byte a = omega (arith, load8_fits a)
  load_fits Half a = omega (arith, load16_fits a)
  load_fits Word a = load32_fits a

-- ---- stores

-- numbers below n stay so when one of them is set
set_below : (n : ℕ) (s : List ℕ) (i v : ℕ) → v < n → ((j : ℕ) → get_or s j 0 < n) → (j : ℕ) → get_or (set s i v) j 0 < n
set_below n [] i v h k j = k j
set_below n (x ∷ xs) zero v h k zero = h
set_below n (x ∷ xs) zero v h k (suc j) = k (suc j)
set_below n (x ∷ xs) (suc i) v h k zero = k 0
set_below n (x ∷ xs) (suc i) v h k (suc j) = set_below n xs i v h (λ m. k (suc m)) j

landed_bytes : (s : List ℕ) (ps : List Put) → AllBytes s → All PutByte ps → AllBytes (landed s ps)
landed_bytes s [] h b = h
landed_bytes s (p ∷ ps) h b = landed_bytes (set s p.place p.byte) ps (set_below 256 s p.place p.byte b.0 h) b.1

all_append : (ps qs : List Put) → All PutByte ps → All PutByte qs → All PutByte (ps ++ qs)
all_append [] qs h k = k
all_append (p ∷ ps) qs h k = (h.0, all_append ps qs h.1 k)

put_byte : (p : Part) (i v : ℕ) → v < 256 → All PutByte (put p i v)
unfolding put
put_byte p i v h = either (λ (ps : List Put). All PutByte ps) (ltb i p.size) (h, tt) tt

put_bytes_law : (p : Part) (i n v : ℕ) → All PutByte (put_bytes p i n v)
put_bytes_law p i zero v = tt
put_bytes_law p i (suc n) v =
    all_append (put p i (v % 256)) (put_bytes p (i + 1) n (v / 256))
    (put_byte p i (v % 256) (omega arith)) (put_bytes_law p (i + 1) n (v / 256))

video_bytes : (f : Bool) (z : AccessSize) (p : Part) (i v : ℕ) → All PutByte (video_puts f z p i v)
video_bytes f Byte p i v = either (λ (ps : List Put). All PutByte ps) f (put_bytes_law p (lowered 2 i) 2 (0x0101 * (v % 256))) tt
video_bytes f Half p i v = put_bytes_law p (lowered 2 i) 2 v
video_bytes f Word p i v = put_bytes_law p (lowered 4 i) 4 v

puts_in : (mode : ℕ) (z : AccessSize) (a v : ℕ) (t : Target) → All PutByte (puts_at mode z a v t)
puts_in mode z a v Unused = tt
puts_in mode z a v SystemRom = tt
puts_in mode z a v GamePakRom = tt
puts_in mode z a v (Plain p i) = put_bytes_law p (lowered (size_bytes_of z) i) (size_bytes_of z) v
puts_in mode z a v (Video m p i) = video_bytes (fills mode m i) z p i v
puts_in mode z a v (Sram p i) = put_byte p _ (byte_of (a % size_bytes_of z) v) (omega arith)

puts_bytes : (l : Lengths) (mode : ℕ) (z : AccessSize) (a v : ℕ) → All PutByte (puts l mode z a v)
unfolding puts
puts_bytes l mode z a v = puts_in mode z a v (target l a)

-- ---- the halfwords

filled_below : (read : ℕ → ℕ) (t : Waits) → ((a : ℕ) → read a < 0x1_0000) → (n : ℕ) (p : PrefetchBuffer) (h : List ℕ)
    → ((j : ℕ) → get_or h j 0 < 0x1_0000) → (j : ℕ) → get_or (filled read t n p h) j 0 < 0x1_0000
unfolding filled
filled_below read t r zero p h k = k
filled_below read t r (suc n) p h k =
    filled_below read t r n (tick1 t p) _
    (either (λ (x : List ℕ). (j : ℕ) → get_or x j 0 < 0x1_0000) (arrives t p)
    (set_below 0x1_0000 h (slot p) (read p.next_addr) (r _) k) k)

-- ---- a step

count_latch : (t : Target) (n : ℕ) (d : Contents) → (counted_at t n d).last_bios_opcode ≡ d.last_bios_opcode
count_latch Unused n d = refl
count_latch SystemRom n d = refl
count_latch GamePakRom n d = refl
count_latch (Plain p i) n d = refl
count_latch (Video m p i) n d = in_video m
  where
    in_video : (m : VideoMemory) → (counted_in m n d).last_bios_opcode ≡ d.last_bios_opcode
    in_video PaletteRam = refl
    in_video VideoRam = refl
    in_video ObjectRam = refl
count_latch (Sram p i) n d = refl

module _ (l : Lengths) where
  store_fits : (d : Contents) (s : List ℕ) → d.last_bios_opcode < 2 ^ 32 → (z : AccessSize) (a v : ℕ)
      → Fitting 1 (stores l d s z a v)
  unfolding count_store
  store_fits d s h z a v =
      record {
        value = omega arith;
        latch = rw (count_latch (target l a)) h;
        puts = puts_bytes l _ z a v;
        few = four_land l _ z a v;
      }

  -- each word of a block by itself
  block_fits : (d : Contents) (s : List ℕ) → d.last_bios_opcode < 2 ^ 32 → (a n : ℕ) → Fitting n (block_stores l d s a n)
  block_fits d s h a zero = record { value = omega arith; latch = h; puts = tt; few = omega arith }
  block_fits d s h a (suc n) =
      let word = stores l d s Word a 0 in
      let fits : Fitting 1 word = store_fits d s h Word a 0 in
      let rest = block_fits word.contents (landed s word.puts) fits.latch (further 4 a) n in
      record {
        value = omega arith;
        latch = rest.latch;
        puts = all_append word.puts _ fits.puts rest.puts;
        few = block_land l d s a (suc n);
      }

  last_fits : (b : Bus) → BusBytes b → (v a n : ℕ) → v < 2 ^ 32 → last_word_of l b v a n < 2 ^ 32
  last_fits b h v a zero k = k
  last_fits b h v a (suc n) k = last_fits b h (load l b Word a) (further 4 a) n (load_fits l b h Word a)

module _ (m : Media) (b : MediaBytes m) (s : State) (h : Held s) where
  bus_bytes : BusBytes (bus_of m s)
  bus_bytes = record { bios = b.bios; rom = b.rom; store = h.store }

  answering_fits : (n v : ℕ) → v < 2 ^ 32 → Fitting n (record { value = v; contents = s.board.contents; puts = [] })
  answering_fits n v k = record { value = k; latch = h.latch; puts = tt; few = omega arith }

  half_fits : (a : ℕ) → half_at s.board a < 2 ^ 32
  unfolding half_at
  half_fits a =
      either (λ (n : ℕ). n < 2 ^ 32) (hit s.board.clock.prefetch a)
      (omega (arith, h.halves s.board.clock.prefetch.head)) (omega arith)

  pub changed_fits : (x : Step) → SmallLatch x → Fitting (turns_in x) (changed m s x)
  unfolding price_insn
  changed_fits (Read z a) k = answering_fits 1 _ (load_fits m.lengths (bus_of m s) bus_bytes z a)
  changed_fits (Write z a v) k = store_fits m.lengths s.board.contents s.store h.latch z a v
  changed_fits (Waitcnt v) k = answering_fits 0 0 (omega arith)
  changed_fits (Idle n) k = answering_fits 0 0 (omega arith)
  changed_fits (Fetch a) k = answering_fits 0 _ (half_fits a)
  changed_fits (Restart a) k = answering_fits 0 0 (omega arith)
  changed_fits (Instruction v isa a op jump) k =
      answering_fits 1 _ (omega (arith, cart_idle≤7 (waits_of s.board.clock) v isa a op))
  changed_fits (Pc a) k = record { value = omega arith; latch = h.latch; puts = tt; few = omega arith }
  changed_fits (Latch v) k = record { value = omega arith; latch = k v refl; puts = tt; few = omega arith }
  changed_fits (BlockRead a n) k = answering_fits n _ (last_fits m.lengths (bus_of m s) bus_bytes 0 a n (omega arith))
  changed_fits (BlockWrite a n) k = block_fits m.lengths s.board.contents s.store h.latch a n

  pub stepped_held : (x : Step) → SmallLatch x → Held (stepped m s x)
  stepped_held x k =
      let f = changed_fits x k in
      let t : Timed = timed s.board.clock x in
      record {
        store = landed_bytes s.store (changed m s x).puts h.store f.puts;
        halves = filled_below _ (waits_of t.clock) (load16_fits m.lengths (bus_of m s) bus_bytes)
            t.idle t.clock.prefetch s.board.halves h.halves;
        latch = f.latch;
      }
