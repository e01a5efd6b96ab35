-- The least and the most that a beat, an access, a fetch and a step cost.
use Rattle.std.specs.Prelude.{Bool, true, false, ◌&&◌, List, [], ◌∷◌, ℕ, zero, suc, ◌*◌, ◌/◌, ◌%◌, ◌≤◌, length, get_or, T, leb, eqb}
use Rattle.std.proofs.Common.{arith, leb→le, lit≤}
use Rattle.std.specs.Prelude.{Option, Some, None}
use Rattle.model.specs.Base.{further}
use Rattle.model.specs.Region.{decode, page}
use Rattle.model.specs.Waitcnt.{Waits, n_waits, s_waits, rom_waits_of}
use Rattle.model.specs.Wait.{nonseq_if, rom_half_cycles, ewram_cycles, window}
use Rattle.model.specs.Prefetch.{hit, fetched}
use Rattle.model.specs.Price.{Beat, BufferBeat, RomBeat, EwramBeat, SramBeat, VideoBeat, FastBeat}
use Rattle.model.specs.Price.{beat_cycles, price, previous, access_of, first_kind_of, wide}
use Rattle.model.specs.declared.Previous.{Previous}
use Rattle.model.specs.Price.{data_beats_in, data_beats, data_cycles, block_cycles_of}
use Rattle.model.specs.Timing.{internal, code_size, half_beat, plain_beat, fetch_beats_in}
use Rattle.model.specs.Timing.{fetch_beats, idle_in, cart_idle_of, price_insn}
use Rattle.model.specs.Step.{waits_of, rom_hits, hits_in, code_hits, timed}
use Rattle.model.specs.Laws.Choice.{All}
use Rattle.model.proofs.Laws.Choice.{either, bit≤1}
use Rattle.model.specs.declared.Clock.{Clock}
use Rattle.model.specs.declared.PrefetchBuffer.{PrefetchBuffer}
use Rattle.model.specs.declared.Region.{Region}
use Rattle.model.specs.declared.Region.TheVariants.{Bios, UnusedLow, Ewram, Iwram, Io, Palette, Vram, Oam}
use Rattle.model.specs.declared.Region.TheVariants.{GamePakRomWs0, GamePakRomWs1, GamePakRomWs2, GamePakSram, UnusedHigh}
use Rattle.model.specs.declared.RomWindow.{RomWindow}
use Rattle.model.specs.declared.RomWindow.TheVariants.{Ws0, Ws1, Ws2}
use Rattle.model.specs.declared.AccessKind.{AccessKind}
use Rattle.model.specs.declared.AccessKind.TheVariants.{Nonseq, Seq}
use Rattle.model.specs.declared.AccessSize.{AccessSize}
use Rattle.model.specs.declared.AccessSize.TheVariants.{Byte, Half, Word}
use Rattle.model.specs.declared.IsaState.{IsaState}
use Rattle.model.specs.declared.IsaState.TheVariants.{Thumb, Arm}
use Rattle.model.specs.declared.Version.{Version}
use Rattle.model.specs.declared.Step.{Step}
use Rattle.model.specs.declared.Step.TheVariants.{Read, Write, Waitcnt, Idle, Fetch, Restart, Instruction, Pc, Latch}
use Rattle.model.specs.declared.Step.TheVariants.{BlockRead, BlockWrite}
use Rattle.model.specs.Laws.Bounds.{Between, all≤, SmallWaits, Regular, Beats, weight, Bounded}

-- ---- every wait is at most 8

and_left : (a b : Bool) → T (a && b) → T a
and_left true b t = tt
and_left false b t = absurd t

and_right : (a b : Bool) → T (a && b) → T b
and_right true b t = t
and_right false b t = absurd t

get_d≤ : (n : ℕ) (l : List ℕ) (i d : ℕ) → T (all≤ n l) → d ≤ n → get_or l i d ≤ n
get_d≤ n [] i d t h = h
get_d≤ n (x ∷ xs) zero d t h = leb→le x n (and_left (leb x n) (all≤ n xs) t)
get_d≤ n (x ∷ xs) (suc i) d t h = get_d≤ n xs i d (and_right (leb x n) (all≤ n xs) t) h

pub n_waits≤8 : (bits : ℕ) → n_waits bits ≤ 8
unfolding n_waits
n_waits≤8 bits = get_d≤ 8 (4 ∷ 3 ∷ 2 ∷ 8 ∷ []) (bits % 4) 0 tt (lit≤ tt)

pub s_waits≤8 : (slow bits : ℕ) → slow ≤ 8 → s_waits slow bits ≤ 8
unfolding s_waits
s_waits≤8 slow bits h = either (λ n. n ≤ 8) (eqb (bits % 2) 1) (lit≤ tt) h

-- so a beat costs 1 to 9
pub half_between : (w : ℕ) (win : RomWindow) (k : AccessKind) → Between 1 9 (rom_half_cycles (rom_waits_of w) win k)
unfolding rom_half_cycles rom_waits_of
half_between w Ws0 Nonseq = omega (arith, n_waits≤8 (w / 0x4))
half_between w Ws0 Seq = omega (arith, s_waits≤8 2 (w / 0x10) (lit≤ tt))
half_between w Ws1 Nonseq = omega (arith, n_waits≤8 (w / 0x20))
half_between w Ws1 Seq = omega (arith, s_waits≤8 4 (w / 0x80) (lit≤ tt))
half_between w Ws2 Nonseq = omega (arith, n_waits≤8 (w / 0x100))
half_between w Ws2 Seq = omega (arith, s_waits≤8 8 (w / 0x400) (lit≤ tt))

pub rom_waits_small : (w : ℕ) → SmallWaits (rom_waits_of w)
rom_waits_small w = record { small = λ win k. (half_between w win k).most }

-- ---- a beat costs 1 to 9, and an access or a fetch has one or two beats

ewram_between : (z : AccessSize) → Between 1 6 (ewram_cycles z)
ewram_between Byte = omega arith
ewram_between Half = omega arith
ewram_between Word = omega arith

beat_between : (t : Waits) → SmallWaits t → (b : Beat) → Regular b → Between 1 9 (beat_cycles t b)
unfolding rom_half_cycles
beat_between t small BufferBeat r = omega arith
beat_between t small (RomBeat win k) r = record { least = omega arith; most = small.small win k }
beat_between t small (EwramBeat z) r = omega (arith, ewram_between z)
beat_between t small (SramBeat waits) r = omega arith
beat_between t small VideoBeat r = omega arith
beat_between t small FastBeat r = omega arith

one_beat : (b : Beat) → Regular b → Beats (b ∷ [])
one_beat b r = record { some = omega arith; few = omega arith; regular = (r, tt) }

two_beats : (b c : Beat) → Regular b → Regular c → Beats (b ∷ c ∷ [])
two_beats b c r s = record { some = omega arith; few = omega arith; regular = (r, (s, tt)) }

sum_between : (t : Waits) → SmallWaits t → (bs : List Beat) → All Regular bs → Between (length bs) (9 * length bs) (price t bs)
sum_between t small [] r = omega arith
sum_between t small (b ∷ bs) r = omega (arith, beat_between t small b r.0, sum_between t small bs r.1)

price_between : (t : Waits) → SmallWaits t → (bs : List Beat) → Beats bs → Between 1 18 (price t bs)
price_between t small bs b = omega (arith, sum_between t small bs b.regular, b.some, b.few)

-- ---- the beats of a data access

wide_beats : (z : AccessSize) (b c : Beat) → Regular b → Regular c → Beats (wide z b c)
wide_beats Byte b c r s = one_beat b r
wide_beats Half b c r s = one_beat b r
wide_beats Word b c r s = two_beats b c r s

beats_in : (sram : ℕ) → sram ≤ 8 → (z : AccessSize) (k : AccessKind) (r : Region) → Beats (data_beats_in sram z k r)
beats_in sram h z k Bios = one_beat FastBeat tt
beats_in sram h z k UnusedLow = one_beat FastBeat tt
beats_in sram h z k Ewram = wide_beats z (EwramBeat Half) (EwramBeat Half) tt tt
beats_in sram h z k Iwram = one_beat FastBeat tt
beats_in sram h z k Io = one_beat FastBeat tt
beats_in sram h z k Palette = wide_beats z VideoBeat VideoBeat tt tt
beats_in sram h z k Vram = wide_beats z VideoBeat VideoBeat tt tt
beats_in sram h z k Oam = one_beat FastBeat tt
beats_in sram h z k GamePakRomWs0 = wide_beats z (RomBeat Ws0 k) (RomBeat Ws0 Seq) tt tt
beats_in sram h z k GamePakRomWs1 = wide_beats z (RomBeat Ws1 k) (RomBeat Ws1 Seq) tt tt
beats_in sram h z k GamePakRomWs2 = wide_beats z (RomBeat Ws2 k) (RomBeat Ws2 Seq) tt tt
beats_in sram h z k GamePakSram = one_beat (SramBeat sram) h
beats_in sram h z k UnusedHigh = one_beat FastBeat tt

pub data_beats_law : (w : ℕ) (p : Previous) (z : AccessSize) (a : ℕ) → Beats (data_beats w p z a)
unfolding data_beats
data_beats_law w p z a = beats_in (n_waits w) (n_waits≤8 w) z (first_kind_of p z a) (decode a)

pub data_between : (w : ℕ) (p : Previous) (z : AccessSize) (a : ℕ) → Between 1 18 (data_cycles w p z a)
data_between w p z a = price_between (rom_waits_of w) (rom_waits_small w) (data_beats w p z a) (data_beats_law w p z a)

-- ---- the beats of a fetch

half_regular : (p : PrefetchBuffer) (a : ℕ) (win : RomWindow) (k : AccessKind) → Regular (half_beat p a win k)
unfolding half_beat
half_regular p a win k = either Regular (hit p a) tt tt

plain_regular : (a : ℕ) (isa : IsaState) → Regular (plain_beat a isa)
unfolding plain_beat
plain_regular a isa = either Regular (eqb (page a) 0x02) tt tt

pub fetch_beats_in_law : (p : PrefetchBuffer) (a : ℕ) (k : AccessKind) (isa : IsaState) (v : Option RomWindow)
    → Beats (fetch_beats_in p a k isa v)
fetch_beats_in_law p a k Thumb (Some win) = one_beat (half_beat p a win k) (half_regular p a win k)
fetch_beats_in_law p a k Arm (Some win) =
    two_beats (half_beat p a win k) (half_beat p (further 2 a) win Seq)
    (half_regular p a win k) (half_regular p (further 2 a) win Seq)
fetch_beats_in_law p a k isa None = one_beat (plain_beat a isa) (plain_regular a isa)

pub fetch_between : (t : Waits) → SmallWaits t → (p : PrefetchBuffer) (a : ℕ) (k : AccessKind) (isa : IsaState)
    (v : Option RomWindow)
    → Between 1 18 (price t (fetch_beats_in p a k isa v))
fetch_between t small p a k isa v = price_between t small (fetch_beats_in p a k isa v) (fetch_beats_in_law p a k isa v)

-- an instruction leaves the cartridge bus idle for at most 7 cycles

pub plain≤6 : (t : Waits) (a : ℕ) (isa : IsaState) → beat_cycles t (plain_beat a isa) ≤ 6
unfolding plain_beat
plain≤6 t a isa =
    either (λ (b : Beat). beat_cycles t b ≤ 6) (eqb (page a) 0x02) (omega (arith, ewram_between (code_size isa))) (omega arith)

pub idle_in≤6 : (t : Waits) (a : ℕ) (isa : IsaState) (v : Option RomWindow) → idle_in t a isa v ≤ 6
idle_in≤6 t a isa (Some win) = omega arith
idle_in≤6 t a isa None = plain≤6 t a isa

pub cart_idle≤7 : (t : Waits) (v : Version) (isa : IsaState) (a raw : ℕ) → cart_idle_of t v isa a raw ≤ 7
unfolding cart_idle_of
cart_idle≤7 t v isa a raw = omega (arith, idle_in≤6 t a isa (window a), bit≤1 (internal v isa raw))

-- ---- a block: each of its words costs what an access does

pub block_between : (w : ℕ) (p : Previous) (a n : ℕ) → Between n (18 * n) (block_cycles_of w p a n)
block_between w p a zero = omega arith
block_between w p a (suc n) = omega (arith, data_between w p Word a, block_between w (access_of Word a) (further 4 a) n)

-- ---- every step: its cycles, its hits and its idle cycles

rom_hits≤2 : (p : PrefetchBuffer) (a : ℕ) (isa : IsaState) → rom_hits p a isa ≤ 2
rom_hits≤2 p a Thumb = omega (arith, bit≤1 (hit p a))
rom_hits≤2 p a Arm = omega (arith, bit≤1 (hit p a), bit≤1 (hit (fetched p a) (further 2 a)))

hits_in≤2 : (p : PrefetchBuffer) (a : ℕ) (isa : IsaState) (v : Option RomWindow) → hits_in p a isa v ≤ 2
hits_in≤2 p a isa (Some win) = rom_hits≤2 p a isa
hits_in≤2 p a isa None = omega arith

pub step_bounded : (c : Clock) (x : Step) → Bounded (weight x) (timed c x)
unfolding price_insn fetch_beats code_hits
step_bounded c (Read z a) = omega (arith, data_between c.waitcnt (previous c) z a)
step_bounded c (Write z a v) = omega (arith, data_between c.waitcnt (previous c) z a)
step_bounded c (Waitcnt v) = omega arith
step_bounded c (Idle n) = omega arith
step_bounded c (Fetch a) = omega (arith, bit≤1 (hit c.prefetch a))
step_bounded c (Restart a) = omega arith
step_bounded c (Instruction v isa a op jump) =
    let f =
    fetch_between (waits_of c) (rom_waits_small c.waitcnt) c.prefetch a (nonseq_if c.force_next_fetch_n) isa (window a) in
    omega (arith, bit≤1 (internal v isa op), hits_in≤2 c.prefetch a isa (window a))
step_bounded c (Pc a) = omega arith
step_bounded c (Latch v) = omega arith
step_bounded c (BlockRead a n) = omega (arith, block_between c.waitcnt (previous c) a n)
step_bounded c (BlockWrite a n) = omega (arith, block_between c.waitcnt (previous c) a n)
