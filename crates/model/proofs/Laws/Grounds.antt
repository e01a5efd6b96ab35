-- The grounds of a step: a byte says which ground it is; each is named exactly when its condition decides the beat; their cycles
-- and the internal cycle make the step's cycles; and an access or a fetch has at most two, so that 32 bytes hold a step's.
use Rattle.std.specs.Prelude.{◌≡◌, refl, Bool, true, false, List, [], ◌∷◌, ◌++◌, map, ℕ, zero, suc, ◌+◌, ◌-◌, ◌*◌, ◌≤◌, ◌<◌, length, eqb, ltb}
use Rattle.std.proofs.Common.{sym, ap, ap₂, ◌∙◌, true≢false, arith, length-append, eqb-true, eq-eqb}
use Rattle.std.proofs.lemmas.Bool.{false≢true}
use Rattle.std.proofs.lemmas.List.{length-map}
use Rattle.std.specs.Prelude.{if◌then◌else◌}
use Rattle.std.specs.Prelude.{Option, Some, None}
use Rattle.model.specs.Base.{bit, same, sum, further, Exactly}
use Rattle.model.specs.Region.{page, decode, bios_size}
use Rattle.model.specs.Waitcnt.{Waits, rom_waits_of, sram_waits}
use Rattle.model.specs.Wait.{aligned, nonseq_if, window, force_nonseq, kind_at, rom_half_cycles}
use Rattle.model.specs.Prefetch.{hit}
use Rattle.model.specs.Price.{Beat, RomBeat, EwramBeat, VideoBeat, beat_cycles, price}
use Rattle.model.specs.Price.{previous, access_of, kind_after, wide}
use Rattle.model.specs.declared.Previous.{Previous}
use Rattle.model.specs.Price.{BusKind, OnEwram, OnVideo, OnRom, OnSram, OnFast, bus_kind}
use Rattle.model.specs.Price.{data_beats_on, data_beats, data_cycles, block_cycles_of}
use Rattle.model.specs.Timing.{internal, code_size, half_beat, plain_beat, fetch_beats_in, fetch_beats, price_insn}
use Rattle.model.specs.Step.{turns_in, timed}
use Rattle.model.specs.Grounds.{ground_byte, ground_cycles, half_ground, plain_ground, fetch_grounds_in, fetch_grounds}
use Rattle.model.specs.Grounds.{kind_ground, first_ground, data_grounds_on, data_grounds, block_grounds, grounds}
use Rattle.model.specs.Grounds.{data_worths, block_worths, worths, internal_cycle, word_beats, block_condition, grounds_length}
use Rattle.model.specs.Grounds.{is_priced, same_ground, half_condition, first_condition, plain_condition, wide_condition}
use Rattle.model.specs.Grounds.{fetch_condition_in, data_condition_on, data_condition, condition, beat_at, beat_ground}
use Rattle.model.proofs.Laws.Choice.{choose, choose₂, either, tests, parts}
use Rattle.model.specs.Laws.Bounds.{Short}
use Rattle.model.specs.declared.Ground.{Ground}
use Rattle.model.specs.declared.Ground.TheVariants.{BufferHit, Sequential, ByFlag, ByBlock, ByAddress}
use Rattle.model.specs.declared.Ground.TheVariants.{EwramBus, SramBus, VideoBus, Fast}
use Rattle.model.specs.declared.Clock.{Clock}
use Rattle.model.specs.declared.PrefetchBuffer.{PrefetchBuffer}
use Rattle.model.specs.declared.Region.{Region}
use Rattle.model.specs.declared.RomWindow.{RomWindow}
use Rattle.model.specs.declared.AccessKind.{AccessKind}
use Rattle.model.specs.declared.AccessKind.TheVariants.{Nonseq, Seq}
use Rattle.model.specs.declared.AccessSize.{AccessSize}
use Rattle.model.specs.declared.AccessSize.TheVariants.{Byte, Half, Word}
use Rattle.model.specs.declared.IsaState.{IsaState}
use Rattle.model.specs.declared.IsaState.TheVariants.{Arm, Thumb}
use Rattle.model.specs.declared.Step.{Step}
use Rattle.model.specs.declared.Step.TheVariants.{Read, Write, Waitcnt, Idle, Fetch, Restart, Instruction, Pc, Latch}
use Rattle.model.specs.declared.Step.TheVariants.{BlockRead, BlockWrite}
use Rattle.model.specs.Laws.Grounds.{is_beat, every_ground, bus_window, Few}

-- ---- a byte says which ground it is

pub byte_back : (g : Ground) → beat_ground (ground_byte g) ≡ Some g
unfolding beat_ground
byte_back BufferHit = refl
byte_back Sequential = refl
byte_back ByFlag = refl
byte_back ByBlock = refl
byte_back ByAddress = refl
byte_back EwramBus = refl
byte_back SramBus = refl
byte_back VideoBus = refl
byte_back Fast = refl

-- so two grounds with one byte are one
pub one_byte : (g h : Ground) → ground_byte g ≡ ground_byte h → g ≡ h
one_byte g h e = by_ground (sym (byte_back g) ∙ ap beat_ground e ∙ byte_back h)
  where
    by_ground : Some g ≡ Some h → g ≡ h
    by_ground d = cc

-- ---- each is named exactly when its condition decides the beat

each_ground : (t : Ground → Bool) → every_ground t ≡ true → (g : Ground) → t g ≡ true
each_ground t e BufferHit = search parts
each_ground t e Sequential = search parts
each_ground t e ByFlag = search parts
each_ground t e ByBlock = search parts
each_ground t e ByAddress = search parts
each_ground t e EwramBus = search parts
each_ground t e SramBus = search parts
each_ground t e VideoBus = search parts
each_ground t e Fast = search parts

same_true : (a b : Bool) → same a b ≡ true → a ≡ b
same_true true true e = refl
same_true true false e = absurd (false≢true e)
same_true false true e = absurd (false≢true e)
same_true false false e = refl

-- a ground whose condition is computed for all nine
computed : (h : Ground) (t : Ground → Bool) → every_ground (λ (g : Ground). same (same_ground h g) (t g)) ≡ true
    → (g : Ground) → same_ground h g ≡ t g
computed h t e g = same_true (same_ground h g) (t g) (each_ground (λ (i : Ground). same (same_ground h i) (t i)) e g)

half_test : (hits block forced : Bool) (g : Ground)
    → same_ground (if hits then BufferHit else if block then ByBlock else if forced then ByFlag else Sequential) g
    ≡ half_condition hits block forced g
half_test true block forced = computed BufferHit (half_condition true block forced) refl
half_test false true forced = computed ByBlock (half_condition false true forced) refl
half_test false false true = computed ByFlag (half_condition false false true) refl
half_test false false false = computed Sequential (half_condition false false false) refl

first_test : (block : Bool) (k : AccessKind) (g : Ground)
    → same_ground (if block then ByBlock else kind_ground k) g ≡ first_condition block k g
first_test true k = computed ByBlock (first_condition true k) refl
first_test false Nonseq = computed ByAddress (first_condition false Nonseq) refl
first_test false Seq = computed Sequential (first_condition false Seq) refl

plain_test : (a : ℕ) (g : Ground) → same_ground (plain_ground a) g ≡ plain_condition a g
unfolding plain_ground
plain_test a g = choose₂ (λ (h : Ground) (t : Bool). same_ground h g ≡ t) (eqb (page a) 0x02) (λ e. refl) (λ e. refl)

-- one beat or two
wide_test : (z : AccessSize) (g h : Ground) (s t : Ground → Bool) → ((i : Ground) → same_ground g i ≡ s i)
    → ((i : Ground) → same_ground h i ≡ t i) → (j : ℕ) (i : Ground)
    → is_beat (beat_at (wide z g h) j) i ≡ wide_condition z s t j i
wide_test Byte g h s t e d zero i = e i
wide_test Byte g h s t e d (suc zero) i = refl
wide_test Byte g h s t e d (suc (suc j)) i = refl
wide_test Half g h s t e d zero i = e i
wide_test Half g h s t e d (suc zero) i = refl
wide_test Half g h s t e d (suc (suc j)) i = refl
wide_test Word g h s t e d zero i = e i
wide_test Word g h s t e d (suc zero) i = d i
wide_test Word g h s t e d (suc (suc j)) i = refl

-- of one ground
same_test : (z : AccessSize) (h : Ground) (j : ℕ) (i : Ground)
    → is_beat (beat_at (wide z h h) j) i ≡ wide_condition z (same_ground h) (same_ground h) j i
same_test z h = wide_test z h h (same_ground h) (same_ground h) (λ i. refl) (λ i. refl)

bus_test : (z : AccessSize) (h : Ground) (t : Ground → Bool) → ((i : Ground) → same_ground h i ≡ t i) → (j : ℕ) (g : Ground)
    (b : BusKind) → is_beat (beat_at (data_grounds_on z h b) j) g ≡ data_condition_on z t j g b
bus_test z h t e j g OnEwram = same_test z EwramBus j g
bus_test z h t e j g OnVideo = same_test z VideoBus j g
bus_test z h t e j g (OnRom win) = wide_test z h Sequential t (same_ground Sequential) e (λ i. refl) j g
bus_test z h t e j g OnSram = same_test Byte SramBus j g
bus_test z h t e j g OnFast = same_test Byte Fast j g

data_test : (p : Previous) (z : AccessSize) (a j : ℕ) (g : Ground)
    → is_beat (beat_at (data_grounds p z a) j) g ≡ data_condition p z a j g
unfolding data_grounds first_ground
data_test p z a j g =
    let n = aligned z a in
    bus_test z (first_ground p n) (first_condition (force_nonseq n) (kind_after p n))
    (first_test (force_nonseq n) (kind_after p n)) j g
    (bus_kind (decode a))

-- a beat of two lists of grounds, one behind the other: of the first, or of the second
beat_first : (gs hs : List Ground) (j : ℕ) → j < length gs → beat_at (gs ++ hs) j ≡ beat_at gs j
beat_first [] hs j h = absurd (omega arith)
beat_first (g ∷ gs) hs zero h = refl
beat_first (g ∷ gs) hs (suc j) h = beat_first gs hs j (omega arith)

beat_behind : (gs hs : List Ground) (j n : ℕ) → length gs ≤ j → j - length gs ≡ n → beat_at (gs ++ hs) j ≡ beat_at hs n
beat_behind [] hs j n h e = ap (beat_at hs) (omega arith)
beat_behind (g ∷ gs) hs zero n h e = absurd (omega arith)
beat_behind (g ∷ gs) hs (suc j) n h e = beat_behind gs hs j n (omega arith) (omega arith)

-- a word has as many beats as its bus says
bus_beats : (g : Ground) (b : BusKind) → length (data_grounds_on Word g b) ≡ word_beats b
bus_beats g OnEwram = refl
bus_beats g OnVideo = refl
bus_beats g (OnRom win) = refl
bus_beats g OnSram = refl
bus_beats g OnFast = refl

pub word_beats_law : (p : Previous) (a : ℕ) → length (data_grounds p Word a) ≡ word_beats (bus_kind (decode a))
unfolding data_grounds
word_beats_law p a = bus_beats (first_ground p (aligned Word a)) (bus_kind (decode a))

block_test : (p : Previous) (a n j : ℕ) (g : Ground) → is_beat (beat_at (block_grounds p a n) j) g ≡ block_condition p a n j g
block_test p a zero j g = refl
block_test p a (suc n) j g =
    let beats = word_beats (bus_kind (decode a)) in
    let word = data_grounds p Word a in
    let rest = block_grounds (access_of Word a) (further 4 a) n in
    let many : length word ≡ beats = word_beats_law p a in
    choose (λ (t : Bool). is_beat (beat_at (word ++ rest) j) g ≡ t) (ltb j beats)
    (λ e. ap (λ (b : Option Ground). is_beat b g) (beat_first word rest j (omega (arith, tests, many))) ∙ data_test p Word a j g)
    (λ e.
    ap (λ (b : Option Ground). is_beat b g)
    (beat_behind word rest j (j - beats) (omega (arith, tests, many)) (omega (arith, many)))
    ∙ block_test (access_of Word a) (further 4 a) n (j - beats) g)

fetch_test : (hits : ℕ → Bool) (forced : Bool) (isa : IsaState) (a j : ℕ) (g : Ground) (v : Option RomWindow)
    → is_beat (beat_at (fetch_grounds_in hits forced a isa v) j) g ≡ fetch_condition_in hits forced isa a j g v
unfolding half_ground
fetch_test hits forced isa a j g (Some win) =
    wide_test (code_size isa) (half_ground hits forced a) (half_ground hits false (further 2 a))
    (half_condition (hits a) (force_nonseq a) forced) (half_condition (hits (further 2 a)) (force_nonseq (further 2 a)) false)
    (half_test (hits a) (force_nonseq a) forced) (half_test (hits (further 2 a)) (force_nonseq (further 2 a)) false) j g
fetch_test hits forced isa a j g None =
    wide_test Byte (plain_ground a) (plain_ground a) (plain_condition a) (plain_condition a) (plain_test a) (plain_test a) j g

step_test : (c : Clock) (x : Step) (j : ℕ) (g : Ground) → is_beat (beat_at (grounds c x) j) g ≡ condition c x j g
unfolding fetch_grounds
step_test c (Read z a) j g = data_test (previous c) z a j g
step_test c (Write z a v) j g = data_test (previous c) z a j g
step_test c (Waitcnt v) j g = refl
step_test c (Idle n) j g = refl
step_test c (Fetch a) j g = refl
step_test c (Restart a) j g = refl
step_test c (Instruction v isa a op jump) j g = fetch_test (hit c.prefetch) c.force_next_fetch_n isa a j g (window a)
step_test c (Pc a) j g = refl
step_test c (Latch v) j g = refl
step_test c (BlockRead a n) j g = block_test (previous c) a n j g
step_test c (BlockWrite a n) j g = block_test (previous c) a n j g

-- a beat has a ground exactly when the test finds it
beat_found : (b : Option Ground) (g : Ground) → b ≡ Some g → is_beat b g ≡ true
beat_found b g e = ap (λ (x : Option Ground). is_beat x g) e ∙ eq-eqb (ground_byte g) (ground_byte g) refl

found_beat : (b : Option Ground) (g : Ground) → is_beat b g ≡ true → b ≡ Some g
found_beat None g e = absurd (false≢true e)
found_beat (Some h) g e = ap Some (one_byte h g (eqb-true (ground_byte h) (ground_byte g) e))

pub named_exactly : (c : Clock) (x : Step) (j : ℕ) (g : Ground)
    → Exactly (beat_at (grounds c x) j ≡ Some g) (condition c x j g ≡ true)
named_exactly c x j g = (
  λ h. sym (step_test c x j g) ∙ beat_found (beat_at (grounds c x) j) g h,
  λ h. found_beat (beat_at (grounds c x) j) g (step_test c x j g ∙ h),
)

-- ---- a data access: its beats cost what their grounds do

pub bus_window_law : (a : ℕ) → window a ≡ bus_window (bus_kind (decode a))
unfolding window decode
bus_window_law a =
    choose₂ P (ltb p 0x08)
    (λ e. either Q (eqb p 0x00) (either Q (ltb a bios_size) refl refl)
    (either Q (eqb p 0x01) refl (either Q (eqb p 0x02) refl (either Q (eqb p 0x03) refl
    (either Q (eqb p 0x04) refl (either Q (eqb p 0x05) refl (either Q (eqb p 0x06) refl refl)))))))
    λ e₁. choose₂ P (ltb p 0x0A) (λ e. refl)
    λ e₂. choose₂ P (ltb p 0x0C) (λ e. refl)
    λ e₃. choose₂ P (ltb p 0x0E) (λ e. refl)
    λ e₄. either Q (ltb p 0x10) refl refl
  where
    p : ℕ
    p = page a

    P : Option RomWindow → Region → Type 0
    P v r = v ≡ bus_window (bus_kind r)

    Q : Region → Type 0
    Q r = None ≡ bus_window (bus_kind r)

-- one beat or two, by the size
wide_worth : (t : Waits) (f : Ground → ℕ) (z : AccessSize) (b c : Beat) (g h : Ground)
    → beat_cycles t b ≡ f g → beat_cycles t c ≡ f h → price t (wide z b c) ≡ sum (map f (wide z g h))
wide_worth t f Byte b c g h e d = ap (λ (n : ℕ). n + 0) e
wide_worth t f Half b c g h e d = ap (λ (n : ℕ). n + 0) e
wide_worth t f Word b c g h e d = ap₂ (λ (n m : ℕ). n + (m + 0)) e d

-- over a bus, where the first beat from ROM is of a kind that the ground tells
bus_worth : (w : ℕ) (z : AccessSize) (k : AccessKind) (g : Ground)
    → ((win : RomWindow) → rom_half_cycles (rom_waits_of w) win k ≡ ground_cycles w (Some win) Half g) → (b : BusKind)
    → price (rom_waits_of w) (data_beats_on (sram_waits w) z k b)
    ≡ sum (map (ground_cycles w (bus_window b) Half) (data_grounds_on z g b))
bus_worth w z k g first OnEwram =
    wide_worth (rom_waits_of w) (ground_cycles w None Half) z (EwramBeat Half) (EwramBeat Half) EwramBus EwramBus refl refl
bus_worth w z k g first OnVideo =
    wide_worth (rom_waits_of w) (ground_cycles w None Half) z VideoBeat VideoBeat VideoBus VideoBus refl refl
bus_worth w z k g first (OnRom win) =
    wide_worth (rom_waits_of w) (ground_cycles w (Some win) Half) z (RomBeat win k) (RomBeat win Seq) g Sequential
    (first win) refl
bus_worth w z k g first OnSram = refl
bus_worth w z k g first OnFast = refl

-- the first beat from ROM
kind_worth : (w : ℕ) (win : RomWindow) (k : AccessKind)
    → rom_half_cycles (rom_waits_of w) win k ≡ ground_cycles w (Some win) Half (kind_ground k)
kind_worth w win Nonseq = refl
kind_worth w win Seq = refl

first_worth : (w : ℕ) (p : Previous) (n : ℕ) (win : RomWindow)
    → rom_half_cycles (rom_waits_of w) win (kind_at n (kind_after p n)) ≡ ground_cycles w (Some win) Half (first_ground p n)
unfolding kind_at first_ground
first_worth w p n win =
    choose₂ (λ (k : AccessKind) (g : Ground). rom_half_cycles (rom_waits_of w) win k ≡ ground_cycles w (Some win) Half g)
    (force_nonseq n)
    (λ e. refl) (λ e. kind_worth w win (kind_after p n))

data_worth : (w : ℕ) (p : Previous) (z : AccessSize) (a : ℕ)
    → data_cycles w p z a ≡ sum (map (ground_cycles w (window a) Half) (data_grounds p z a))
unfolding data_beats data_grounds
data_worth w p z a =
    let n = aligned z a in
    bus_worth w z (kind_at n (kind_after p n)) (first_ground p n) (first_worth w p n) (bus_kind (decode a))
    ∙ ap (λ (v : Option RomWindow).
    sum (map (ground_cycles w v Half) (data_grounds_on z (first_ground p n) (bus_kind (decode a)))))
    (sym (bus_window_law a))

-- and its words make a block's
sum_append : (xs ys : List ℕ) → sum (xs ++ ys) ≡ sum xs + sum ys
sum_append [] ys = omega arith
sum_append (x ∷ xs) ys = ap (λ (n : ℕ). x + n) (sum_append xs ys) ∙ omega arith

block_worth : (w : ℕ) (p : Previous) (a n : ℕ) → block_cycles_of w p a n ≡ sum (block_worths w p a n)
block_worth w p a zero = refl
block_worth w p a (suc n) =
    ap₂ (λ (x y : ℕ). x + y) (data_worth w p Word a) (block_worth w (access_of Word a) (further 4 a) n)
    ∙ sym (sum_append (data_worths w p Word a) (block_worths w (access_of Word a) (further 4 a) n))

-- ---- a fetch

flag_worth : (w : ℕ) (z : AccessSize) (win : RomWindow) (forced : Bool)
    → rom_half_cycles (rom_waits_of w) win (nonseq_if forced)
    ≡ ground_cycles w (Some win) z (if forced then ByFlag else Sequential)
flag_worth w z win true = refl
flag_worth w z win false = refl

half_worth : (w : ℕ) (z : AccessSize) (p : PrefetchBuffer) (forced : Bool) (a : ℕ) (win : RomWindow)
    → beat_cycles (rom_waits_of w) (half_beat p a win (nonseq_if forced))
    ≡ ground_cycles w (Some win) z (half_ground (hit p) forced a)
unfolding half_beat half_ground kind_at
half_worth w z p forced a win =
    choose₂ (λ (b : Beat) (g : Ground). beat_cycles (rom_waits_of w) b ≡ ground_cycles w (Some win) z g) (hit p a) (λ e. refl)
    λ e. choose₂ (λ (k : AccessKind) (g : Ground). rom_half_cycles (rom_waits_of w) win k ≡ ground_cycles w (Some win) z g)
    (force_nonseq a)
    (λ f. refl) (λ f. flag_worth w z win forced)

plain_worth : (w : ℕ) (a : ℕ) (isa : IsaState)
    → beat_cycles (rom_waits_of w) (plain_beat a isa) ≡ ground_cycles w None (code_size isa) (plain_ground a)
unfolding plain_beat plain_ground
plain_worth w a isa =
    choose₂ (λ (b : Beat) (g : Ground). beat_cycles (rom_waits_of w) b ≡ ground_cycles w None (code_size isa) g)
    (eqb (page a) 0x02)
    (λ e. refl) (λ e. refl)

fetch_worth_in : (w : ℕ) (p : PrefetchBuffer) (forced : Bool) (isa : IsaState) (a : ℕ) (v : Option RomWindow)
    → price (rom_waits_of w) (fetch_beats_in p a (nonseq_if forced) isa v)
    ≡ sum (map (ground_cycles w v (code_size isa)) (fetch_grounds_in (hit p) forced a isa v))
fetch_worth_in w p forced Thumb a (Some win) = ap (λ (n : ℕ). n + 0) (half_worth w Half p forced a win)
fetch_worth_in w p forced Arm a (Some win) =
    ap₂ (λ (n m : ℕ). n + (m + 0)) (half_worth w Word p forced a win) (half_worth w Word p false (further 2 a) win)
fetch_worth_in w p forced isa a None = ap (λ (n : ℕ). n + 0) (plain_worth w a isa)

fetch_worth : (w : ℕ) (p : PrefetchBuffer) (forced : Bool) (isa : IsaState) (a : ℕ)
    → price (rom_waits_of w) (fetch_beats p forced isa a)
    ≡ sum (map (ground_cycles w (window a) (code_size isa)) (fetch_grounds (hit p) forced isa a))
unfolding fetch_beats fetch_grounds
fetch_worth w p forced isa a = fetch_worth_in w p forced isa a (window a)

-- ---- a step

-- the cycles of the grounds and the internal cycle make the step's cycles
pub cycles_explained : (c : Clock) (x : Step) → is_priced x ≡ true
    → (timed c x).cycles ≡ sum (worths c x) + internal_cycle x
unfolding price_insn
cycles_explained c (Read z a) h = data_worth c.waitcnt (previous c) z a ∙ omega arith
cycles_explained c (Write z a v) h = data_worth c.waitcnt (previous c) z a ∙ omega arith
cycles_explained c (Waitcnt v) h = absurd (false≢true h)
cycles_explained c (Idle n) h = absurd (false≢true h)
cycles_explained c (Fetch a) h = absurd (false≢true h)
cycles_explained c (Restart a) h = absurd (false≢true h)
cycles_explained c (Instruction v isa a op jump) h =
    ap (λ (n : ℕ). n + bit (internal v isa op)) (fetch_worth c.waitcnt c.prefetch c.force_next_fetch_n isa a)
cycles_explained c (Pc a) h = absurd (false≢true h)
cycles_explained c (Latch v) h = absurd (false≢true h)
cycles_explained c (BlockRead a n) h = block_worth c.waitcnt (previous c) a n ∙ omega arith
cycles_explained c (BlockWrite a n) h = block_worth c.waitcnt (previous c) a n ∙ omega arith

-- other kinds have none
pub none_unpriced : (c : Clock) (x : Step) → is_priced x ≡ false → grounds c x ≡ []
none_unpriced c (Read z a) h = absurd (true≢false h)
none_unpriced c (Write z a v) h = absurd (true≢false h)
none_unpriced c (Waitcnt v) h = refl
none_unpriced c (Idle n) h = refl
none_unpriced c (Fetch a) h = refl
none_unpriced c (Restart a) h = refl
none_unpriced c (Instruction v isa a op jump) h = absurd (true≢false h)
none_unpriced c (Pc a) h = refl
none_unpriced c (Latch v) h = refl
none_unpriced c (BlockRead a n) h = absurd (true≢false h)
none_unpriced c (BlockWrite a n) h = absurd (true≢false h)

-- ---- as many as there are numbers of cycles

block_each : (w : ℕ) (p : Previous) (a n : ℕ) → length (block_worths w p a n) ≡ length (block_grounds p a n)
block_each w p a zero = refl
block_each w p a (suc n) =
    let next = access_of Word a in
    length-append (data_worths w p Word a) (block_worths w next (further 4 a) n)
    ∙ ap₂ (λ (x y : ℕ). x + y) (length-map (data_grounds p Word a) _) (block_each w next (further 4 a) n)
    ∙ sym (length-append (data_grounds p Word a) (block_grounds next (further 4 a) n))

pub each_worth : (c : Clock) (x : Step) → length (worths c x) ≡ length (grounds c x)
each_worth c (Read z a) = length-map (data_grounds (previous c) z a) _
each_worth c (Write z a v) = length-map (data_grounds (previous c) z a) _
each_worth c (Waitcnt v) = refl
each_worth c (Idle n) = refl
each_worth c (Fetch a) = refl
each_worth c (Restart a) = refl
each_worth c (Instruction v isa a op jump) =
    length-map (fetch_grounds (hit c.prefetch) c.force_next_fetch_n isa a) _
each_worth c (Pc a) = refl
each_worth c (Latch v) = refl
each_worth c (BlockRead a n) = block_each c.waitcnt (previous c) a n
each_worth c (BlockWrite a n) = block_each c.waitcnt (previous c) a n

-- ---- at most two an access or a fetch

wide_few : (z : AccessSize) (g h : Ground) → Few (wide z g h)
wide_few Byte g h = omega arith
wide_few Half g h = omega arith
wide_few Word g h = omega arith

bus_few : (z : AccessSize) (g : Ground) (b : BusKind) → Few (data_grounds_on z g b)
bus_few z g OnEwram = wide_few z EwramBus EwramBus
bus_few z g OnVideo = wide_few z VideoBus VideoBus
bus_few z g (OnRom win) = wide_few z g Sequential
bus_few z g OnSram = omega arith
bus_few z g OnFast = omega arith

data_few : (p : Previous) (z : AccessSize) (a : ℕ) → Few (data_grounds p z a)
unfolding data_grounds
data_few p z a = bus_few z (first_ground p (aligned z a)) (bus_kind (decode a))

fetch_few_in : (hits : ℕ → Bool) (forced : Bool) (a : ℕ) (isa : IsaState) (v : Option RomWindow)
    → Few (fetch_grounds_in hits forced a isa v)
fetch_few_in hits forced a isa (Some win) =
    wide_few (code_size isa) (half_ground hits forced a) (half_ground hits false (further 2 a))
fetch_few_in hits forced a isa None = omega arith

fetch_few : (hits : ℕ → Bool) (forced : Bool) (isa : IsaState) (a : ℕ) → Few (fetch_grounds hits forced isa a)
unfolding fetch_grounds
fetch_few hits forced isa a = fetch_few_in hits forced a isa (window a)

pub block_few : (p : Previous) (a n : ℕ) → length (block_grounds p a n) ≤ 2 * n
block_few p a zero = omega arith
block_few p a (suc n) =
    let next = access_of Word a in
    omega (
      arith,
      length-append (data_grounds p Word a) (block_grounds next (further 4 a) n),
      data_few p Word a,
      block_few next (further 4 a) n,
    )

pub few_grounds : (c : Clock) (x : Step) → length (grounds c x) ≤ 2 * turns_in x
few_grounds c (Read z a) = data_few (previous c) z a
few_grounds c (Write z a v) = data_few (previous c) z a
few_grounds c (Waitcnt v) = omega arith
few_grounds c (Idle n) = omega arith
few_grounds c (Fetch a) = omega arith
few_grounds c (Restart a) = omega arith
few_grounds c (Instruction v isa a op jump) = fetch_few (hit c.prefetch) c.force_next_fetch_n isa a
few_grounds c (Pc a) = omega arith
few_grounds c (Latch v) = omega arith
few_grounds c (BlockRead a n) = block_few (previous c) a n
few_grounds c (BlockWrite a n) = block_few (previous c) a n

-- so 32 bytes hold those of a short step
pub grounds_fit : (c : Clock) (x : Step) → Short x → length (grounds c x) ≤ grounds_length
grounds_fit c x s = omega (arith, few_grounds c x, s.short)
