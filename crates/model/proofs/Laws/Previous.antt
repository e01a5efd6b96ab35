-- Runs of data accesses: when the previous access is sound, what the kind of the next one follows from, what that makes of its
-- price, and which steps set, keep and clear it.
use Rattle.std.specs.Prelude.{◌≡◌, refl, ◌≢◌, Bool, true, false, ◌&&◌, ◌||◌, ℕ, zero, suc, ◌+◌, ◌*◌, ◌/◌, ◌%◌, ◌^◌, ◌≤◌, ◌<◌, get_or, eqb, ltb}
use Rattle.std.proofs.Math.Path.{sym, ap}
use Rattle.std.proofs.Common.{ap₂, ◌∙◌, true≢false, arith, mod-eq_of_lt, eqb-true, eq-eqb, ne_eqb}
use Rattle.std.specs.Prelude.{if◌then◌else◌}
use Rattle.std.specs.Prelude.{Option, Some}
use Rattle.model.specs.Base.{further}
use Rattle.model.specs.Region.{page, decode, region_number, same_region, is_game_pak_rom}
use Rattle.model.specs.Waitcnt.{rom_waits_of, sram_waits}
use Rattle.model.specs.Wait.{size_bytes_of, access_size_of, aligned, window_at, window, in_window}
use Rattle.model.specs.Wait.{force_nonseq, kind_at, classify_access, rom_half_cycles}
use Rattle.model.specs.Price.{price, previously, previous, access_of, no_access, kind_after, first_kind_of}
use Rattle.model.specs.declared.Previous.{Previous}
use Rattle.model.specs.Price.{rom_access, data_beats_in, data_beats, data_cycles, block_previous}
use Rattle.model.specs.Step.{waits_of, set_waitcnt, code_clock, clock_after}
use Rattle.model.specs.BoardBytes.{sound_previous}
use Rattle.model.proofs.Laws.Choice.{choose, choose₂, either, by_test, if_true, if_false, never, tests, eqb_ne}
use Rattle.model.proofs.Laws.Choice.{parts}
use Rattle.model.specs.Laws.Window.{InRom}
use Rattle.model.proofs.Laws.Window.{true_in_window, window_in}
use Rattle.model.proofs.Laws.Sizes.{bytes≤4, size_back, bytes_back, aligned_multiple, aligned_small, aligned_address}
use Rattle.model.proofs.Laws.Sizes.{aligned_rom}
use Rattle.model.specs.declared.Region.{Region}
use Rattle.model.specs.declared.Region.TheVariants.{Bios, UnusedLow, Ewram, Iwram, Io, Palette, Vram, Oam}
use Rattle.model.specs.declared.Region.TheVariants.{GamePakRomWs0, GamePakRomWs1, GamePakRomWs2, GamePakSram, UnusedHigh}
use Rattle.model.specs.declared.RomWindow.{RomWindow}
use Rattle.model.specs.declared.RomWindow.TheVariants.{Ws0, Ws1, Ws2}
use Rattle.model.specs.declared.AccessKind.{AccessKind}
use Rattle.model.specs.declared.AccessKind.TheVariants.{Nonseq, Seq}
use Rattle.model.specs.declared.AccessSize.{AccessSize}
use Rattle.model.specs.declared.AccessSize.TheVariants.{Byte, Half, Word}
use Rattle.model.specs.declared.Clock.{Clock}
use Rattle.model.specs.declared.Step.{Step}
use Rattle.model.specs.declared.Step.TheVariants.{Read, Write, Waitcnt, Idle, Fetch, Restart, Instruction, Pc, Latch}
use Rattle.model.specs.declared.Step.TheVariants.{BlockRead, BlockWrite}
use Rattle.model.specs.Laws.Previous.{SoundPrevious, There, regions, Continues, Reading, Way, Writing, access_cost, cost_after, previous_after}

-- ---- soundness

pub none_sound : SoundPrevious no_access
unfolding sound_previous
none_sound = record { small = omega arith; tested = refl }

-- an address that is a multiple of a size
multiple_tested : (z : AccessSize) (n : ℕ) → n % size_bytes_of z ≡ 0 → sound_previous (previously n (size_bytes_of z)) ≡ true
unfolding sound_previous
multiple_tested Byte n h = eq-eqb (n % 1) 0 h
multiple_tested Half n h = eq-eqb (n % 2) 0 h
multiple_tested Word n h = eq-eqb (n % 4) 0 h

pub access_sound : (z : AccessSize) (a : ℕ) → SoundPrevious (access_of z a)
access_sound z a = record { small = aligned_small z a; tested = multiple_tested z (aligned z a) (aligned_multiple z a) }

-- behind a block the previous access is one of its words, or the one before it
pub block_sound : (p : Previous) (a n : ℕ) → SoundPrevious p → SoundPrevious (block_previous p a n)
block_sound p a zero s = s
block_sound p a (suc n) s = block_sound (access_of Word a) (further 4 a) n (access_sound Word a)

pub there : (p : Previous) → SoundPrevious p → eqb p.size 0 ≡ false → There p
unfolding sound_previous
there p s e =
    let t : (eqb p.size 1 || eqb p.size 2 || eqb p.size 4) && eqb (p.addr % p.size) 0 ≡ true =
    sym (if_false _ _ _ e) ∙ s.tested in
    record { sized = bytes_back p.size (search parts); multiple = eqb-true (p.addr % p.size) 0 (search parts) }

pub size≤4 : (p : Previous) → SoundPrevious p → p.size ≤ 4
size≤4 p s =
    by_test (eqb p.size 0) (λ e. omega (arith, tests))
    (λ e. omega (arith, (there p s e).sized, bytes≤4 (access_size_of p.size)))

-- ---- regions

region_back : (r : Region) → get_or regions (region_number r) Bios ≡ r
region_back Bios = refl
region_back UnusedLow = refl
region_back Ewram = refl
region_back Iwram = refl
region_back Io = refl
region_back Palette = refl
region_back Vram = refl
region_back Oam = refl
region_back GamePakRomWs0 = refl
region_back GamePakRomWs1 = refl
region_back GamePakRomWs2 = refl
region_back GamePakSram = refl
region_back UnusedHigh = refl

-- the comparison tells exactly the regions that are the same
pub region_exactly : (r s : Region) → (same_region r s ≡ true → r ≡ s) × (r ≡ s → same_region r s ≡ true)
region_exactly r s = (
  λ e.
      sym (region_back r)
      ∙ ap (λ (n : ℕ). get_or regions n Bios) (eqb-true (region_number r) (region_number s) e)
      ∙ region_back s,
  λ e. eq-eqb (region_number r) (region_number s) (ap region_number e),
)

-- from page 8 on a region is whole pages
same_page : (a b : ℕ) → page a ≡ page b → 0x08 ≤ page b → decode a ≡ decode b
unfolding decode
same_page a b e h =
    rw e
    (choose₂ (λ (r s : Region). r ≡ s) (ltb (page b) 0x08) (λ t. absurd (omega (arith, tests))) (λ t. refl))

-- what goes on where an access ended, and begins no block, lies in one block with it
one_block : (z : AccessSize) (b n : ℕ) → b < 2 ^ 32 → b % size_bytes_of z ≡ 0 → InRom n → n % 0x20000 ≢ 0
    → n ≡ further (size_bytes_of z) b → page b ≡ page n
one_block Byte b n s m r f e = omega arith
one_block Half b n s m r f e = omega arith
one_block Word b n s m r f e = omega arith

one_region : (p : Previous) (n : ℕ) → SoundPrevious p → There p → InRom n → n % 0x20000 ≢ 0
    → n ≡ further (size_bytes_of (access_size_of p.size)) p.addr → same_region (decode p.addr) (decode n) ≡ true
one_region p n s t r f e =
    let m : p.addr % size_bytes_of (access_size_of p.size) ≡ 0 = rw t.sized t.multiple in
    (region_exactly (decode p.addr) (decode n)).1
    (same_page p.addr n (one_block (access_size_of p.size) p.addr n s.small m r f e) (omega arith))

-- ---- the kind

-- in ROM the regions need not be compared
pub rom_kind : (p : Previous) (n : ℕ) → SoundPrevious p → InRom n → eqb p.size 0 ≡ false
    → classify_access p.addr (access_size_of p.size) n true ≡ kind_after p n
unfolding kind_after classify_access
rom_kind p n s r some = by_test same (λ e. rw (some, e) refl) (λ e. apart e ∙ rw (some, e) refl)
  where
    same : Bool
    same = same_region (decode p.addr) (decode n)

    next : ℕ
    next = further (size_bytes_of (access_size_of p.size)) p.addr

    apart : same ≡ false → (if in_window n && force_nonseq n then Nonseq else if eqb n next then Seq else Nonseq) ≡ Nonseq
    apart e =
        choose (λ (k : AccessKind). k ≡ Nonseq) (in_window n && force_nonseq n) (λ t. refl)
        λ t. choose (λ (k : AccessKind). k ≡ Nonseq) (eqb n next)
        (λ u.
        let inside : force_nonseq n ≡ false = ap (λ (v : Bool). v && force_nonseq n) (sym (true_in_window n r)) ∙ t in
        never (one_region p n s (there p s some) r (eqb_ne (n % 0x20000) 0 inside) (eqb-true n next u)) e)
        (λ u. refl)

-- two variants that are one
no : {A : Type 0} → ◌≡◌ {A = ℕ} 0 1 → A
no f = absurd (omega arith)

-- with none before it an access is nonsequential, whatever begins a block
pub kind_at_nonseq : (a : ℕ) → kind_at a Nonseq ≡ Nonseq
unfolding kind_at
kind_at_nonseq a = either (λ (k : AccessKind). k ≡ Nonseq) (force_nonseq a) refl refl

pub first_kind : (z : AccessSize) (a : ℕ) → first_kind_of no_access z a ≡ Nonseq
unfolding kind_after
first_kind z a = kind_at_nonseq (aligned z a)

pub some_size : (z : AccessSize) → eqb (size_bytes_of z) 0 ≡ false
some_size Byte = refl
some_size Half = refl
some_size Word = refl

-- in ROM exactly these are sequential
module _ (y : AccessSize) (b : ℕ) (z : AccessSize) (a : ℕ) (rom : InRom a) where
  abbrev low : ℕ
  low = aligned z a

  abbrev next : ℕ
  next = further (size_bytes_of y) (aligned y b)

  by_tests : first_kind_of (access_of y b) z a ≡ (if force_nonseq low then Nonseq else if eqb low next then Seq else Nonseq)
  unfolding kind_at classify_access
  by_tests =
      choose₂ (λ (k j : AccessKind). k ≡ j) (force_nonseq low) (λ t. refl)
      (λ t.
      sym (rom_kind (access_of y b) low (access_sound y b) (aligned_rom z a rom) (some_size y))
      ∙ simp (size_back y, t, true_in_window low (aligned_rom z a rom)))

  pub continued_kind : Continues y b z a → first_kind_of (access_of y b) z a ≡ Seq
  continued_kind h =
      by_tests ∙ if_false _ _ _ (ne_eqb (low % 0x20000) 0 h.no_block) ∙ if_true _ _ _ (eq-eqb low next h.goes_on)

  pub sequential_continues : first_kind_of (access_of y b) z a ≡ Seq → Continues y b z a
  sequential_continues e = told (sym by_tests ∙ e)
    where
      told : (if force_nonseq low then Nonseq else if eqb low next then Seq else Nonseq) ≡ Seq → Continues y b z a
      told =
          choose (λ (k : AccessKind). k ≡ Seq → Continues y b z a) (force_nonseq low) (λ t f. no cc)
          λ t. choose (λ (k : AccessKind). k ≡ Seq → Continues y b z a) (eqb low next)
          (λ u f. record { rom = rom; goes_on = eqb-true low next u; no_block = eqb_ne (low % 0x20000) 0 t })
          λ u f. no cc

-- ---- the price of a step

access_costs : (c : Clock) (m : Way) (z : AccessSize) (a : ℕ) → access_cost c m z a ≡ data_cycles c.waitcnt (previous c) z a
access_costs c Reading z a = refl
access_costs c (Writing v) z a = refl

next_cost : (c : Clock) (m : Way) (y : AccessSize) (b : ℕ) (n : Way) (z : AccessSize) (a : ℕ)
    → cost_after c m y b n z a ≡ data_cycles c.waitcnt (access_of y b) z a
next_cost c Reading y b n z a = access_costs (clock_after c (Read y b)) n z a
next_cost c (Writing v) y b n z a = access_costs (clock_after c (Write y b v)) n z a

-- what it costs depends on no access but the previous one, and not on what either reads or writes
pub only_the_previous : (c d : Clock) (m n i j : Way) (y : AccessSize) (b : ℕ) (z : AccessSize) (a : ℕ)
    → c.waitcnt ≡ d.waitcnt → cost_after c m y b n z a ≡ cost_after d i y b j z a
only_the_previous c d m n i j y b z a e =
    next_cost c m y b n z a
    ∙ ap (λ (w : ℕ). data_cycles w (access_of y b) z a) e
    ∙ sym (next_cost d i y b j z a)

-- without a previous access it is the price of a nonsequential one: in ROM N, of a word N + S
pub first_cost : (c : Clock) (m : Way) (z : AccessSize) (a : ℕ) → previous c ≡ no_access
    → access_cost c m z a ≡ price (waits_of c) (data_beats_in (sram_waits c.waitcnt) z Nonseq (decode a))
unfolding data_beats
first_cost c m z a e =
    access_costs c m z a
    ∙ ap (λ (p : Previous). data_cycles c.waitcnt p z a) e
    ∙ ap (λ (k : AccessKind). price (waits_of c) (data_beats_in (sram_waits c.waitcnt) z k (decode a))) (first_kind z a)

-- outside ROM the previous access doesn't count
plain_beats : (sram : ℕ) (z : AccessSize) (k j : AccessKind) (r : Region) → is_game_pak_rom r ≡ false
    → data_beats_in sram z k r ≡ data_beats_in sram z j r
plain_beats sram z k j Bios e = refl
plain_beats sram z k j UnusedLow e = refl
plain_beats sram z k j Ewram e = refl
plain_beats sram z k j Iwram e = refl
plain_beats sram z k j Io e = refl
plain_beats sram z k j Palette e = refl
plain_beats sram z k j Vram e = refl
plain_beats sram z k j Oam e = refl
plain_beats sram z k j GamePakRomWs0 e = absurd (true≢false e)
plain_beats sram z k j GamePakRomWs1 e = absurd (true≢false e)
plain_beats sram z k j GamePakRomWs2 e = absurd (true≢false e)
plain_beats sram z k j GamePakSram e = refl
plain_beats sram z k j UnusedHigh e = refl

pub plain_cost : (c : Clock) (m : Way) (z : AccessSize) (a : ℕ) → is_game_pak_rom (decode a) ≡ false
    → access_cost c m z a ≡ price (waits_of c) (data_beats_in (sram_waits c.waitcnt) z Nonseq (decode a))
unfolding data_beats
plain_cost c m z a e =
    access_costs c m z a
    ∙ ap (price (waits_of c)) (plain_beats (sram_waits c.waitcnt) z (first_kind_of (previous c) z a) Nonseq (decode a) e)

-- in a window the beats are those of ROM
rom_beats_law : (sram : ℕ) (z : AccessSize) (k : AccessKind) (a : ℕ) (win : RomWindow) → window a ≡ Some win
    → data_beats_in sram z k (decode a) ≡ rom_access z k win
unfolding window decode
rom_beats_law sram z k a win =
    choose₂ P (ltb (page a) 0x08) (λ t e. no cc)
    λ t₁. choose₂ P (ltb (page a) 0x0A) (λ t e. let s : Ws0 ≡ win = cc in ap (rom_access z k) s)
    λ t₂. choose₂ P (ltb (page a) 0x0C) (λ t e. let s : Ws1 ≡ win = cc in ap (rom_access z k) s)
    λ t₃. choose₂ P (ltb (page a) 0x0E) (λ t e. let s : Ws2 ≡ win = cc in ap (rom_access z k) s)
    λ t₄ e. no cc
  where
    P : Option RomWindow → Region → Type 0
    P v r = v ≡ Some win → data_beats_in sram z k r ≡ rom_access z k win

rom_cost : (w : ℕ) (p : Previous) (z : AccessSize) (k : AccessKind) (a : ℕ) (win : RomWindow) → window a ≡ Some win
    → first_kind_of p z a ≡ k → data_cycles w p z a ≡ price (rom_waits_of w) (rom_access z k win)
unfolding data_beats
rom_cost w p z k a win e f =
    ap (λ (x : AccessKind). price (rom_waits_of w) (data_beats_in (sram_waits w) z x (decode a))) f
    ∙ ap (price (rom_waits_of w)) (rom_beats_law (sram_waits w) z k a win e)

-- one that goes on in ROM and begins no block costs S, of a word 2 S, whatever was read or written
pub continued_cost : (c : Clock) (m : Way) (y : AccessSize) (b : ℕ) (n : Way) (z : AccessSize) (a : ℕ) (win : RomWindow)
    → Continues y b z a → window a ≡ Some win → cost_after c m y b n z a ≡ price (waits_of c) (rom_access z Seq win)
continued_cost c m y b n z a win h e =
    next_cost c m y b n z a ∙ rom_cost c.waitcnt (access_of y b) z Seq a win e (continued_kind y b z a h.rom h)

-- two words in a row within a block of ROM, of which the first is nonsequential, cost N + 3 S
pub two_words : (c : Clock) (m n : Way) (a d : ℕ) (win : RomWindow) → window a ≡ Some win
    → aligned Word d ≡ aligned Word a + 4 → d / 0x20000 ≡ a / 0x20000 → first_kind_of (previous c) Word a ≡ Nonseq
    → access_cost c m Word a + cost_after c m Word a n Word d
    ≡ rom_half_cycles (waits_of c) win Nonseq + 3 * rom_half_cycles (waits_of c) win Seq
two_words c m n a d win e behind block first =
    let there : window d ≡ Some win = same_window d a (omega arith) ∙ e in
    let rom : InRom a = window_in a win e in
    let rom-too : InRom d = window_in d win there in
    let low : aligned Word a ≡ a / 4 * 4 = aligned_address a (omega arith) Word in
    let high : aligned Word d ≡ d / 4 * 4 = aligned_address d (omega arith) Word in
    let h : Continues Word a Word d =
    record {
      rom = rom-too;
      goes_on = behind ∙ sym (mod-eq_of_lt (omega arith));
      no_block = inside a (aligned Word d) d (omega arith) (omega arith) block;
    }
    in
    ap₂ (λ (x y : ℕ). x + y)
    (access_costs c m Word a ∙ rom_cost c.waitcnt (previous c) Word Nonseq a win e first)
    (continued_cost c m Word a n Word d win h there)
    ∙ omega arith
  where
    -- between two places of a block none begins
    inside : (x y z : ℕ) → x < y → y ≤ z → z / 0x20000 ≡ x / 0x20000 → y % 0x20000 ≢ 0
    inside x y z l m f g = omega arith

    same_window : (x y : ℕ) → page x ≡ page y → window x ≡ window y
    same_window x y f = unfold window in ap window_at f

-- ---- the previous access after a step

pub previous_after_law : (c : Clock) (x : Step) → previous (clock_after c x) ≡ previous_after (previous c) x
unfolding set_waitcnt code_clock
previous_after_law c (Read z a) = refl
previous_after_law c (Write z a v) = refl
previous_after_law c (Waitcnt v) = refl
previous_after_law c (Idle n) = refl
previous_after_law c (Fetch a) = refl
previous_after_law c (Restart a) = refl
previous_after_law c (Instruction v isa a op jump) = refl
previous_after_law c (Pc a) = refl
previous_after_law c (Latch v) = refl
previous_after_law c (BlockRead a n) = refl
previous_after_law c (BlockWrite a n) = refl
