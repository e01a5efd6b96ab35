-- What beats are as bytes, and the grounds of a data access as digits, one a page: what the digits say of an address is what its
-- bus says, by one computed test over all pages.
use Rattle.std.specs.Prelude.{◌≡◌, ℕ, zero, suc, ◌*◌, ◌/◌, ◌%◌, ◌^◌, ◌<◌, ◌≤◌, Bool, true, false, ◌&&◌, ltb, List, [], ◌∷◌, replicate, ◌==◌, nat_eq, nat_lt}
use Rattle.std.proofs.Math.Path.{refl}
use Rattle.std.proofs.Common.{sym, ap, ap₂, ◌∙◌, true≢false, arith, eqb-true, ltb-true, ltb-false}
use Rattle.std.proofs.lemmas.Bool.{false≢true}
use Rattle.std.specs.Prelude.{if◌then◌else◌}
use Rattle.std.specs.Prelude.{Option, Some, None}
use Rattle.model.specs.Base.{further}
use Rattle.model.specs.Region.{page, region_at, decode, bios_size}
use Rattle.model.specs.Wait.{window, is_in, in_window}
use Rattle.model.specs.Timing.{code_size}
use Rattle.model.specs.Price.{wide, BusKind, OnEwram, OnVideo, OnRom, OnSram, OnFast, bus_kind}
use Rattle.model.specs.Grounds.{ground_byte, half_ground, plain_ground, fetch_grounds_in, fetch_grounds, data_grounds_on, beat_bytes}
use Rattle.model.proofs.Laws.Choice.{choose, choose₂, either, by_test, tests, and_true_left, and_true_right}
use Rattle.model.specs.declared.Ground.{Ground}
use Rattle.model.specs.declared.Ground.TheVariants.{Sequential, EwramBus, SramBus, VideoBus, Fast}
use Rattle.model.specs.declared.Region.{Region}
use Rattle.model.specs.declared.Region.TheVariants.{Bios, UnusedLow}
use Rattle.model.specs.declared.RomWindow.{RomWindow}
use Rattle.model.specs.declared.AccessSize.{AccessSize}
use Rattle.model.specs.declared.AccessSize.TheVariants.{Byte, Half, Word}
use Rattle.model.specs.declared.IsaState.{IsaState}
use Rattle.grounds.specs.Trail.{page_digit}

-- the digits, that of page 0x0F first and that of page 0 last: of the first beat and of a word's second
abbrev pub first_beats : ℕ
first_beats = 0x7700_0000_9889_9699

abbrev pub second_beats : ℕ
second_beats = 0x0022_2222_0880_0600

-- what they must be, by the bus: 0 for ROM, where the ground is not the bus's alone, and 0 for no second beat
abbrev first_byte : BusKind → ℕ
first_byte OnEwram = 6
first_byte OnVideo = 8
first_byte (OnRom win) = 0
first_byte OnSram = 7
first_byte OnFast = 9

abbrev second_byte : BusKind → ℕ
second_byte OnEwram = 6
second_byte OnVideo = 8
second_byte (OnRom win) = 2
second_byte OnSram = 0
second_byte OnFast = 0

-- ---- all pages below 16 at once

abbrev all_below : ℕ → (ℕ → Bool) → Bool
all_below zero f = true
all_below (suc n) f = f n && all_below n f

below : (n : ℕ) (f : ℕ → Bool) → all_below n f ≡ true → (p : ℕ) → p < n → f p ≡ true
below zero f e p h = absurd (omega arith)
below (suc n) f e p h =
    by_test (p == n)
    (λ t. let q : p ≡ n = eqb-true p n t in rw q (and_true_left (f n) (all_below n f) e))
    (λ t. below n f (and_true_right (f n) (all_below n f) e) p (omega (arith, tests)))

-- the bus goes by the page alone
page_bus : (p a b : ℕ) → bus_kind (region_at p a) ≡ bus_kind (region_at p b)
page_bus p a b =
    choose₂ P (nat_lt p 0x08)
    (λ e. choose₂ P (p == 0x00)
    (λ z. low a ∙ sym (low b))
    λ z. refl)
    λ e. refl
  where
    P : Region → Region → Type 0
    P r s = bus_kind r ≡ bus_kind s

    low : (n : ℕ) → bus_kind (if ltb n bios_size then Bios else UnusedLow) ≡ OnFast
    low n = either (λ (r : Region). bus_kind r ≡ OnFast) (nat_lt n bios_size) refl refl

-- from page 16 on nothing is
high_bus : (p a : ℕ) → 16 ≤ p → bus_kind (region_at p a) ≡ OnFast
high_bus p a h =
    choose P (nat_lt p 0x08) (λ e. absurd (omega (arith, tests)))
    λ e₁. choose P (nat_lt p 0x0A) (λ e. absurd (omega (arith, tests)))
    λ e₂. choose P (nat_lt p 0x0C) (λ e. absurd (omega (arith, tests)))
    λ e₃. choose P (nat_lt p 0x0E) (λ e. absurd (omega (arith, tests)))
    λ e₄. choose P (nat_lt p 0x10) (λ e. absurd (omega (arith, tests)))
    λ e₅. refl
  where
    P : Region → Type 0
    P r = bus_kind r ≡ OnFast

-- digits that say what is wanted of each page
digit_bus : (digits : ℕ) (want : BusKind → ℕ)
    → all_below 16 (λ (p : ℕ). nat_eq (digits / 2 ^ (4 * p) % 16) (want (bus_kind (region_at p 0)))) ≡ true
    → digits / 2 ^ (4 * 0) % 16 ≡ want OnFast → (a : ℕ) → page_digit digits a ≡ want (bus_kind (decode a))
unfolding page_digit decode
digit_bus digits want all fast a =
    choose (λ (d : ℕ). d ≡ want (bus_kind (region_at (page a) a))) (nat_lt (page a) 16)
    (λ e. eqb-true _ _ (below 16 says all (page a) (ltb-true (page a) 16 e)) ∙ ap want (page_bus (page a) 0 a))
    (λ e. fast ∙ ap want (sym (high_bus (page a) a (ltb-false (page a) 16 e))))
  where
    says : ℕ → Bool
    says p = digits / 2 ^ (4 * p) % 16 == want (bus_kind (region_at p 0))

pub first_digit : (a : ℕ) → page_digit first_beats a ≡ first_byte (bus_kind (decode a))
first_digit = digit_bus first_beats first_byte refl refl

pub second_digit : (a : ℕ) → page_digit second_beats a ≡ second_byte (bus_kind (decode a))
second_digit = digit_bus second_beats second_byte refl refl

-- ---- one beat or two, as bytes

abbrev zeros : List ℕ
zeros = replicate 30 0

-- a second beat is one of a word alone, and of an ARM opcode
abbrev pub of_word : AccessSize → ℕ → ℕ
of_word Byte n = 0
of_word Half n = 0
of_word Word n = n

abbrev pub of_arm : IsaState → ℕ → ℕ
of_arm isa n = of_word (code_size isa) n

wide_bytes : (z : AccessSize) (g h : Ground) → beat_bytes (wide z g h) ≡ ground_byte g ∷ of_word z (ground_byte h) ∷ zeros
wide_bytes Byte g h = refl
wide_bytes Half g h = refl
wide_bytes Word g h = refl

-- of an opcode
pub code_bytes : (isa : IsaState) (g h : Ground)
    → beat_bytes (wide (code_size isa) g h) ≡ ground_byte g ∷ of_arm isa (ground_byte h) ∷ zeros
code_bytes isa g h = wide_bytes (code_size isa) g h

one_byte : (g : Ground) (z : AccessSize) → beat_bytes (g ∷ []) ≡ ground_byte g ∷ of_word z 0 ∷ zeros
one_byte g Byte = refl
one_byte g Half = refl
one_byte g Word = refl

bus_bytes : (z : AccessSize) (g : Ground) (b : BusKind)
    → beat_bytes (data_grounds_on z g b)
    ≡ (if nat_eq (first_byte b) 0 then ground_byte g else first_byte b) ∷ of_word z (second_byte b) ∷ zeros
bus_bytes z g OnEwram = wide_bytes z EwramBus EwramBus
bus_bytes z g OnVideo = wide_bytes z VideoBus VideoBus
bus_bytes z g (OnRom win) = wide_bytes z g Sequential
bus_bytes z g OnSram = one_byte SramBus z
bus_bytes z g OnFast = one_byte Fast z

pub data_bytes : (z : AccessSize) (a : ℕ) (g : Ground)
    → beat_bytes (data_grounds_on z g (bus_kind (decode a)))
    ≡ (if nat_eq (page_digit first_beats a) 0 then ground_byte g else page_digit first_beats a)
    ∷ of_word z (page_digit second_beats a) ∷ zeros
data_bytes z a g =
    bus_bytes z g (bus_kind (decode a))
    ∙ ap₂ (λ (n m : ℕ). (if nat_eq n 0 then ground_byte g else n) ∷ of_word z m ∷ zeros) (sym (first_digit a))
    (sym (second_digit a))

-- ---- an opcode's beats, by whether it lies in a window

-- a half's ground goes by whether it hits itself
pub half_hit_at : (hits : ℕ → Bool) (forced : Bool) (a : ℕ) → half_ground (λ (n : ℕ). hits a) forced a ≡ half_ground hits forced a
unfolding half_ground
half_hit_at hits forced a = refl

module _ (hits : ℕ → Bool) (forced : Bool) (isa : IsaState) (a : ℕ) where
  pub in_rom : in_window a ≡ true
      → fetch_grounds hits forced isa a
      ≡ wide (code_size isa) (half_ground hits forced a) (half_ground hits false (further 2 a))
  unfolding fetch_grounds
  in_rom = by (window a)
    where
      by : (v : Option RomWindow) → is_in v ≡ true
          → fetch_grounds_in hits forced a isa v
          ≡ wide (code_size isa) (half_ground hits forced a) (half_ground hits false (further 2 a))
      by (Some win) h = refl
      by None h = absurd (false≢true h)

  pub outside : in_window a ≡ false → fetch_grounds hits forced isa a ≡ plain_ground a ∷ []
  unfolding fetch_grounds
  outside = by (window a)
    where
      by : (v : Option RomWindow) → is_in v ≡ false → fetch_grounds_in hits forced a isa v ≡ plain_ground a ∷ []
      by (Some win) h = absurd (true≢false h)
      by None h = refl

  -- as bytes
  pub code_in : in_window a ≡ true
      → beat_bytes (fetch_grounds hits forced isa a)
      ≡ ground_byte (half_ground hits forced a)
      ∷ of_arm isa (ground_byte (half_ground hits false (further 2 a))) ∷ zeros
  code_in h =
      ap beat_bytes (in_rom h) ∙ code_bytes isa (half_ground hits forced a) (half_ground hits false (further 2 a))

  pub code_out : in_window a ≡ false
      → beat_bytes (fetch_grounds hits forced isa a) ≡ ground_byte (plain_ground a) ∷ 0 ∷ zeros
  code_out h = ap beat_bytes (outside h)
