-- How many bytes of a store land. The number is the length of the list of bytes that land; here is what it says: they are so many
-- different bytes of the lent store, each holds afterwards what was stored, and which they are hangs on lengths, display mode,
-- size and address alone.
use Rattle.std.specs.Prelude.{◌≡◌, refl, Bool, true, false, List, [], ◌∷◌, ◌++◌, ℕ, zero, suc, ◌+◌, ◌-◌, ◌*◌, ◌/◌, ◌%◌, ◌≤◌, ◌<◌, min, length, get_or, set, ltb}
use Rattle.std.proofs.Common.{sym, ap, ap₂, ◌∙◌, ⊎_elim, arith, zero-add, add-zero, length-append, length-set, get_or-set_same, ltb-true, ltb-false}
use Rattle.std.proofs.lemmas.Bool.{false≢true}
use Rattle.std.proofs.lemmas.List.{map-append, length-map}
use Rattle.std.proofs.Math.Nat.{zero-min, min-zero, suc-min-suc, min-le_left}
use Rattle.std.specs.Prelude.{if◌then◌else◌}
use Rattle.model.specs.Base.{bit, further, lowered, byte_of}
use Rattle.model.specs.Wait.{size_bytes_of}
use Rattle.model.specs.Video.{fills}
use Rattle.model.specs.Memory.{lengths_sum, target, is_sram}
use Rattle.model.specs.Store.{Put, landed, put, put_bytes, mode_of, video_puts, puts_at, puts}
use Rattle.model.specs.Step.{Media, State, timed, stores, block_stores, changed, answer}
use Rattle.model.specs.Laws.Choice.{All}
use Rattle.model.proofs.Laws.Choice.{choose, choose₂, by_test, bit≤1}
use Rattle.model.specs.Laws.Stores.{Names}
use Rattle.model.proofs.Laws.Stores.{unnamed_stays, put_bytes_two}
use Rattle.model.specs.Laws.Places.{Lies}
use Rattle.model.proofs.Laws.Places.{target_lies}
use Rattle.model.specs.declared.AccessSize.{AccessSize}
use Rattle.model.specs.declared.AccessSize.TheVariants.{Byte, Half, Word}
use Rattle.model.specs.declared.Contents.{Contents}
use Rattle.model.specs.declared.Lengths.{Lengths}
use Rattle.model.specs.declared.Part.{Part}
use Rattle.model.specs.declared.VideoMemory.{VideoMemory}
use Rattle.model.specs.declared.Target.{Target}
use Rattle.model.specs.declared.Target.TheVariants.{Unused, SystemRom, GamePakRom, Plain, Video, Sram}
use Rattle.model.specs.declared.Step.{Step}
use Rattle.model.specs.declared.Step.TheVariants.{Write}
use Rattle.model.specs.Laws.Landed.{inside, places_of, widest, Written}

-- ---- the number

-- one byte lands, or none
pub put_lands : (p : Part) (i v : ℕ) → length (put p i v) ≡ bit (ltb i p.size)
unfolding put
put_lands p i v = lands_one (ltb i p.size)
  where
    lands_one : (t : Bool) → length {A = Put} (if t then record { place = p.base + i; byte = v } ∷ [] else []) ≡ bit t
    lands_one true = refl
    lands_one false = refl

one_more : (n k i : ℕ) → bit (ltb i k) + min n (k - (i + 1)) ≡ min (suc n) (k - i)
one_more n k i =
    by_test (ltb i k)
    (λ e.
    let h : i < k = ltb-true i k e in
    let next : k - i ≡ suc (k - (i + 1)) = omega arith in
    let more : min (suc n) (k - i) ≡ suc (min n (k - (i + 1))) = ap (min (suc n)) next ∙ suc-min-suc n (k - (i + 1)) in
    rw e (omega (arith, more)))
    (λ e.
    let h : k ≤ i = ltb-false i k e in
    let none : k - i ≡ 0 = omega arith in
    let behind : k - (i + 1) ≡ 0 = omega arith in
    rw (e, none, behind, min-zero n, min-zero (suc n)))

pub bytes_land : (p : Part) (i n v : ℕ) → length (put_bytes p i n v) ≡ inside p i n
bytes_land p i zero v = sym (zero-min (p.size - i))
bytes_land p i (suc n) v =
    length-append (put p i (v % 256)) (put_bytes p (i + 1) n (v / 256))
    ∙ ap₂ (λ (x y : ℕ). x + y) (put_lands p i (v % 256)) (bytes_land p (i + 1) n (v / 256))
    ∙ one_more n p.size i

-- ---- which bytes they are, and so how many, is the same for every stored value: it hangs on lengths, display mode, size and

-- address alone

put_places : (p : Part) (i v u : ℕ) → places_of (put p i v) ≡ places_of (put p i u)
unfolding put
put_places p i v u = choose₂ (λ (ps qs : List Put). places_of ps ≡ places_of qs) (ltb i p.size) (λ e. refl) (λ e. refl)

bytes_places : (p : Part) (i n v u : ℕ) → places_of (put_bytes p i n v) ≡ places_of (put_bytes p i n u)
bytes_places p i zero v u = refl
bytes_places p i (suc n) v u =
    map-append (λ (x : Put). x.place) (put p i (v % 256)) (put_bytes p (i + 1) n (v / 256))
    ∙ ap₂ (λ (xs ys : List ℕ). xs ++ ys) (put_places p i (v % 256) (u % 256)) (bytes_places p (i + 1) n (v / 256) (u / 256))
    ∙ sym (map-append (λ (x : Put). x.place) (put p i (u % 256)) (put_bytes p (i + 1) n (u / 256)))

video_places : (fill : Bool) (z : AccessSize) (p : Part) (i v u : ℕ)
    → places_of (video_puts fill z p i v) ≡ places_of (video_puts fill z p i u)
video_places true Byte p i v u = bytes_places p (lowered 2 i) 2 (0x0101 * (v % 256)) (0x0101 * (u % 256))
video_places false Byte p i v u = refl
video_places fill Half p i v u = bytes_places p (lowered 2 i) 2 v u
video_places fill Word p i v u = bytes_places p (lowered 4 i) 4 v u

places_at : (mode : ℕ) (z : AccessSize) (a v u : ℕ) (t : Target)
    → places_of (puts_at mode z a v t) ≡ places_of (puts_at mode z a u t)
places_at mode z a v u Unused = refl
places_at mode z a v u SystemRom = refl
places_at mode z a v u GamePakRom = refl
places_at mode z a v u (Plain p i) = bytes_places p (lowered (size_bytes_of z) i) (size_bytes_of z) v u
places_at mode z a v u (Video m p i) = video_places (fills mode m i) z p i v u
places_at mode z a v u (Sram p i) = put_places p i (byte_of (a % size_bytes_of z) v) (byte_of (a % size_bytes_of z) u)

pub same_places : (l : Lengths) (mode : ℕ) (z : AccessSize) (a v u : ℕ)
    → places_of (puts l mode z a v) ≡ places_of (puts l mode z a u)
unfolding puts
same_places l mode z a v u = places_at mode z a v u (target l a)

pub any_value : (l : Lengths) (mode : ℕ) (z : AccessSize) (a v u : ℕ)
    → length (puts l mode z a v) ≡ length (puts l mode z a u)
any_value l mode z a v u =
    sym (length-map (puts l mode z a v) (λ (p : Put). p.place))
    ∙ ap length (same_places l mode z a v u)
    ∙ length-map (puts l mode z a u) (λ (p : Put). p.place)

-- ---- of an expanded video byte each of the two bytes counts that lies within the memory

pub expanded_byte : (mode a v : ℕ) (m : VideoMemory) (p : Part) (i : ℕ) → fills mode m i ≡ true
    → length (puts_at mode Byte a v (Video m p i)) ≡ bit (ltb (lowered 2 i) p.size) + bit (ltb (lowered 2 i + 1) p.size)
expanded_byte mode a v m p i e =
    ap (λ (t : Bool). length (video_puts t Byte p i v)) e
    ∙ ap length (put_bytes_two p (lowered 2 i) (0x0101 * (v % 256)))
    ∙ length-append (put p (lowered 2 i) (0x0101 * (v % 256) % 256)) (put p (lowered 2 i + 1) (0x0101 * (v % 256) / 256 % 256))
    ∙ ap₂ (λ (x y : ℕ). x + y) (put_lands p (lowered 2 i) _) (put_lands p (lowered 2 i + 1) _)

-- ---- at most so many

pub bytes_few : (p : Part) (i n v : ℕ) → length (put_bytes p i n v) ≤ n
bytes_few p i n v = rw (bytes_land p i n v) (min-le_left n (p.size - i))

pub put_few : (p : Part) (i v : ℕ) → length (put p i v) ≤ 1
put_few p i v = rw (put_lands p i v) (bit≤1 (ltb i p.size))

size_widest : (z : AccessSize) → size_bytes_of z ≤ widest z
size_widest Byte = omega arith
size_widest Half = omega arith
size_widest Word = omega arith

some_byte : (z : AccessSize) → 1 ≤ widest z
some_byte Byte = omega arith
some_byte Half = omega arith
some_byte Word = omega arith

video_few : (fill : Bool) (z : AccessSize) (p : Part) (i v : ℕ) → length (video_puts fill z p i v) ≤ widest z
video_few true Byte p i v = bytes_few p (lowered 2 i) 2 (0x0101 * (v % 256))
video_few false Byte p i v = omega arith
video_few fill Half p i v = bytes_few p (lowered 2 i) 2 v
video_few fill Word p i v = bytes_few p (lowered 4 i) 4 v

few_at : (mode : ℕ) (z : AccessSize) (a v : ℕ) (t : Target) → length (puts_at mode z a v t) ≤ widest z
few_at mode z a v Unused = omega arith
few_at mode z a v SystemRom = omega arith
few_at mode z a v GamePakRom = omega arith
few_at mode z a v (Plain p i) =
    omega (arith, bytes_few p (lowered (size_bytes_of z) i) (size_bytes_of z) v, size_widest z)
few_at mode z a v (Video m p i) = video_few (fills mode m i) z p i v
few_at mode z a v (Sram p i) = omega (arith, put_few p i (byte_of (a % size_bytes_of z) v), some_byte z)

pub few_land : (l : Lengths) (mode : ℕ) (z : AccessSize) (a v : ℕ) → length (puts l mode z a v) ≤ widest z
unfolding puts
few_land l mode z a v = few_at mode z a v (target l a)

widest≤4 : (z : AccessSize) → widest z ≤ 4
widest≤4 Byte = omega arith
widest≤4 Half = omega arith
widest≤4 Word = omega arith

pub four_land : (l : Lengths) (mode : ℕ) (z : AccessSize) (a v : ℕ) → length (puts l mode z a v) ≤ 4
four_land l mode z a v = omega (arith, few_land l mode z a v, widest≤4 z)

-- a store to SRAM lands one byte or none, at every size
pub sram_one : (l : Lengths) (mode : ℕ) (z : AccessSize) (a v : ℕ) → is_sram (target l a) ≡ true
    → length (puts l mode z a v) ≤ 1
unfolding puts
sram_one l mode z a v = by_target (target l a)
  where
    by_target : (t : Target) → is_sram t ≡ true → length (puts_at mode z a v t) ≤ 1
    by_target Unused e = absurd (false≢true e)
    by_target SystemRom e = absurd (false≢true e)
    by_target GamePakRom e = absurd (false≢true e)
    by_target (Plain p i) e = absurd (false≢true e)
    by_target (Video m p i) e = absurd (false≢true e)
    by_target (Sram p i) e = put_few p i (byte_of (a % size_bytes_of z) v)

-- a block lands four bytes a word at most, each a byte of the store
pub block_land : (l : Lengths) (d : Contents) (s : List ℕ) (a n : ℕ) → length (block_stores l d s a n).puts ≤ 4 * n
block_land l d s a zero = omega arith
block_land l d s a (suc n) =
    let word = stores l d s Word a 0 in
    let rest = block_stores l word.contents (landed s word.puts) (further 4 a) n in
    omega (
      arith,
      length-append word.puts rest.puts,
      four_land l (mode_of l s) Word a 0,
      block_land l word.contents (landed s word.puts) (further 4 a) n,
    )

-- ---- none leaves the store as it was

pub none_lands : (s : List ℕ) (ps : List Put) → length ps ≡ 0 → landed s ps ≡ s
none_lands s [] e = refl
none_lands s (p ∷ ps) e = absurd (omega arith)

-- ---- they are so many bytes of the store: its own, different ones, and each holds what was stored

pub all_hold : (s : List ℕ) (ps : List Put) → Written (length s) ps
    → All (λ (p : Put). get_or (landed s ps) p.place 0 ≡ p.byte) ps
all_hold s [] w = tt
all_hold s (p ∷ ps) w = (
  unnamed_stays (set s p.place p.byte) ps p.place w.apart.0
      ∙ get_or-set_same s p.place p.byte 0 w.own.0,
  all_hold (set s p.place p.byte) ps
      (record { own = rw (length-set s p.place p.byte) w.own.1; apart = w.apart.1 }),
)

-- a byte is behind those before it
later : (p : Part) (i n v j : ℕ) → Names j (put_bytes p i n v) → p.base + i ≤ j
unfolding put
later p i zero v j = λ h. absurd h
later p i (suc n) v j =
    choose (λ (ps : List Put). Names j (ps ++ put_bytes p (i + 1) n (v / 256)) → p.base + i ≤ j) (ltb i p.size)
    (λ e. ⊎_elim (λ at. omega arith) (λ h. omega (arith, later p (i + 1) n (v / 256) j h)))
    (λ e h. omega (arith, later p (i + 1) n (v / 256) j h))

bytes_written : (k : ℕ) (p : Part) (i n v : ℕ) → p.base + p.size ≤ k → Written k (put_bytes p i n v)
unfolding put
bytes_written k p i zero v h = record { own = tt; apart = tt }
bytes_written k p i (suc n) v h =
    let rest : Written k (put_bytes p (i + 1) n (v / 256)) = bytes_written k p (i + 1) n (v / 256) h in
    choose (λ (ps : List Put). Written k (ps ++ put_bytes p (i + 1) n (v / 256))) (ltb i p.size)
    (λ e.
    record {
      own = (omega (arith, ltb-true i p.size e), rest.own);
      apart = ((λ names. absurd (omega (arith, later p (i + 1) n (v / 256) (p.base + i) names))), rest.apart);
    })
    (λ e. rest)

video_written : (k : ℕ) (fill : Bool) (z : AccessSize) (p : Part) (i v : ℕ) → p.base + p.size ≤ k
    → Written k (video_puts fill z p i v)
video_written k true Byte p i v h = bytes_written k p (lowered 2 i) 2 (0x0101 * (v % 256)) h
video_written k false Byte p i v h = record { own = tt; apart = tt }
video_written k fill Half p i v h = bytes_written k p (lowered 2 i) 2 v h
video_written k fill Word p i v h = bytes_written k p (lowered 4 i) 4 v h

written_at : (k mode : ℕ) (z : AccessSize) (a v : ℕ) (t : Target) → Lies k t → Written k (puts_at mode z a v t)
unfolding put
written_at k mode z a v Unused h = record { own = tt; apart = tt }
written_at k mode z a v SystemRom h = record { own = tt; apart = tt }
written_at k mode z a v GamePakRom h = record { own = tt; apart = tt }
written_at k mode z a v (Plain p i) h = bytes_written k p (lowered (size_bytes_of z) i) (size_bytes_of z) v h.end
written_at k mode z a v (Video m p i) h = video_written k (fills mode m i) z p i v h.end
written_at k mode z a v (Sram p i) h =
    choose (λ (ps : List Put). Written k ps) (ltb i p.size)
    (λ e. record { own = (omega (arith, ltb-true i p.size e, h.end), tt); apart = ((λ names. names), tt) })
    (λ e. record { own = tt; apart = tt })

pub written : (l : Lengths) (mode : ℕ) (z : AccessSize) (a v : ℕ) → Written (lengths_sum l) (puts l mode z a v)
unfolding puts
written l mode z a v = written_at (lengths_sum l) mode z a v (target l a) (target_lies l a)

own_append : (k : ℕ) (ps qs : List Put) → All (λ (p : Put). p.place < k) ps → All (λ (p : Put). p.place < k) qs
    → All (λ (p : Put). p.place < k) (ps ++ qs)
own_append k [] qs f g = g
own_append k (p ∷ ps) qs f g = (f.0, own_append k ps qs f.1 g)

pub block_own : (l : Lengths) (d : Contents) (s : List ℕ) (a n : ℕ)
    → All (λ (p : Put). p.place < lengths_sum l) (block_stores l d s a n).puts
block_own l d s a zero = tt
block_own l d s a (suc n) =
    let word = stores l d s Word a 0 in
    own_append (lengths_sum l) word.puts _ (written l (mode_of l s) Word a 0).own
    (block_own l word.contents (landed s word.puts) (further 4 a) n)

-- ---- the hits byte

pub write_hits : (m : Media) (s : State) (z : AccessSize) (a v : ℕ)
    → (answer m s (Write z a v)).hits ≡ length (puts m.lengths (mode_of m.lengths s.store) z a v)
write_hits m s z a v = zero-add (length (puts m.lengths (mode_of m.lengths s.store) z a v))

-- a step that stores nothing has what it takes from the buffer
pub other_hits : (m : Media) (s : State) (x : Step) → (changed m s x).puts ≡ []
    → (answer m s x).hits ≡ (timed s.board.clock x).hits
other_hits m s x e =
    ap (λ (ps : List Put). (timed s.board.clock x).hits + length ps) e ∙ add-zero (timed s.board.clock x).hits
