-- What is written as bytes is read back, and what was read is written back: for a number of any width, then for a board.
-- `decode_encode` and `encode_decode` say it of a board; what a sound board asks of its bytes besides (length, zero bytes,
-- flags) is here too.
use Rattle.std.specs.Prelude.{◌≡◌, refl, Bool, true, false, get_or, take, drop, eqb}
use Rattle.std.proofs.Common.{sym, ap, ap₂, ◌∙◌, arith, add-one, zero-add, add-zero, suc-add, add_assoc, one-mul, mul-zero, mul-suc, mul_assoc, mul_comm, pow-suc, div-one, mod-eq_of_lt, length-append, length-drop, get_or-append-add, drop-cons, take-add, take_all, take_at, take-take, drop_at, drop-drop, length-take-le, eqb-true, leb-true}
use mathlib.Core.List.{List, [], ◌∷◌, ◌++◌, map, append_assoc, append-nil}
use Prim.Native.Nat.{ℕ, zero, suc, ◌+◌, ◌*◌, ◌/◌, ◌%◌, ◌^◌, ◌≤◌, ◌<◌}
use Rattle.std.proofs.Math.Nat.{pow-succ', one-le-pow, div-div-eq-div-mul}
use Rattle.std.proofs.Math.Arith.{mod-mul}
use Rattle.std.proofs.Math.ListN.{length}
use Rattle.std.proofs.lemmas.List.{take-append-le}
use borrow.Rule.Slice.PartMut.{put_mid}
use Rattle.model.specs.Base.{bit, sum, bytes, byte_at, number, numbers_from, AllBytes, field, encoded, numbers_bytes}
use Rattle.model.specs.Base.{blocks}
use Rattle.model.specs.Waitcnt.{prefetch_enable}
use Rattle.model.specs.Price.{previous}
use Rattle.model.specs.BoardBytes.{board_length, clock_of, halves_from, contents_of, board_of, clock_fields}
use Rattle.model.specs.BoardBytes.{contents_fields, previous_fields, board_bytes, sound_bytes, sound}
use Rattle.model.specs.Laws.Choice.{All}
use Rattle.model.proofs.Laws.Choice.{parts}
use Rattle.model.specs.declared.Board.{Board}
use Rattle.model.specs.Laws.Codec.{fields_at, ClockFits, HalvesFit, ContentsFits, Fits, WellFormed, inner, widths}

-- ---- numbers of any width

pub bytes_length : (n v : ℕ) → length (bytes n v) ≡ n
bytes_length zero v = refl
bytes_length (suc n) v = ap suc (bytes_length n (v / 256))

-- bytes in front only shift the place
pub number_past : (n : ℕ) (xs ys : List ℕ) (i : ℕ) → number n (xs ++ ys) (length xs + i) ≡ number n ys i
number_past zero xs ys i = refl
number_past (suc n) xs ys i = rw (get_or-append-add, add_assoc, number_past n xs ys)

pub number_bytes : (n v : ℕ) (rest : List ℕ) → number n (bytes n v ++ rest) 0 ≡ v % 256 ^ n
number_bytes zero v rest = omega arith
number_bytes (suc n) v rest =
    let tail : List ℕ = bytes n (v / 256) ++ rest in
    let high : number n (v % 256 ∷ tail) 1 ≡ v / 256 % 256 ^ n =
    number_past n (v % 256 ∷ []) tail 0 ∙ number_bytes n (v / 256) rest in
    rw (high, pow-suc, mod-mul v {m = 256 ^ n} {c = 256} (one-le-pow n 256 (omega arith)) (omega arith)) (omega arith)

pub number_fits : (n v : ℕ) (rest : List ℕ) → v < 256 ^ n → number n (bytes n v ++ rest) 0 ≡ v
number_fits n v rest h = number_bytes n v rest ∙ mod-eq_of_lt h

pub number_below : (n i : ℕ) (b : List ℕ) → AllBytes b → number n b i < 256 ^ n
number_below zero i b h = omega arith
number_below (suc n) i b h = rw pow-suc (omega (arith, h i, number_below n (i + 1) b h))

pub bytes_number : (n i : ℕ) (b : List ℕ) → AllBytes b → i + n ≤ length b → bytes n (number n b i) ≡ take n (drop i b)
bytes_number zero i b h l = refl
bytes_number (suc n) i b h l =
    let low : (byte_at b i + 256 * number n b (i + 1)) % 256 ≡ byte_at b i = omega (arith, h i) in
    let high : (byte_at b i + 256 * number n b (i + 1)) / 256 ≡ number n b (i + 1) = omega (arith, h i) in
    rw (low, high, bytes_number n (i + 1) b h (omega arith), drop-cons b i 0 (omega arith), add-one)

-- so many bytes, and the rest behind them
pub number_add : (m n : ℕ) (b : List ℕ) (i : ℕ) → number (m + n) b i ≡ number m b i + 256 ^ m * number n b (i + m)
number_add zero n b i = simp (zero-add, add-zero, one-mul)
number_add (suc m) n b i =
    let e : i + suc m ≡ i + 1 + m = omega arith in
    rw (suc-add, number_add m n b (i + 1), pow-suc, e)
    (omega (arith, mul_assoc (256 ^ m) 256 (number n b (i + 1 + m)), mul_comm (256 ^ m) 256))

pub bytes_add : (m n v : ℕ) → bytes (m + n) v ≡ bytes m (v % 256 ^ m) ++ bytes n (v / 256 ^ m)
bytes_add zero n v = simp (zero-add, div-one)
bytes_add (suc m) n v =
    let one = one-le-pow m 256 (omega arith) in
    let cut = rw (← pow-suc) at (mod-mul v {m = 256 ^ m} {c = 256} one (omega arith)) in
    let low : v % 256 ^ suc m % 256 ≡ v % 256 = omega (arith, cut) in
    let high : v % 256 ^ suc m / 256 ≡ v / 256 % 256 ^ m = omega (arith, cut) in
    rw (suc-add, bytes_add m n (v / 256), low, high, pow-succ', ← div-div-eq-div-mul)

-- ---- fields

-- such fields are written as they stood
fields_back : (ws b : List ℕ) (i : ℕ) → AllBytes b → i + sum ws ≤ length b → encoded (fields_at ws b i) ≡ take (sum ws) (drop i b)
fields_back [] b i h l = refl
fields_back (w ∷ ws) b i h l =
    rw (bytes_number w i b h (omega arith), fields_back ws b (i + w) h (omega arith), take-add, drop-drop)

-- ---- numbers of one width, one behind the other

pub numbers_length : (w : ℕ) (xs : List ℕ) → length (numbers_bytes w xs) ≡ w * length xs
numbers_length w [] = sym (mul-zero w)
numbers_length w (x ∷ xs) =
    length-append (bytes w x) (numbers_bytes w xs) ∙ ap₂ (λ (a b : ℕ). a + b) (bytes_length w x) (numbers_length w xs)
    ∙ omega (arith, mul-suc w (length xs))

-- one more
pub numbers_snoc : (w : ℕ) (xs : List ℕ) (x : ℕ) → numbers_bytes w (xs ++ x ∷ []) ≡ numbers_bytes w xs ++ bytes w x
numbers_snoc w [] x = append-nil (bytes w x)
numbers_snoc w (y ∷ xs) x =
    ap (λ (t : List ℕ). bytes w y ++ t) (numbers_snoc w xs x)
    ∙ sym (append_assoc (bytes w y) (numbers_bytes w xs) (bytes w x))

numbers_past : (w : ℕ) (xs ys : List ℕ) (i n : ℕ) → numbers_from w (xs ++ ys) (length xs + i) n ≡ numbers_from w ys i n
numbers_past w xs ys i zero = refl
numbers_past w xs ys i (suc n) = rw (number_past, add_assoc, numbers_past w xs ys (i + w) n)

-- they are read back
pub numbers_back : (w : ℕ) (xs rest : List ℕ) → ((i : ℕ) → get_or xs i 0 < 256 ^ w)
    → numbers_from w (numbers_bytes w xs ++ rest) 0 (length xs) ≡ xs
numbers_back w [] rest h = refl
numbers_back w (x ∷ xs) rest h =
    ap₂ (λ (y : ℕ) (ys : List ℕ). y ∷ ys)
    (ap (λ (b : List ℕ). number w b 0) (append_assoc (bytes w x) (numbers_bytes w xs) rest)
    ∙ number_fits w x (numbers_bytes w xs ++ rest) (h 0))
    (ap₂ (λ (b : List ℕ) (i : ℕ). numbers_from w b i (length xs)) (append_assoc (bytes w x) (numbers_bytes w xs) rest) behind
    ∙ numbers_past w (bytes w x) (numbers_bytes w xs ++ rest) 0 (length xs) ∙ numbers_back w xs rest (λ i. h (suc i)))
  where
    behind : 0 + w ≡ length (bytes w x) + 0
    behind = omega (arith, bytes_length w x)

-- number k of them
pub numbers_at : (w : ℕ) (b : List ℕ) (i n k : ℕ) → k < n → get_or (numbers_from w b i n) k 0 ≡ number w b (i + w * k)
numbers_at w b i zero k h = absurd (omega arith)
numbers_at w b i (suc n) zero h = ap (number w b) (omega (arith, mul-zero w))
numbers_at w b i (suc n) (suc k) h =
    numbers_at w b (i + w) n k (omega arith) ∙ ap (number w b) (omega (arith, mul-suc w k))

-- each fits its bytes
numbers_below : (w : ℕ) (b : List ℕ) → AllBytes b → (i n j : ℕ) → get_or (numbers_from w b i n) j 0 < 256 ^ w
numbers_below w b h i zero j = one-le-pow w 256 (omega arith)
numbers_below w b h i (suc n) zero = number_below w i b h
numbers_below w b h i (suc n) (suc j) = numbers_below w b h (i + w) n j

-- ---- blocks of one width, one behind the other

module _ {A : Type 0} (w : ℕ) (f : A → List ℕ) where
  abbrev pub OfWidth : A → Type 0
  OfWidth x = length (f x) ≡ w

  pub blocks_length : (xs : List A) → All OfWidth xs → length (blocks f xs) ≡ w * length xs
  blocks_length [] h = sym (mul-zero w)
  blocks_length (x ∷ xs) h =
      length-append (f x) (blocks f xs) ∙ ap₂ (λ (a b : ℕ). a + b) h.0 (blocks_length xs h.1)
      ∙ omega (arith, mul-suc w (length xs))

  -- block k
  pub block_there : (xs : List A) (rest : List ℕ) (k : ℕ) (d : A) → All OfWidth xs → k < length xs
      → take w (drop (w * k) (blocks f xs ++ rest)) ≡ f (get_or xs k d)
  block_there [] rest k d h l = absurd (omega arith)
  block_there (x ∷ xs) rest zero d h l =
      ap (λ (n : ℕ). take w (drop n (blocks f (x ∷ xs) ++ rest))) (mul-zero w)
      ∙ ap (take w) (append_assoc (f x) (blocks f xs) rest)
      ∙ take_at (f x) (blocks f xs ++ rest) w h.0
  block_there (x ∷ xs) rest (suc k) d h l =
      let e : w * suc k ≡ w + w * k = omega (arith, mul-suc w k) in
      ap (λ (n : ℕ). take w (drop n (blocks f (x ∷ xs) ++ rest))) e
      ∙ ap (take w) (sym (drop-drop (w * k) w (blocks f (x ∷ xs) ++ rest)))
      ∙ ap (λ (b : List ℕ). take w (drop (w * k) b))
      (ap (drop w) (append_assoc (f x) (blocks f xs) rest) ∙ drop_at (f x) (blocks f xs ++ rest) w h.0)
      ∙ block_there xs rest k d h.1 (omega arith)

-- one more
pub blocks_snoc : {A : Type 0} (f : A → List ℕ) (xs : List A) (x : A) → blocks f (xs ++ x ∷ []) ≡ blocks f xs ++ f x
blocks_snoc f [] x = append-nil (f x)
blocks_snoc f (y ∷ xs) x =
    ap (λ (t : List ℕ). f y ++ t) (blocks_snoc f xs x) ∙ sym (append_assoc (f y) (blocks f xs) (f x))

-- ---- parts of one width, written one behind the other

-- behind k of them, which are done, the next one comes
pub put_next : (w k : ℕ) (done lent new : List ℕ) → length done ≡ w * k
    → put_mid (w * k) w (done ++ drop (w * k) lent) new ≡ (done ++ new) ++ drop (w * (k + 1)) lent
put_next w k done lent new e =
    let next : w * k + w ≡ w * (k + 1) = rw (add-one, mul-suc) in
    ap₂ (λ (x y : List ℕ). x ++ (new ++ drop w y)) (take_at done _ (w * k) e) (drop_at done _ (w * k) e)
    ∙ sym (append_assoc done new _)
    ∙ ap (λ (l : List ℕ). (done ++ new) ++ l) (drop-drop w (w * k) lent ∙ ap (λ (j : ℕ). drop j lent) next)

-- from the back on: before those that are done, the part before them comes
pub put_before : (a w : ℕ) (lent done new : List ℕ) → a + w ≤ length lent
    → put_mid a w (take (a + w) lent ++ done) new ≡ take a lent ++ (new ++ done)
put_before a w lent done new h =
    let size : length (take (a + w) lent) ≡ a + w = length-take-le (a + w) lent h in
    ap₂ (λ (x y : List ℕ). x ++ (new ++ y))
    (take-append-le a (take (a + w) lent) done (omega (arith, size)) ∙ take-take a (a + w) lent (omega arith))
    (drop-drop w a (take (a + w) lent ++ done) ∙ drop_at (take (a + w) lent) done (a + w) size)

-- which is still as it was lent
pub mid_before : (a w : ℕ) (lent done : List ℕ) → a + w ≤ length lent
    → take w (drop a (take (a + w) lent ++ done)) ≡ take w (drop a lent)
mid_before a w lent done h =
    let size : length (take a lent) ≡ a = length-take-le a lent (omega arith) in
    let part : length (take w (drop a lent)) ≡ w = length-take-le w (drop a lent) (omega (arith, length-drop a lent)) in
    ap (λ (l : List ℕ). take w (drop a (l ++ done))) (take-add a w lent)
    ∙ ap (λ (l : List ℕ). take w (drop a l)) (append_assoc (take a lent) (take w (drop a lent)) done)
    ∙ ap (take w) (drop_at (take a lent) _ a size)
    ∙ take_at (take w (drop a lent)) done w part

-- ---- a board whose fields fit their bytes

-- what is read from bytes fits them
pub decoded_fits : (b : List ℕ) → AllBytes b → Fits (board_of b)
unfolding clock_of contents_of
decoded_fits b h =
    record {
      clock_fits =
          record {
            waitcnt_fits = number_below 2 0 b h;
            head_fits_law = h 3;
            count_fits = h 4;
            wait_left_fits = number_below 4 8 b h;
            next_addr_fits = number_below 4 12 b h;
            head_addr_fits = number_below 4 16 b h;
            switch = refl;
            prev_addr_fits = number_below 4 68 b h;
            prev_size_fits = h 72;
          };
      halves_fit = record { eight = refl; halves_fit = numbers_below 2 b h 20 8 };
      contents_fits =
          record {
            pc_fits = number_below 4 36 b h;
            opcode_fits = number_below 4 40 b h;
            vram_fits = number_below 8 44 b h;
            oam_fits = number_below 8 52 b h;
            palette_fits = number_below 8 60 b h;
          };
    }

-- ---- the written board

-- The clock's 20 bytes stand in front and have fixed widths, so places in them compute.
pub zero_byte_law : (b : Board) → byte_at (board_bytes b) 7 ≡ 0
unfolding board_bytes
zero_byte_law b = refl

pub flag_byte : (t : Bool) → bit t % 256 ≡ bit t
flag_byte true = refl
flag_byte false = refl

pub force_byte : (b : Board) → byte_at (board_bytes b) 2 ≡ bit b.clock.force_next_fetch_n
unfolding board_bytes
force_byte b = flag_byte b.clock.force_next_fetch_n

pub filling_byte : (b : Board) → byte_at (board_bytes b) 5 ≡ bit b.clock.prefetch.filling
unfolding board_bytes
filling_byte b = flag_byte b.clock.prefetch.filling

pub first_byte : (b : Board) → byte_at (board_bytes b) 6 ≡ bit b.clock.prefetch.first_beat
unfolding board_bytes
first_byte b = flag_byte b.clock.prefetch.first_beat

-- Past the halfwords a place is known only once their number is.
module _ (b : Board) (eight : length b.halves ≡ 8) where
  pub board_length_law : length (board_bytes b) ≡ board_length
  unfolding board_bytes
  board_length_law = simp (length-append, numbers_length, eight)

  -- what stands there
  abbrev tail : List ℕ
  tail = encoded (contents_fields b.contents ++ previous_fields (previous b.clock))

  past_halves : (n i : ℕ) → number n (board_bytes b) (36 + i) ≡ number n tail i
  unfolding board_bytes
  past_halves n i =
      let front : List ℕ = encoded (clock_fields b.clock) ++ numbers_bytes 2 b.halves in
      let e : 36 ≡ length front = simp (numbers_length, eight) in
      rw e (number_past n front tail i)

  pub zero_bytes : number 7 (board_bytes b) 73 ≡ 0
  zero_bytes = past_halves 7 37

  -- v stands in the n bytes i places past the halfwords
  back : (n i v : ℕ) → number n tail i ≡ number n (bytes n v ++ []) 0 → v < 256 ^ n → number n (board_bytes b) (36 + i) ≡ v
  back n i v e h = past_halves n i ∙ e ∙ number_fits n v [] h

  prev_size_back : b.clock.previous.size < 256 → byte_at (board_bytes b) 72 ≡ b.clock.previous.size
  prev_size_back h = one 72 ∙ back 1 36 b.clock.previous.size refl h
    where
      one : (i : ℕ) → byte_at (board_bytes b) i ≡ number 1 (board_bytes b) i
      one i = omega arith

-- ---- written, then read

flag_back : (t : Bool) → eqb (bit t % 256) 1 ≡ t
flag_back true = refl
flag_back false = refl

pub clock_back : (b : Board) → length b.halves ≡ 8 → ClockFits b.clock → clock_of (board_bytes b) ≡ b.clock
unfolding clock_of board_bytes
clock_back b eight k x =
    record {
      waitcnt = waitcnt_back x;
      force_next_fetch_n = flag_back b.clock.force_next_fetch_n x;
      prefetch =
          record {
            head = mod-eq_of_lt k.head_fits_law x;
            count = mod-eq_of_lt k.count_fits x;
            next_addr = number_fits 4 b.clock.prefetch.next_addr [] k.next_addr_fits x;
            wait_left = number_fits 4 b.clock.prefetch.wait_left [] k.wait_left_fits x;
            head_addr = number_fits 4 b.clock.prefetch.head_addr [] k.head_addr_fits x;
            enabled = (ap prefetch_enable waitcnt_back ∙ sym k.switch) x;
            filling = flag_back b.clock.prefetch.filling x;
            first_beat = flag_back b.clock.prefetch.first_beat x;
          };
      previous =
          record {
            addr = back b eight 4 32 b.clock.previous.addr refl k.prev_addr_fits x;
            size = prev_size_back b eight k.prev_size_fits x;
          };
    }
  where
    waitcnt_back : number 2 (bytes 2 b.clock.waitcnt) 0 ≡ b.clock.waitcnt
    waitcnt_back = number_fits 2 b.clock.waitcnt [] k.waitcnt_fits

pub halves_back_in : (b : Board) → HalvesFit b.halves → halves_from (board_bytes b) 20 8 ≡ b.halves
unfolding board_bytes
halves_back_in b k = rw k.eight at (numbers_back 2 b.halves (tail b k.eight) k.halves_fit)

pub contents_back : (b : Board) → length b.halves ≡ 8 → ContentsFits b.contents → contents_of (board_bytes b) ≡ b.contents
unfolding contents_of
contents_back b eight k x =
    record {
      cpu_pc = back b eight 4 0 b.contents.cpu_pc refl k.pc_fits x;
      last_bios_opcode = back b eight 4 4 b.contents.last_bios_opcode refl k.opcode_fits x;
      vram_write_count = back b eight 8 8 b.contents.vram_write_count refl k.vram_fits x;
      oam_write_count = back b eight 8 16 b.contents.oam_write_count refl k.oam_fits x;
      palette_write_count = back b eight 8 24 b.contents.palette_write_count refl k.palette_fits x;
    }

pub decode_encode : (b : Board) → Fits b → board_of (board_bytes b) ≡ b
decode_encode b k x =
    record {
      clock = clock_back b k.halves_fit.eight k.clock_fits x;
      halves = halves_back_in b k.halves_fit x;
      contents = contents_back b k.halves_fit.eight k.contents_fits x;
    }

-- ---- read, then written

pub sound_formed : (b : List ℕ) → sound b ≡ true → WellFormed b
unfolding sound sound_bytes
sound_formed b e =
    record {
      size = eqb-true (length b) board_length (search parts);
      zero₇ = eqb-true (byte_at b 7) 0 (search parts depth 8);
      zero₇₃ = eqb-true (number 7 b 73) 0 (search parts depth 8);
      flag₂ = leb-true (byte_at b 2) 1 (search parts depth 7);
      flag₅ = leb-true (byte_at b 5) 1 (search parts);
      flag₆ = leb-true (byte_at b 6) 1 (search parts);
    }

bit_back : (v : ℕ) → v ≤ 1 → bit (eqb v 1) ≡ v
bit_back zero h = refl
bit_back (suc zero) h = refl
bit_back (suc (suc v)) h = absurd (omega arith)

-- the fields that are written are those that stood
fields_read : (b : List ℕ) → WellFormed b
    → clock_fields (clock_of b)
    ++ (map (field 2) (halves_from b 20 8) ++ (contents_fields (contents_of b) ++ previous_fields (previous (clock_of b))))
    ≡ fields_at widths b 0
unfolding clock_of contents_of
fields_read b k x =
    field 2 (number 2 b 0)
    ∷ field 1 (flag 2 k.flag₂ x)
    ∷ field 1 (one 3 x)
    ∷ field 1 (one 4 x)
    ∷ field 1 (flag 5 k.flag₅ x)
    ∷ field 1 (flag 6 k.flag₆ x)
    ∷ field 1 ((sym k.zero₇ ∙ one 7) x)
    ∷ (fields_at inner b 8 ++ (field 1 (one 72 x) ∷ field 7 (sym k.zero₇₃ x) ∷ []))
  where
    one : (i : ℕ) → byte_at b i ≡ number 1 b i
    one i = omega arith

    flag : (i : ℕ) → byte_at b i ≤ 1 → bit (eqb (byte_at b i) 1) ≡ number 1 b i
    flag i h = bit_back (byte_at b i) h ∙ one i

pub encode_formed : (b : List ℕ) → AllBytes b → WellFormed b → board_bytes (board_of b) ≡ b
unfolding board_bytes clock_of contents_of
encode_formed b h k =
    ap encoded (fields_read b k) ∙ fields_back widths b 0 h (omega arith) ∙ take_all board_length b (omega arith)

pub encode_decode : (b : List ℕ) → AllBytes b → sound b ≡ true → board_bytes (board_of b) ≡ b
encode_decode b h e = encode_formed b h (sound_formed b e)
