-- Laws of a sheet of version 1 to which record after record is written: those before stay as they are. Assumes nothing.
use Rattle.std.proofs.Common.{◌≡◌, List, [], ◌∷◌, ◌++◌, ℕ, zero, suc, ◌+◌, ◌*◌, ◌≤◌, ◌<◌, length, take, map, get_or}
use Rattle.std.proofs.Common.{refl, sym, ap, ap₂, ◌∙◌, arith, length-append, length-drop}
use Rattle.std.proofs.Math.ListN.{get_or-append}
use Rattle.std.proofs.lemmas.List.{take_at, take_more, take_all, length-take-le, get_or-take, get_or-append-add, map-append}
use Rattle.std.proofs.lemmas.Slice.{take-put_mid_below}
use borrow.Rule.Slice.PartMut.{put_mid}
use Rattle.model.specs.Base.{byte_at, number}
use Rattle.model.specs.Sheet.{header_length, record_length, record_start, rules_of, record_at, records_from, step_of}
use Rattle.model.specs.Laws.WrittenSheet.{header_bytes}
use Rattle.model.proofs.Laws.Limits.{steps_snoc}
use Rattle.model.specs.declared.SheetRecord.{SheetRecord}
use Rattle.model.specs.declared.Version.{Version}
use Rattle.model.specs.declared.Version.TheVariants.{One}
use Rattle.figures.specs.Record.{record_in, step_for}
use Rattle.figures.specs.declared.record.Record.{Record}

-- ---- a record, by the 12 bytes from place a on

abbrev read : Version → List ℕ → ℕ → SheetRecord
read version s a =
    record {
      version = version;
      kind = byte_at s a;
      size = byte_at s (a + 1);
      flag = byte_at s (a + 2);
      zero_byte = byte_at s (a + 3);
      address = number 4 s (a + 4);
      value = number 4 s (a + 8);
    }

read_at : (s : List ℕ) (k : ℕ) → rules_of s ≡ One → record_at s k ≡ read One s (record_start k)
unfolding record_at
read_at s k e = ap (λ (v : Version). read v s (record_start k)) e

-- where the bytes are the same, the record is
module _ (s t : List ℕ) (a b : ℕ) (h : (i : ℕ) → i < record_length → byte_at s (a + i) ≡ byte_at t (b + i)) where
  same_number : (n i : ℕ) → i + n ≤ record_length → number n s (a + i) ≡ number n t (b + i)
  same_number zero i l = refl
  same_number (suc n) i l =
      let left : a + i + 1 ≡ a + (i + 1) = omega arith in
      let right : b + (i + 1) ≡ b + i + 1 = omega arith in
      let e : number n s (a + i + 1) ≡ number n t (b + i + 1) =
      ap (number n s) left ∙ same_number n (i + 1) (omega arith) ∙ ap (number n t) right in
      ap₂ (λ (x y : ℕ). x + 256 * y) (h i (omega arith)) e

  first_same : byte_at s a ≡ byte_at t b
  first_same =
      let left : a ≡ a + 0 = omega arith in
      let right : b + 0 ≡ b = omega arith in
      ap (byte_at s) left ∙ h 0 (omega arith) ∙ ap (byte_at t) right

  same_read : read One s a ≡ read One t b
  same_read x =
      record {
        version = One;
        kind = first_same x;
        size = h 1 (omega arith) x;
        flag = h 2 (omega arith) x;
        zero_byte = h 3 (omega arith) x;
        address = same_number 4 4 (omega arith) x;
        value = same_number 4 8 (omega arith) x;
      }

-- ---- the header and the first k records are written

pub record Begun (rs : List Record) (k : ℕ) (s : List ℕ) : Type 0 where
  pub whole : length s ≡ header_length + record_length * length rs
  pub header : take header_length s ≡ header_bytes 1 (length rs)
  pub steps : map step_of (records_from s 0 k) ≡ map step_for (take k rs)

-- the header alone
pub begin : (rs : List Record) (h rest : List ℕ) → h ≡ header_bytes 1 (length rs)
    → length rest ≡ record_length * length rs → Begun rs 0 (h ++ rest)
unfolding records_from
begin rs h rest e l =
    record {
      whole = length-append h rest ∙ ap₂ ◌+◌ (ap length e) l;
      header = take_at h rest header_length (ap length e) ∙ e;
      steps = refl;
    }

-- it is that of version 1
ruled : (s : List ℕ) (n : ℕ) → take header_length s ≡ header_bytes 1 n → rules_of s ≡ One
unfolding rules_of
ruled s n e =
    let third : byte_at s 3 ≡ 1 = sym (get_or-take header_length s 3 0 (omega arith)) ∙ ap (λ (l : List ℕ). byte_at l 3) e in
    let fourth : byte_at s 4 ≡ 0 = sym (get_or-take header_length s 4 0 (omega arith)) ∙ ap (λ (l : List ℕ). byte_at l 4) e in
    rw (third, fourth) refl

-- the next record's bytes are put behind those that are written
module _ {rs : List Record} {k : ℕ} {s : List ℕ} (b : List ℕ) (g : Begun rs k s) (more : k < length rs)
    (long : length b ≡ record_length) where
  abbrev put : List ℕ
  put = put_mid (record_start k) record_length s b

  front : length (take (record_start k) s) ≡ record_start k
  front = length-take-le (record_start k) s (omega (arith, g.whole))

  header_stays : take header_length put ≡ header_bytes 1 (length rs)
  header_stays =
      take-put_mid_below (record_start k) record_length s b header_length (omega arith) (omega (arith, g.whole)) ∙ g.header

  byte_stays : (i : ℕ) → i < record_start k → byte_at put i ≡ byte_at s i
  byte_stays i l =
      get_or-append (take (record_start k) s) _ 0 i (omega (arith, front)) ∙ get_or-take (record_start k) s i 0 l

  byte_put : (i : ℕ) → i < record_length → byte_at put (record_start k + i) ≡ byte_at b (0 + i)
  byte_put i l =
      let same : i ≡ 0 + i = omega arith in
      ap (λ (n : ℕ). byte_at put (n + i)) (sym front)
      ∙ get_or-append-add (take (record_start k) s) _ i 0
      ∙ get_or-append b _ 0 i (omega (arith, long))
      ∙ ap (byte_at b) same

  record_stays : (j : ℕ) → j < k → record_at put j ≡ record_at s j
  record_stays j l =
      read_at put j (ruled put _ header_stays)
      ∙ same_read put s (record_start j) (record_start j) (λ i h. byte_stays (record_start j + i) (omega arith))
      ∙ sym (read_at s j (ruled s _ g.header))

  records_stay : (j n : ℕ) → j + n ≤ k → records_from put j n ≡ records_from s j n
  unfolding records_from
  records_stay j zero l = refl
  records_stay j (suc n) l =
      ap₂ (λ (r : SheetRecord) (rs : List SheetRecord). r ∷ rs) (record_stays j (omega arith))
      (records_stay (j + 1) n (omega arith))

  record_put : record_at put k ≡ record_in b
  record_put = read_at put k (ruled put _ header_stays) ∙ same_read put b (record_start k) 0 byte_put

  one_more : (r : Record) → step_of (record_in b) ≡ step_for (get_or rs k r) → Begun rs (k + 1) put
  one_more r e =
      record {
        whole = simp (length-append, front, length-drop, long) (omega (arith, g.whole));
        header = header_stays;
        steps =
            steps_snoc put k
            ∙ ap₂ (λ xs x. xs ++ x ∷ []) (ap (map step_of) (records_stay 0 k (omega arith)) ∙ g.steps)
            (ap step_of record_put ∙ e)
            ∙ sym (ap (map step_for) (take_more rs k r more) ∙ map-append step_for (take k rs) (get_or rs k r ∷ []));
      }

  -- where they were put is where the record belongs
  pub next : {a w : ℕ} (r : Record) → a ≡ record_start k → w ≡ record_length
      → step_of (record_in b) ≡ step_for (get_or rs k r) → Begun rs (k + 1) (put_mid a w s b)
  next r place width e = rw (place, width) (one_more r e)

-- all of them
pub written : {rs : List Record} {k : ℕ} {s : List ℕ} → Begun rs k s → k ≤ length rs → length rs ≤ k
    → map step_of (records_from s 0 (length rs)) ≡ map step_for rs
written {rs} {k} {s} g within all =
    let e : length rs ≡ k = omega arith in
    ap (λ (n : ℕ). map step_of (records_from s 0 n)) e ∙ g.steps ∙ ap (map step_for) (take_all k rs all)
