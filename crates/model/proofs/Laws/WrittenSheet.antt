-- The sheet in which each block is written out, as bytes: it is accepted where the first sheet is, if there is room for its
-- records and their answers, so that there is a second call as the laws of WrittenCalls speak of.
use Rattle.std.specs.Prelude.{◌≡◌, true, List, [], ◌∷◌, ◌++◌, ℕ, zero, suc, ◌+◌, ◌*◌, ◌^◌, ◌≤◌, ◌<◌, length, get_or, eqb, leb}
use Rattle.std.specs.Prelude.{if◌then◌else◌}
use Rattle.std.proofs.Math.Path.{refl, sym, ap}
use Rattle.std.proofs.Common.{◌∙◌, arith, append_assoc, mod-eq_of_lt, length-append, get_or-append-add, le-leb, eq-eqb}
use Rattle.model.specs.Base.{byte_at, number, further, blocks, AllBytes}
use Rattle.model.specs.Sheet.{header_length, record_length, record_start, latest_version, knows, is_marked, version_of}
use Rattle.model.specs.Sheet.{rules_of, record_count, is_shaped, record_at, records_from, records_of, max_records, faulty}
use Rattle.model.specs.Outcome.{Lent, Outcome, outcome}
use Rattle.model.specs.Laws.Choice.{All}
use Rattle.model.proofs.Laws.Choice.{all_of, choose}
use Rattle.model.proofs.Laws.Sizes.{aligned_small}
use Rattle.model.proofs.Laws.Codec.{number_past, number_fits, number_below, blocks_length}
use Rattle.model.specs.Laws.Limits.{Faultless}
use Rattle.model.proofs.Laws.Limits.{records_length}
use Rattle.model.specs.Laws.Refusal.{Acceptable, NoFault}
use Rattle.model.proofs.Laws.Refusal.{zero_exactly, accepted_faultless, record_in}
use Rattle.model.specs.Laws.WrittenOut.{word_records, written_as, written_out}
use Rattle.model.proofs.Laws.WrittenOut.{all_append, written_faultless}
use Rattle.model.proofs.Laws.WrittenCalls.{as_words}
use Rattle.model.specs.declared.AccessSize.TheVariants.{Word}
use Rattle.model.specs.declared.SheetRecord.{SheetRecord}
use Rattle.model.specs.declared.Version.{Version}
use Rattle.model.specs.declared.Version.TheVariants.{One, Two}
use Rattle.model.specs.Laws.WrittenSheet.{record_bytes, header_bytes, sheet_bytes, with_written, RecordFits, HasRoom, WrittenRuns}

-- ---- a record is read back from its bytes

-- what stands behind other bytes
behind : (s pre b : List ℕ) (k : ℕ) → s ≡ pre ++ b → length pre ≡ k → (n i : ℕ) → number n s (k + i) ≡ number n b i
behind s pre b k e l n i = rw (e, ← l) (number_past n pre b i)

byte_behind : (s pre b : List ℕ) (k : ℕ) → s ≡ pre ++ b → length pre ≡ k → (i : ℕ) → byte_at s (k + i) ≡ byte_at b i
byte_behind s pre b k e l i = rw (e, ← l) (get_or-append-add pre b i 0)

module _ (s pre rest : List ℕ) (k : ℕ) (r : SheetRecord) (e : s ≡ pre ++ (record_bytes r ++ rest))
    (l : length pre ≡ record_start k) (f : RecordFits (rules_of s) r) where
  a_byte : (i : ℕ) → byte_at s (record_start k + i) ≡ byte_at (record_bytes r ++ rest) i
  a_byte = byte_behind s pre (record_bytes r ++ rest) (record_start k) e l

  first_byte : byte_at s (record_start k) ≡ r.kind
  first_byte = ap (byte_at s) (omega arith) ∙ a_byte 0 ∙ mod-eq_of_lt f.kind

  record_back : record_at s k ≡ r
  unfolding record_at
  record_back x =
      record {
        version = sym f.version x;
        kind = first_byte x;
        size = (a_byte 1 ∙ mod-eq_of_lt f.size) x;
        flag = (a_byte 2 ∙ mod-eq_of_lt f.flag) x;
        zero_byte = (a_byte 3 ∙ mod-eq_of_lt f.zero_byte_fits) x;
        address =
            (behind s pre (record_bytes r ++ rest) (record_start k) e l 4 4
            ∙ number_fits 4 r.address [] (omega (arith, f.address))) x;
        value =
            (behind s pre (record_bytes r ++ rest) (record_start k) e l 4 8
            ∙ number_fits 4 r.value [] (omega (arith, f.value))) x;
      }

records_back : (s pre : List ℕ) (k : ℕ) (rs : List SheetRecord) → s ≡ pre ++ blocks record_bytes rs → length pre ≡ record_start k
    → All (RecordFits (rules_of s)) rs → records_from s k (length rs) ≡ rs
unfolding records_from
records_back s pre k [] e l f = refl
records_back s pre k (r ∷ rs) e l f =
    ap (λ (x : SheetRecord). x ∷ records_from s (k + 1) (length rs)) (record_back s pre (blocks record_bytes rs) k r e l f.0)
    ∙ ap (λ (xs : List SheetRecord). r ∷ xs)
    (records_back s (pre ++ record_bytes r) (k + 1) rs (e ∙ sym (append_assoc pre (record_bytes r) (blocks record_bytes rs)))
    (omega (arith, length-append pre (record_bytes r))) f.1)

-- ---- a sheet of records, fewer than 2^16, and its header

module _ (v : ℕ) (rs : List SheetRecord) (small : v < 0x1_0000) (few : length rs < 0x1_0000) where
  version_back : version_of (sheet_bytes v rs) ≡ v
  unfolding sheet_bytes
  version_back = number_fits 2 v [] (omega (arith, small))

  count_back : record_count (sheet_bytes v rs) ≡ length rs
  unfolding sheet_bytes
  count_back = number_fits 2 (length rs) [] (omega (arith, few))

  sheet_length : length (sheet_bytes v rs) ≡ header_length + record_length * length rs
  unfolding sheet_bytes
  sheet_length =
      length-append (header_bytes v (length rs)) (blocks record_bytes rs)
      ∙ ap (λ (n : ℕ). header_length + n) (blocks_length record_length record_bytes rs (all_of _ (λ r. refl) rs))

  sheet_marked : is_marked (sheet_bytes v rs) ≡ true
  unfolding sheet_bytes
  sheet_marked =
      let long : leb header_length (length (sheet_bytes v rs)) ≡ true = le-leb _ _ (omega (arith, sheet_length)) in
      rw long refl

  sheet_shaped : length rs ≤ max_records → is_shaped (sheet_bytes v rs) ≡ true
  unfolding sheet_bytes
  sheet_shaped m =
      let counted : leb (record_count (sheet_bytes v rs)) max_records ≡ true = le-leb _ _ (omega (arith, count_back, m)) in
      let long : eqb (length (sheet_bytes v rs)) (header_length + record_length * record_count (sheet_bytes v rs)) ≡ true =
      eq-eqb _ _ (sheet_length ∙ ap (λ (n : ℕ). header_length + record_length * n) (sym count_back)) in
      rw (counted, long) refl

  parts_of : sheet_bytes v rs ≡ header_bytes v (length rs) ++ blocks record_bytes rs
  unfolding sheet_bytes
  parts_of = refl

  same_records : All (RecordFits (rules_of (sheet_bytes v rs))) rs → records_of (sheet_bytes v rs) ≡ rs
  same_records f =
      ap (records_from (sheet_bytes v rs) 0) count_back ∙ records_back _ (header_bytes v (length rs)) 0 rs parts_of refl f

-- ---- what is written out has the bytes that it had

further_small : (a : ℕ) → further 4 a < 2 ^ 32
further_small a = omega arith

word_fits : (w : Version) (kind a n : ℕ) → kind < 256 → a < 2 ^ 32 → All (RecordFits w) (word_records w kind a n)
word_fits w kind a zero h l = tt
word_fits w kind a (suc n) h l = (
  record {
    version = refl;
    kind = h;
    size = omega arith;
    flag = omega arith;
    zero_byte_fits = omega arith;
    address = l;
    value = omega arith;
  },
  word_fits w kind (further 4 a) n h (further_small a),
)

as_fits : (w : Version) (r : SheetRecord) → RecordFits w r → All (RecordFits w) (written_as r)
as_fits w r f =
    choose (All (RecordFits w)) (eqb r.kind 10)
    (λ e. rw (f.version) (word_fits w 1 _ r.value (omega arith) (aligned_small Word r.address)))
    λ d. choose (All (RecordFits w)) (eqb r.kind 11)
    (λ e. rw (f.version) (word_fits w 2 _ r.value (omega arith) (aligned_small Word r.address))) λ e. (f, tt)

written_fits : (w : Version) (rs : List SheetRecord) → All (RecordFits w) rs → All (RecordFits w) (written_out rs)
written_fits w [] f = tt
written_fits w (r ∷ rs) f = all_append (RecordFits w) (written_as r) (written_out rs) (as_fits w r f.0) (written_fits w rs f.1)

sheet_fits : (s : List ℕ) (k n : ℕ) → AllBytes s → All (RecordFits (rules_of s)) (records_from s k n)
unfolding records_from record_at
sheet_fits s k zero h = tt
sheet_fits s k (suc n) h = (
  record {
    version = refl;
    kind = h _;
    size = h _;
    flag = h _;
    zero_byte_fits = h _;
    address = omega (arith, number_below 4 (record_start k + 4) s h);
    value = omega (arith, number_below 4 (record_start k + 8) s h);
  },
  sheet_fits s (k + 1) n h,
)

-- ---- the second call

-- none of a list of records without fault has one
none_faulty : (rs : List SheetRecord) (k : ℕ) (d : SheetRecord) → All Faultless rs → k < length rs → Faultless (get_or rs k d)
none_faulty [] k d f h = absurd (omega arith)
none_faulty (r ∷ rs) zero d f h = f.0
none_faulty (r ∷ rs) (suc k) d f h = none_faulty rs k d f.1 (omega arith)

no_faults : (s : List ℕ) → All Faultless (records_of s) → NoFault s
no_faults s f k h =
    ap faulty
    (sym (record_in s 0 (record_count s) k (record_at s 0) h ∙ ap (record_at s) (omega arith)))
    ∙ none_faulty (records_of s) k (record_at s 0) f (omega (arith, records_length s 0 (record_count s)))

module _ (i : Lent) (o : Outcome) (answers : List ℕ) (lent : AllBytes i.sheet) (ok : o ≡ outcome i) (zero_number : o.number ≡ 0)
    (has : HasRoom i answers) where
  abbrev j : Lent
  j = with_written i answers

  abbrev out : List SheetRecord
  out = written_out (records_of i.sheet)

  accepted : (outcome i).number ≡ 0
  accepted = sym (ap (λ (x : Outcome). x.number) ok) ∙ zero_number

  asked : Acceptable i
  asked = (zero_exactly i).0 accepted

  small : version_of i.sheet < 0x1_0000
  small = omega (arith, number_below 2 3 i.sheet lent)

  few : length out < 0x1_0000
  few = omega (arith, has.few)

  same_version : version_of j.sheet ≡ version_of i.sheet
  same_version = version_back (version_of i.sheet) out small few

  same_rules : rules_of j.sheet ≡ rules_of i.sheet
  unfolding rules_of
  same_rules = ap (λ (v : ℕ). if eqb v 2 then Two else One) same_version

  out_fits : All (RecordFits (rules_of j.sheet)) out
  out_fits =
      rw same_rules
      (written_fits (rules_of i.sheet) (records_of i.sheet) (sheet_fits i.sheet 0 (record_count i.sheet) lent))

  out_records : records_of j.sheet ≡ out
  out_records = same_records (version_of i.sheet) out small few out_fits

  out_count : record_count j.sheet ≡ length out
  out_count = count_back (version_of i.sheet) out small few

  acceptable : Acceptable j
  acceptable =
      record {
        marked = sheet_marked (version_of i.sheet) out small few;
        version = ap (knows latest_version) same_version ∙ asked.version;
        shaped = sheet_shaped (version_of i.sheet) out small few has.few;
        lengths = asked.lengths;
        board = asked.board;
        answers = omega (arith, has.room, out_count);
        records =
            no_faults j.sheet (rw out_records (written_faultless (records_of i.sheet) (accepted_faultless i accepted)));
      }

  pub written_sheet_runs : WrittenRuns i o answers
  written_sheet_runs =
      let runs : (outcome j).number ≡ 0 = (zero_exactly j).1 acceptable in
      record {
        accepted = runs;
        records = out_records;
        words =
            as_words i j o (outcome j) ok refl zero_number runs
            (record { board = refl; store = refl; bios = refl; rom = refl; lengths = refl }) out_records;
      }
