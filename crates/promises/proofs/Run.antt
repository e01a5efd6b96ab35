-- The laws behind what is promised of a run: those of `outcome`, of any call of which the contract says that it is one.
use Rattle.std.specs.Prelude.{◌≡◌, ◌≢◌, refl, ◌||◌, List, map, ℕ, zero, suc, ◌+◌, ◌*◌, ◌≤◌, ◌<◌, eqb}
use Rattle.std.proofs.Common.{ap₂, arith, add_assoc}
use Rattle.model.specs.Base.{sum, bit}
use Rattle.model.specs.Sheet.{record_at, record_count, records_from, records_of, is_block}
use Rattle.model.specs.Alike.{AlikeSheets, accesses_of, Limits, Demand3}
use Rattle.model.specs.declared.SheetRecord.{SheetRecord}
use Rattle.model.proofs.Laws.Choice.{by_test}
use Rattle.model.proofs.Laws.Refusal as refusal
use Rattle.model.proofs.Laws.Fits.{board_sound, total_fits}
use Rattle.model.proofs.Laws.Demand3 as demand
use Rattle.model.proofs.Laws.Demand3.{same_number_at}
use Rattle.model.proofs.Laws.Told.{told, told_alike}
use Rattle.model.proofs.Laws.Landed as landed
use Rattle.examine.specs.Verdicts.{few_index}
use Rattle.promises.specs.Run.{EachNumber, NoOtherNumber, AcceptedExactly, IndexTold, FirstOfTwo, SmallIndex, RefusedUntouched}
use Rattle.promises.specs.Run.{SoundLeft, SmallTotal, Accounted, SheetsAlike, SameFigures, WholeDemand3, LandedTold, LandedAlike}
use Rattle.promises.specs.Run.{SamePlaces, ExpandedByte}
use Rattle.promises.specs.Run.{added, instruction_count, access_count, idle_count, TotalWithin}

pub table : EachNumber
unfolding EachNumber
table i o call = rw call (refusal.table i)

pub refusals : NoOtherNumber
unfolding NoOtherNumber
refusals i o call = rw call (refusal.seven_refusals i)

pub accepts : AcceptedExactly
unfolding AcceptedExactly
accepts i o call = rw call (refusal.zero_exactly i)

pub index : IndexTold
unfolding IndexTold
index i o call = rw call (refusal.index i)

pub first_of_two : FirstOfTwo
unfolding FirstOfTwo IndexTold
first_of_two i o call h = refusal.faulty_lower i.sheet (index i o call) h

pub few_records : SmallIndex
unfolding SmallIndex
few_records i o call = rw call (few_index i.sheet (refusal.run_table i) (refusal.index i))

pub refuses : RefusedUntouched
unfolding RefusedUntouched
refuses i o call = rw call (refusal.refused_untouched i)

pub leaves_sound : SoundLeft
unfolding SoundLeft
leaves_sound i o call = rw call (board_sound i)

pub small_total : SmallTotal
unfolding SmallTotal
small_total i o call = rw call (total_fits i)

pub accounts : Accounted
unfolding Accounted
accounts i o call = demand.accounts i o call

-- the sheets and boards that are alike in bytes are alike in the model's words
alike_sheets : (s t : List ℕ) → SheetsAlike s t → AlikeSheets s t
unfolding record_at
alike_sheets s t h =
    record {
      header = h.header;
      records = λ k l.
          record {
            kind = h.kinds k l;
            size = h.sizes k l;
            flag = h.flags k l;
            address = h.addresses k l;
            value = h.values k l;
          };
    }

pub same_figures : SameFigures
unfolding SameFigures record_at
same_figures i j o p e f ok ok' s b =
    let d : Demand3 i j o p = demand.demand3 i j o p e f ok ok' (alike_sheets i.sheet j.sheet s) b in
    let compared = λ (k at : ℕ) (l : k < record_count i.sheet) (from : 4 ≤ at) (to : at ≤ 10) (other : at ≢ 8).
    d.columns k at l
    (record { from = from; to = to; but_landed = λ z. absurd (other z); but_block = λ z. absurd (other z) })
    in
    record {
      cycles = λ k l.
          same_number_at 4 (12 * k + 4) (12 * k + 4) o.answers p.answers
          (λ n h. rw (add_assoc (12 * k) 4 n) (compared k (4 + n) l (omega arith) (omega arith) (omega arith)));
      hits = λ k l w x.
          d.columns k 8 l
          (record { from = omega arith; to = omega arith; but_landed = λ z. w; but_block = λ z. x });
      count = λ k l. compared k 9 l (omega arith) (omega arith) (omega arith);
      force = λ k l. compared k 10 l (omega arith) (omega arith) (omega arith);
      total = d.totals;
    }

-- what is counted of the records is counted of their bytes
added_up : (f : ℕ → ℕ → ℕ) (g : SheetRecord → ℕ) → ((r : SheetRecord) → g r ≡ f r.kind r.value) → (s : List ℕ) (k n : ℕ)
    → sum (map g (records_from s k n)) ≡ added f s k n
unfolding records_from record_at
added_up f g same s k zero = refl
added_up f g same s k (suc n) = ap₂ (λ (x y : ℕ). x + y) (same (record_at s k)) (added_up f g same s (k + 1) n)

pub total_within : TotalWithin
unfolding TotalWithin
total_within i o call ok =
    let s = i.sheet in
    let limits : Limits (records_of s) o.total = (demand.accounts i o call ok).limits in
    let instructions = added_up instruction_count _ one_or_none s 0 (record_count s) in
    let all = added_up access_count accesses_of one_or_words s 0 (record_count s) in
    let idles = added_up idle_count _ (λ r. refl) s 0 (record_count s) in
    record {
      least = omega (arith, limits.least, instructions, all, idles);
      most = omega (arith, limits.most, instructions, all, idles);
    }
  where
    one_or_none : (r : SheetRecord) → bit (eqb r.kind 7) ≡ instruction_count r.kind r.value
    one_or_none r = by_test (eqb r.kind 7) (λ e. rw e) (λ e. rw e)

    one_or_words : (r : SheetRecord) → accesses_of r ≡ access_count r.kind r.value
    one_or_words r =
        by_test (is_block r.kind) (λ e. rw e) (λ e. rw e (by_test (eqb r.kind 1 || eqb r.kind 2) (λ d. rw d) (λ d. rw d)))

pub same_times : WholeDemand3
unfolding WholeDemand3
same_times = demand.demand3

pub landed_told : LandedTold
unfolding LandedTold
landed_told i o call ok k h z a v e = told i o call ok k h z a v e

pub landed_alike : LandedAlike
unfolding LandedAlike
landed_alike = told_alike

pub same_places : SamePlaces
unfolding SamePlaces
same_places = landed.same_places

pub expanded_byte : ExpandedByte
unfolding ExpandedByte
expanded_byte = landed.expanded_byte
