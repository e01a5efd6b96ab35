-- The laws behind what is promised of a run with grounds.
use Rattle.model.proofs.Laws.Explained as explained
use Rattle.model.proofs.Laws.Refusal.{faulty_lower}
use Rattle.model.proofs.Laws.Grounds as law
use Rattle.examine.specs.Verdicts.{few_index}
use Rattle.promises.specs.Grounds.{ExplainedNumber, NoOtherExplained, ExplainAccepted, ExplainedIndex, SmallExplainedIndex}
use Rattle.promises.specs.Grounds.{RefusedUntold, ExplainedRun, GroundsGiven, SameReasons}
use Rattle.promises.specs.Grounds.{ExplainedFirstOfTwo, GroundBytes}

pub grounds_table : ExplainedNumber
unfolding ExplainedNumber
grounds_table e x call = rw call (explained.grounds_table e)

pub grounds_refusals : NoOtherExplained
unfolding NoOtherExplained
grounds_refusals e x call = rw call (explained.seven_refusals e)

pub grounds_accepts : ExplainAccepted
unfolding ExplainAccepted
grounds_accepts e x call = rw call (explained.grounds_zero e)

pub grounds_index : ExplainedIndex
unfolding ExplainedIndex
grounds_index e x call = rw call (explained.grounds_index e)

pub grounds_first_of_two : ExplainedFirstOfTwo
unfolding ExplainedFirstOfTwo ExplainedIndex
grounds_first_of_two e x call h = faulty_lower e.run.sheet (grounds_index e x call) h

pub grounds_few_records : SmallExplainedIndex
unfolding SmallExplainedIndex
grounds_few_records e x call = rw call (few_index e.run.sheet (explained.grounds_table e) (explained.grounds_index e))

pub grounds_refuses : RefusedUntold
unfolding RefusedUntold
grounds_refuses e x call = rw call (explained.refused_untold e)

pub grounds_whole_run : ExplainedRun
unfolding ExplainedRun
grounds_whole_run e x call = rw call (explained.whole_run e)

pub explains : GroundsGiven
unfolding GroundsGiven
explains e x call = explained.explains e x call

pub ground_bytes : GroundBytes
unfolding GroundBytes
ground_bytes g h = (law.byte_back g, law.one_byte g h)

pub same_grounds : SameReasons
unfolding SameReasons
same_grounds = explained.same_explained
