-- The laws behind what is promised of runs of data accesses.
use Rattle.model.proofs.Laws.Previous as law
use Rattle.model.proofs.Laws.Bounds as bounds
use Rattle.promises.specs.Accesses.{FirstAccess, PlainAccess, ContinuedAccess, SequentialExactly, TwoWords, ByPreviousAlone}
use Rattle.promises.specs.Accesses.{PreviousAfter, AccessLimits}

pub first_cost : FirstAccess
unfolding FirstAccess
first_cost = law.first_cost

pub plain_cost : PlainAccess
unfolding PlainAccess
plain_cost = law.plain_cost

pub continued_cost : ContinuedAccess
unfolding ContinuedAccess
continued_cost = law.continued_cost

pub sequential_exactly : SequentialExactly
unfolding SequentialExactly
sequential_exactly y b z a rom = (law.sequential_continues y b z a rom, law.continued_kind y b z a rom)

pub two_words : TwoWords
unfolding TwoWords
two_words = law.two_words

pub only_the_previous : ByPreviousAlone
unfolding ByPreviousAlone
only_the_previous = law.only_the_previous

pub previous_by_kind : PreviousAfter
unfolding PreviousAfter
previous_by_kind = law.previous_after_law

pub access_limits : AccessLimits
unfolding AccessLimits
access_limits = bounds.data_between
