-- The laws behind what is promised of a preview.
use Rattle.model.proofs.Laws.Previewed as previewed
use Rattle.model.proofs.Laws.Refusal.{faulty_lower}
use Rattle.examine.specs.Verdicts.{few_index}
use Rattle.promises.specs.Preview.{PreviewIsRun, PreviewedNumber, NoOtherPreviewed, PreviewedIndex, SmallPreviewedIndex}
use Rattle.promises.specs.Preview.{PreviewUnwritten, PreviewLimits, SamePreviews, PreviewedFirstOfTwo}

pub as_run : PreviewIsRun
unfolding PreviewIsRun
as_run q p call = rw call (previewed.as_run q)

pub preview_table : PreviewedNumber
unfolding PreviewedNumber
preview_table q p call = rw call (previewed.preview_table q)

pub preview_refusals : NoOtherPreviewed
unfolding NoOtherPreviewed
preview_refusals q p call = rw call (previewed.six_refusals q)

pub preview_index : PreviewedIndex
unfolding PreviewedIndex
preview_index q p call = rw call (previewed.preview_index q)

pub preview_first_of_two : PreviewedFirstOfTwo
unfolding PreviewedFirstOfTwo PreviewedIndex
preview_first_of_two q p call h = faulty_lower q.sheet (preview_index q p call) h

pub preview_few_records : SmallPreviewedIndex
unfolding SmallPreviewedIndex
preview_few_records q p call = rw call (few_index q.sheet (previewed.preview_table q) (previewed.preview_index q))

pub preview_leaves : PreviewUnwritten
unfolding PreviewUnwritten
preview_leaves q p call = rw call (previewed.unwritten q)

pub preview_limits : PreviewLimits
unfolding PreviewLimits
preview_limits q p call = rw call (previewed.total_limits q)

pub same_previews : SamePreviews
unfolding SamePreviews
same_previews = previewed.same_previewed
