-- The laws behind what is promised of blocks.
use Rattle.model.proofs.Laws.Versions.{two_block}
use Rattle.model.proofs.Laws.Told as told
use Rattle.model.proofs.Laws.Blocks as blocks
use Rattle.model.proofs.Laws.WrittenCalls as calls
use Rattle.model.proofs.Laws.WrittenSheet as sheet
use Rattle.promises.specs.Blocks.{BlockLandedTold, SameBlockTold, BlocksAreWords, SameAsWords, WrittenSheetRuns}
use Rattle.promises.specs.Blocks.{GroundsOfWords, DearestBlock, BlockRecords}

pub block_records : BlockRecords
unfolding BlockRecords
block_records = two_block

pub block_landed_told : BlockLandedTold
unfolding BlockLandedTold
block_landed_told i o call ok k h a n e = told.block_told i o call ok k h a n e

pub same_block : SameBlockTold
unfolding SameBlockTold
same_block = told.block_told_alike

pub block_words : BlocksAreWords
unfolding BlocksAreWords
block_words i o call ok = calls.of_words i o call ok

pub as_words : SameAsWords
unfolding SameAsWords
as_words = calls.as_words

pub written_runs : WrittenSheetRuns
unfolding WrittenSheetRuns
written_runs i o answers lent call ok room = sheet.written_sheet_runs i o answers lent call ok room

pub told_words : GroundsOfWords
unfolding GroundsOfWords
told_words e x call ok = calls.told_by_words e x call ok

pub dearest_block : DearestBlock
unfolding DearestBlock
dearest_block = blocks.dearest_record
