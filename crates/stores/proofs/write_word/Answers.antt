-- The same for a word, in every display mode.
use mathlib.Core.Path.{refl}
use Rattle.model.specs.declared.AccessSize.TheVariants.{Word}
use Rattle.parts.specs.Stored.{counting}
use Rattle.stores.proofs.Arms.{plain_stored, video_stored, sram_stored}
use Rattle.stores.proofs.write_word.Goals as goal

pub returns-in-Plain : goal.returns-in-Plain
returns-in-Plain c = λ mode. plain_stored Word _ _ mode c.range.ensures c.in-Plain.is c.requires c.put_aligned.ensures

pub returns-in-Video : goal.returns-in-Video
returns-in-Video c =
    λ mode.
    video_stored Word _ _ mode c.range-in-Video.ensures c.in-Video.is c.requires refl
    (counting 2 c.put_aligned-in-Video.ensures)

pub returns-in-Sram : goal.returns-in-Sram
returns-in-Sram c =
    λ mode. sram_stored Word _ _ mode c.range-in-Sram.ensures c.in-Sram.is c.requires refl c.lane.ensures c.put.ensures
