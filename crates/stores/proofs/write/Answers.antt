-- What is stored in the memory that was lent is stored at the address.
use Rattle.stores.proofs.Arms.{plain_stored, video_stored, sram_stored}
use Rattle.stores.proofs.write.Goals as goal

pub returns-in-Plain : goal.returns-in-Plain
returns-in-Plain c = plain_stored _ _ _ _ c.range.ensures c.in-Plain.is c.requires.memory c.put_aligned.ensures

pub returns-in-Video : goal.returns-in-Video
returns-in-Video c =
    video_stored _ _ _ _ c.range-in-Video.ensures c.in-Video.is c.requires.memory c.dispcnt_bg_mode-mode.ensures
    c.write_video.ensures

pub returns-in-Sram : goal.returns-in-Sram
returns-in-Sram c =
    sram_stored _ _ _ _ c.range-in-Sram.ensures c.in-Sram.is c.requires.memory c.size_bytes.ensures c.lane.ensures
    c.put.ensures
