-- Words of the laws in proofs/Laws/Grounds.antt, as definitions. Those laws:
-- The grounds of a step: a byte says which ground it is; each is named exactly when its condition decides the beat; their cycles
-- and the internal cycle make the step's cycles; and an access or a fetch has at most two, so that 32 bytes hold a step's.
use Rattle.std.specs.Prelude.{Bool, false, ◌&&◌, List, ◌≤◌, length}
use Rattle.std.specs.Prelude.{Option, Some, None}
use Rattle.model.specs.Price.{BusKind, OnEwram, OnVideo, OnRom, OnSram, OnFast}
use Rattle.model.specs.Grounds.{same_ground}
use Rattle.model.specs.declared.Ground.{Ground}
use Rattle.model.specs.declared.Ground.TheVariants.{BufferHit, Sequential, ByFlag, ByBlock, ByAddress}
use Rattle.model.specs.declared.RomWindow.{RomWindow}
use Rattle.model.specs.declared.Ground.TheVariants.{EwramBus, SramBus, VideoBus, Fast}

-- whether a beat has a ground
abbrev pub is_beat : Option Ground → Ground → Bool
is_beat None g = false
is_beat (Some h) g = same_ground h g

-- a test of the nine grounds, all at once
abbrev pub every_ground : (Ground → Bool) → Bool
every_ground t =
    (t BufferHit && (t Sequential && t ByFlag))
    && ((t ByBlock && (t ByAddress && t EwramBus)) && (t SramBus && (t VideoBus && t Fast)))

-- the window of a bus
abbrev pub bus_window : BusKind → Option RomWindow
bus_window OnEwram = None
bus_window OnVideo = None
bus_window (OnRom win) = Some win
bus_window OnSram = None
bus_window OnFast = None

abbrev pub Few : List Ground → Type 0
Few gs = length gs ≤ 2
