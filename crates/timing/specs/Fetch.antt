-- The price of a fetch, as the definitions have it: outside ROM, and with its idle cycles.
use Rattle.std.specs.Prelude.{◌≡◌, ℕ}
use Rattle.model.specs.Waitcnt.{Waits}
use Rattle.model.specs.Wait.{window}
use Rattle.model.specs.Price.{beat_cycles, price}
use Rattle.model.specs.Timing.{plain_beat, fetch_beats_in, idle_in}
use Rattle.model.specs.declared.PrefetchBuffer.{PrefetchBuffer}
use Rattle.model.specs.declared.AccessKind.{AccessKind}
use Rattle.model.specs.declared.IsaState.{IsaState}
use Rattle.timing.specs.declared.FetchPrice.{FetchPrice}

-- outside ROM a fetch costs the same under all waits
abbrev pub PlainPrice : ℕ → IsaState → ℕ → Type 0
PlainPrice a isa n = (t : Waits) → n ≡ beat_cycles t (plain_beat a isa)

abbrev pub fetch_price : Waits → PrefetchBuffer → ℕ → AccessKind → IsaState → FetchPrice
fetch_price t p a k isa =
    record { cycles = price t (fetch_beats_in p a k isa (window a)); cart_idle = idle_in t a isa (window a) }
