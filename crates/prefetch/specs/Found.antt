-- What a look into the buffer and an opcode fetch from it give: the halfword at its head, and the buffer after.
use Rattle.std.specs.Prelude.{ℕ, List, slice_index}
use Rattle.std.specs.Prelude.{if◌then◌else◌}
use Rattle.std.specs.Prelude.{Option, Some, None}
use Rattle.model.specs.Prefetch.{hit, fetched}
use Rattle.model.specs.declared.PrefetchBuffer.{PrefetchBuffer}
use Rattle.prefetch.specs.declared.Fetched.{Fetched}

unfoldable pub found : List ℕ → PrefetchBuffer → ℕ → Option ℕ
found halves p a = if hit p a then Some (slice_index halves p.head) else None

abbrev pub fetched_half : List ℕ → PrefetchBuffer → ℕ → Fetched
fetched_half halves p a = record { prefetch = fetched p a; half = found halves p a }
