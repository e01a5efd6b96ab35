-- Words of the laws in proofs/Laws/Switch.antt, as definitions. Those laws:
-- Only a write to WAITCNT moves the prefetch switch: every other operation of the buffer keeps it.
use Rattle.std.specs.Prelude.{◌≡◌}
use Rattle.model.specs.declared.PrefetchBuffer.{PrefetchBuffer}

-- a buffer has the switch of another
abbrev pub Keeps : PrefetchBuffer → PrefetchBuffer → Type 0
Keeps p q = q.enabled ≡ p.enabled
