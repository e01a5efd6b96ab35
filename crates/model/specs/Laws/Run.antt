-- Words of the laws in proofs/Laws/Run.antt, as definitions. Those laws:
-- A run goes step by step: run over xs ++ ys is run over ys after run over xs; it has one answer a step, and keeps what every
-- step keeps.
use Rattle.std.specs.Prelude.{◌++◌}
use Rattle.model.specs.Step.{Result}

-- a result followed by what a run from its state gives
abbrev pub continued : Result → Result → Result
continued r q = record { answers = r.answers ++ q.answers; state = q.state }
