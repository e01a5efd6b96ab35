-- What is promised of single inputs: the worked figures with a star.
use Rattle.model.specs.Laws.Figures.{WorkedFigures}

-- the starred worked figures, all
unfoldable pub StarredFigures : Type 0
StarredFigures = WorkedFigures
