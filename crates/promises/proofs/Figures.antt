-- The law behind the worked figures.
use Rattle.model.proofs.Laws.Figures as law
use Rattle.promises.specs.Figures.{StarredFigures}

pub worked_figures : StarredFigures
unfolding StarredFigures
worked_figures = law.worked_figures
