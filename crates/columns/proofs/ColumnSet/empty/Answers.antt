-- `columns::empty` meets its contract. Assumes nothing.
use mathlib.Core.Path.{refl}
use Rattle.columns.specs.ColumnSets.{empty_set}
use Rattle.columns.proofs.ColumnSet.empty.Goals as goal

pub returns : goal.returns
unfolding empty_set
returns c = refl
