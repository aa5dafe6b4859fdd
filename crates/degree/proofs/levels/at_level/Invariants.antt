-- Of the columns that are not left, those at the level have been kept. Assumes nothing.
use Rattle.columns.specs.Columns.{members}
use Rattle.columns.specs.ColumnSets.{whole}
use Rattle.columns.specs.Turns.{left}
use Rattle.degree.proofs.LevelLaws.{Keeping}
use Rattle.degree.proofs.levels.at_level.Given as goal

abbrev pub invariant-loop-x : goal.invariant-loop-x
invariant-loop-x l = Keeping l.from l.level l.powers l.heights (members (whole l.fn.row)) (left l.x-iterator) (members (whole l.kept))
