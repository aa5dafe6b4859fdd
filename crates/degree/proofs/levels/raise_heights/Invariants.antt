-- The heights of the columns that are not left have been raised. Assumes nothing.
use Rattle.std.proofs.Common.{◌+◌, get_or}
use Rattle.columns.specs.Columns.{members}
use Rattle.columns.specs.ColumnSets.{whole}
use Rattle.columns.specs.Turns.{left}
use Rattle.degree.proofs.LevelLaws.{Visited}
use Rattle.degree.proofs.levels.raise_heights.Given as goal

abbrev pub invariant-loop-x : goal.invariant-loop-x
invariant-loop-x l = Visited (λ x. get_or l.fn.heights x 0 + l.rise) (members (whole l.fn.set)) (left l.x-iterator) l.fn.heights l.heights
