-- The columns that are not left are weighed. Assumes nothing.
use Rattle.std.proofs.Common.{◌+◌, get_or, replicate}
use Rattle.limits.specs.Limits.{most_columns}
use Rattle.columns.specs.Columns.{members}
use Rattle.columns.specs.ColumnSets.{whole}
use Rattle.columns.specs.Turns.{left}
use Rattle.degree.proofs.LevelLaws.{Visited}
use Rattle.degree.proofs.levels.weights.Given as goal

abbrev pub invariant-loop-x : goal.invariant-loop-x
invariant-loop-x l = Visited (λ x. get_or l.powers x 0 + get_or l.heights x 0) (members (whole l.fn.set)) (left l.x-iterator) (replicate most_columns 0) l.out
