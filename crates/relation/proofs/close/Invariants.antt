-- The rows of the columns that are not left have been closed; the measure is the number of columns that are left. Assumes nothing.
use Rattle.counting.specs.Sets.{#}
use Rattle.columns.specs.Columns.{width, members}
use Rattle.columns.specs.ColumnSets.{whole}
use Rattle.relation.proofs.TurnLaws.{Closing}
use Rattle.relation.proofs.close.Given as goal

abbrev pub invariant-loop-rest : goal.invariant-loop-rest
invariant-loop-rest l = Closing (members (whole l.fn.over)) (members (whole l.rest)) (members (whole l.done)) l.initial.rows l.rows

abbrev pub decreases-loop-rest : goal.decreases-loop-rest
decreases-loop-rest l = # width (members (whole l.rest))
