-- The rows of the columns that are not left have been joined. Assumes nothing.
use Rattle.columns.specs.Columns.{members}
use Rattle.columns.specs.ColumnSets.{whole}
use Rattle.columns.specs.Turns.{left}
use Rattle.relation.proofs.TurnLaws.{Joining}
use Rattle.relation.proofs.join.Given as goal

abbrev pub invariant-loop-x : goal.invariant-loop-x
invariant-loop-x l = Joining (members (whole l.fn.at)) (left l.x-iterator) (members (whole l.set)) l.initial.rows l.rows
