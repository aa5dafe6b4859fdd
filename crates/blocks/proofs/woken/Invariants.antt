-- Those that wait for a column that is not left have been met.
use Rattle.columns.specs.Columns.{members}
use Rattle.columns.specs.ColumnSets.{whole}
use Rattle.columns.specs.Turns.{left}
use Rattle.blocks.proofs.TurnLaws.{Waking}
use Rattle.blocks.proofs.woken.Given as goal

abbrev pub invariant-loop-y : goal.invariant-loop-y
invariant-loop-y l = Waking l.fn.waiting (members (whole l.fn.set)) (left l.y-iterator) (members (whole l.all))
