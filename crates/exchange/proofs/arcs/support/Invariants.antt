-- The invariant of `exchange::arcs::support`: the set has the columns below x that the row touches.
use Rattle.columns.specs.Columns.{members}
use Rattle.columns.specs.ColumnSets.{whole}
use Rattle.exchange.proofs.ArcLaws.{Support}
use Rattle.exchange.proofs.arcs.support.Given as goal

abbrev pub invariant-loop-x : goal.invariant-loop-x
invariant-loop-x l = Support l.t l.q l.x (members (whole l.set))
