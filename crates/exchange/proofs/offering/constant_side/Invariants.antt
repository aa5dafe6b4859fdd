-- The invariant of `exchange::offering::constant_side`: the side has the owners of the rows so far.
use Rattle.columns.specs.Columns.{members}
use Rattle.columns.specs.ColumnSets.{whole}
use Rattle.exchange.specs.Code.Answer.{Side}
use Rattle.exchange.proofs.offering.constant_side.Given as goal

abbrev pub invariant-loop-y : goal.invariant-loop-y
invariant-loop-y l = Side l.model.n l.y-index l.fn.state.owner (members (whole l.side))
