-- The columns of the rows below r have their seats.
use Rattle.columns.specs.Columns.{members}
use Rattle.columns.specs.ColumnSets.{whole}
use Rattle.models.specs.Lent.{rows_lent}
use Rattle.acceptance.proofs.SeatLaws.{SeatedBelow}
use Rattle.acceptance.proofs.seat_rows.Given as goal

abbrev pub invariant-loop-r : goal.invariant-loop-r
invariant-loop-r l = SeatedBelow l.fn.model.n l.fn.model.b (rows_lent l.fn.model) (members (whole l.fn.side)) l.rows l.r (members (whole l.seated))
