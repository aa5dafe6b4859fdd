-- The invariant of `exchange::offering::row_columns`: the rows below r show their columns, the others none.
use Rattle.std.proofs.Common.{◌≡◌, length}
use Rattle.limits.specs.Limits.{most_rows}
use Rattle.exchange.specs.Code.Answer.{RowsShown}
use Rattle.exchange.proofs.offering.row_columns.Given as goal

abbrev pub invariant-loop-r : goal.invariant-loop-r
invariant-loop-r l = (length l.rows ≡ most_rows) × RowsShown l.model.n l.model.a l.r l.state.owner l.rows
