-- The invariant of `exchange::search::scan_parameters`: the parameter rows from `end` on have been read. The measure is `end`.
use Rattle.std.proofs.Common.{◌+◌, ◌≤◌}
use Rattle.columns.specs.Columns.{members}
use Rattle.columns.specs.ColumnSets.{whole}
use Rattle.exchange.specs.Code.Scanning.{AllOwned}
use Rattle.exchange.specs.Code.State.{lines_of, touched_by, owned_by}
use Rattle.exchange.proofs.search.scan_parameters.Given as goal

abbrev pub invariant-loop-end : goal.invariant-loop-end
invariant-loop-end l = record {
  room : l.end ≤ l.model.b;
  read : AllOwned l.model.n (lines_of l.model) (touched_by l.model l.state) (owned_by l.state) (members (whole l.front)) (l.model.a + l.end) (lines_of l.model) (members (whole l.next));
}

abbrev pub decreases-loop-end : goal.decreases-loop-end
decreases-loop-end l = l.end
