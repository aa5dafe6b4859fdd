-- The last of the rows below `all` that touches the set is the last of those below r. Assumes nothing.
use Rattle.std.proofs.Common.{◌≤◌, ◌≡◌}
use Rattle.columns.specs.Columns.{members, last_member}
use Rattle.columns.specs.ColumnSets.{row_numbers, rows_touching}
use Rattle.columns.proofs.last_below_low.Given as goal

abbrev pub invariant-loop-r : goal.invariant-loop-r
invariant-loop-r l = let S = rows_touching (row_numbers l.words) (members l.set.low) in record {
  inside : l.r ≤ l.all;
  same : last_member l.end l.all S ≡ last_member l.end l.r S;
}

abbrev pub decreases-loop-r : goal.decreases-loop-r
decreases-loop-r l = l.r
