-- The heights stay from 1 to 16. Assumes nothing.
use Rattle.std.proofs.Common.{◌≡◌, length}
use Rattle.limits.specs.Limits.{most_columns}
use Rattle.counting.specs.Sets.{◌⊆◌}
use Rattle.columns.specs.Columns.{members}
use Rattle.columns.specs.ColumnSets.{whole}
use Rattle.columns.specs.Turns.{left}
use Rattle.degree.specs.Code.{Low}
use Rattle.degree.proofs.levels.lower_row.Given as goal

abbrev pub invariant-loop-x : goal.invariant-loop-x
invariant-loop-x l = record {
  same_length : length l.heights ≡ most_columns;
  inside : left l.x-iterator ⊆ members (whole l.fn.row);
  low : Low most_columns l.heights;
}
