-- The tops of the rows below q have been written. Assumes nothing.
use Rattle.std.proofs.Common.{◌≡◌, ◌<◌, ℕ, length, get_or}
use Rattle.limits.specs.Limits.{most_columns}
use Rattle.columns.specs.Columns.{members}
use Rattle.columns.specs.ColumnSets.{whole, row_numbers}
use Rattle.degree.specs.Code.{LineTop}
use Rattle.degree.proofs.levels.tops.Given as goal

abbrev pub invariant-loop-q : goal.invariant-loop-q
invariant-loop-q l = record {
  same_length : length l.out ≡ most_columns;
  done : (i : ℕ) → i < l.q → LineTop l.model.n l.model.a l.constants (row_numbers l.model.parameters.now) l.model.powers.parameters.now (members (whole l.set)) l.weights l.heights i (get_or l.out i 0);
}
