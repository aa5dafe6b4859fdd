-- The rows below r have been counted. Assumes nothing.
use Rattle.std.proofs.Common.{◌≡◌}
use Rattle.counting.specs.Sets.{#}
use Rattle.columns.specs.Columns.{members}
use Rattle.columns.specs.ColumnSets.{whole, row_numbers, rows_touching}
use Rattle.touching.proofs.touching_rows.Given as goal

abbrev pub invariant-loop-r : goal.invariant-loop-r
invariant-loop-r l = l.many ≡ # l.r (rows_touching (row_numbers l.parameters) (members (whole l.inside)))
