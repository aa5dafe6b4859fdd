-- The columns that have come are put, and those that are still to come are left.
use Rattle.columns.specs.Columns.{members}
use Rattle.columns.specs.ColumnSets.{whole}
use Rattle.columns.specs.Turns.{left}
use Rattle.text.specs.Text.{column_items}
use Rattle.text.specs.PutLaws.{Putting}
use Rattle.text.proofs.put_columns.Given as goal

abbrev pub invariant-loop-x : goal.invariant-loop-x
invariant-loop-x l = Putting (column_items (members (whole l.fn.set))) (column_items (left l.x-iterator)) l.fn.out l.fn.at l.out l.place
