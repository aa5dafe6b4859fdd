-- The columns that are not left stand in the table.
use Rattle.columns.specs.Columns.{members}
use Rattle.columns.specs.ColumnSets.{whole}
use Rattle.columns.specs.Turns.{left}
use Rattle.blocks.proofs.NeedLaws.{Sizing}
use Rattle.blocks.proofs.by_size.Given as goal

abbrev pub invariant-loop-x : goal.invariant-loop-x
invariant-loop-x l = Sizing (members (whole l.fn.all)) (left l.x-iterator) l.fn.rows l.table
