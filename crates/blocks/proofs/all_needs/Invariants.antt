-- The rows of the columns that are not left are written.
use Rattle.columns.specs.Columns.{members}
use Rattle.columns.specs.ColumnSets.{whole}
use Rattle.columns.specs.Turns.{left}
use Rattle.blocks.proofs.NeedLaws.{Needing, unlike}
use Rattle.blocks.proofs.all_needs.Given as goal

abbrev pub invariant-loop-x : goal.invariant-loop-x
invariant-loop-x l = Needing (members (whole l.fn.all)) (left l.x-iterator) (unlike l.fn.rows l.sizes) l.needs
