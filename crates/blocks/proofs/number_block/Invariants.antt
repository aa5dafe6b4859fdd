-- The columns that are not left have the number.
use Rattle.columns.specs.Columns.{members}
use Rattle.columns.specs.ColumnSets.{whole}
use Rattle.columns.specs.Turns.{left}
use Rattle.blocks.proofs.TurnLaws.{Numbering}
use Rattle.blocks.proofs.number_block.Given as goal

abbrev pub invariant-loop-x : goal.invariant-loop-x
invariant-loop-x l = Numbering (members (whole l.fn.block)) (left l.x-iterator) l.fn.k l.fn.numbers l.numbers
