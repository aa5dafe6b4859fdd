-- The set has the columns below x whose number is k. Assumes nothing.
use Rattle.std.proofs.Common.{◌≡◌}
use Rattle.columns.specs.Columns.{members}
use Rattle.columns.specs.ColumnSets.{whole}
use Rattle.blocks_report.proofs.BlockColumns.{gathered}
use Rattle.blocks_report.proofs.columns_of_block.Given as goal

abbrev pub invariant-loop-x : goal.invariant-loop-x
invariant-loop-x l = members (whole l.set) ≡ gathered l.numbers l.k l.x
