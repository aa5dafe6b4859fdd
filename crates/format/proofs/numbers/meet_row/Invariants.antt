-- The parameters before column c are met, and those from it on are still to be met.
use Rattle.std.proofs.Common.{drop}
use Rattle.columns.specs.Columns.{members}
use Rattle.columns.specs.ColumnSets.{whole}
use Rattle.format.specs.Numbers.{picked}
use Rattle.format.proofs.Meeting.{Meeting}
use Rattle.format.proofs.numbers.meet_row.Given as goal

abbrev pub invariant-loop-c : goal.invariant-loop-c
invariant-loop-c l = Meeting (picked (members (whole l.set)) 0 l.row) (picked (members (whole l.set)) l.c (drop l.c l.row)) l.initial.table l.table
