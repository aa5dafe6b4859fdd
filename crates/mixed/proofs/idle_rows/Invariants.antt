-- `mixed::idle_rows`: the set has the idle rows below i.
use Rattle.columns.specs.Columns.{members}
use Rattle.columns.specs.ColumnSets.{whole}
use Rattle.mixed.proofs.IdleRows.{Idle}
use Rattle.mixed.proofs.idle_rows.Given as goal

abbrev pub invariant-loop-i : goal.invariant-loop-i
invariant-loop-i l = Idle l.m l.rows l.i (members (whole l.idle))
