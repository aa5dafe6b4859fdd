-- The rows from r on are left to put. Assumes nothing.
use Rattle.std.proofs.Common.{drop}
use Rattle.limits.specs.Limits.{no_column}
use Rattle.text.specs.Text.{pair_items}
use Rattle.text.specs.PutLaws.{Putting}
use Rattle.report.specs.Report.{row_items}
use Rattle.report.proofs.put_rows.Given as goal

abbrev pub invariant-loop-r : goal.invariant-loop-r
invariant-loop-r l = Putting (row_items l.rows) (pair_items no_column l.r (drop l.r l.rows)) l.fn.out l.at l.out l.place
