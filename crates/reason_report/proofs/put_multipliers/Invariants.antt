-- The multipliers of the columns from x on are left to put. Assumes nothing.
use Rattle.std.proofs.Common.{drop}
use Rattle.text.specs.Text.{pair_items}
use Rattle.text.specs.PutLaws.{Putting}
use Rattle.reason_report.specs.ReasonReport.{multiplier_items}
use Rattle.reason_report.proofs.put_multipliers.Given as goal

abbrev pub invariant-loop-x : goal.invariant-loop-x
invariant-loop-x l = Putting (multiplier_items l.multipliers) (pair_items 0 l.x (drop l.x l.multipliers)) l.fn.out l.at l.out l.place
