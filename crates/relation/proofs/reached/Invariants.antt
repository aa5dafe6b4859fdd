-- What has been found is what the column leads to, up to the front; the measure is the number of columns that have not been read. Assumes nothing.
use Rattle.std.proofs.Common.{ℕ}
use Rattle.counting.specs.Sets.{Set, ◌⊆◌, #}
use Rattle.columns.specs.Columns.{width, members}
use Rattle.columns.specs.ColumnSets.{whole, Fits}
use Rattle.relation.specs.Closures.{Partly}
use Rattle.relation.proofs.ReachLaws.{Reaching, unread}
use Rattle.relation.proofs.reached.Given as goal

abbrev pub invariant-loop-done : goal.invariant-loop-done
invariant-loop-done l = record {
  fits : Fits l.front;
  inside : members (whole l.front) ⊆ members (whole l.found);
  reaching : (R : ℕ → Set) → Partly R (members (whole l.done)) l.rows → Reaching R l.x (members (whole l.found)) (members (whole l.front));
}

abbrev pub decreases-loop-done : goal.decreases-loop-done
decreases-loop-done l = # width (unread (members (whole l.found)) (members (whole l.front)))
