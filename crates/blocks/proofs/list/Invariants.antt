-- The invariant of `blocks::list`: k blocks have been listed, and the columns that are left and not awake wait for one that must come before. The measure is
-- the number of columns that are left, and among equals of those that are awake.
use Rattle.std.proofs.Common.{ℕ, Bool, ◌+◌, ◌*◌}
use Rattle.counting.specs.Sets.{Set, #}
use Rattle.columns.specs.Columns.{width, members}
use Rattle.columns.specs.ColumnSets.{whole}
use Rattle.blocks.specs.Code.{Ordered, NeedsShown}
use Rattle.blocks.proofs.ListLaws.{Listing, Watched}
use Rattle.blocks.proofs.list.Given as goal

abbrev pub invariant-loop-waiting : goal.invariant-loop-waiting
invariant-loop-waiting l = record {
  watched : Watched l.needs (members (whole l.rest)) (members (whole l.awake)) l.waiting;
  listing : (n : ℕ) (E : Set) (b t : ℕ → ℕ → Bool) (h : Ordered n E b t (members (whole l.fn.all)) l.rows) (w : NeedsShown n E b t l.needs) → Listing n E b t (members (whole l.fn.all)) l.rows l.needs h w l.k (members (whole l.rest)) l.numbers;
}

abbrev pub decreases-loop-waiting : goal.decreases-loop-waiting
decreases-loop-waiting l = # width (members (whole l.rest)) * 129 + # width (members (whole l.awake))
