-- The invariant of `exchange::search::search`: it is in layer `depth`, and each layer has brought a column. The measure is the number of columns that are
-- not reached.
use Rattle.std.proofs.Common.{ℕ, ◌-◌, ◌<◌, ◌≤◌}
use Rattle.counting.specs.Sets.{Set, ◌∈◌, #}
use Rattle.columns.specs.Columns.{width, members}
use Rattle.columns.specs.ColumnSets.{whole}
use Rattle.rank.specs.Graph.States.{State}
use Rattle.exchange.specs.Code.State.{lines_of, touched_by, owned_by}
use Rattle.exchange.specs.Code.Searching.{Shows}
use Rattle.exchange.proofs.SearchingLaws.{Reaching}
use Rattle.exchange.proofs.search.search.Given as goal

abbrev pub invariant-loop-column : goal.invariant-loop-column
invariant-loop-column l = record {
  brought : l.depth ≤ # width (members (whole l.reached));
  reaching : (E : Set) (s : State l.model.n (lines_of l.model)) → Shows E s (touched_by l.model l.state) (owned_by l.state)
      → ((x : ℕ) → x ∈ members (whole l.fn.start) → (x < l.model.n) × (x ∈ E)) → Reaching s (members (whole l.fn.start)) E (members (whole l.reached)) (members (whole l.front)) l.depth;
}

abbrev pub decreases-loop-column : goal.decreases-loop-column
decreases-loop-column l = width - # width (members (whole l.reached))
