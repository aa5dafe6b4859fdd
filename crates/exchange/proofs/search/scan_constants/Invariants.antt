-- The invariants of `exchange::search::scan_constants`: the rows from q on have been read. Within a row's turn those past it have, and it is zero in the
-- columns of the set that are not left.
use Rattle.std.proofs.Common.{◌≡◌, ℕ, ◌+◌, ◌⊎◌}
use Rattle.counting.specs.Sets.{◌∈◌, ◌⊆◌}
use Rattle.columns.specs.Columns.{members}
use Rattle.columns.specs.ColumnSets.{whole}
use Rattle.columns.specs.Turns.{left}
use Rattle.exchange.specs.Code.Cells.{cell}
use Rattle.exchange.specs.Code.Scanning.{AllOwned}
use Rattle.exchange.specs.Code.State.{lines_of, touched_by, owned_by}
use Rattle.exchange.proofs.search.scan_constants.Given as goal

abbrev pub invariant-loop-q : goal.invariant-loop-q
invariant-loop-q l = AllOwned l.model.n (lines_of l.model) (touched_by l.model l.state) (owned_by l.state) (members (whole l.front)) l.q l.model.a (members (whole l.next))

abbrev pub invariant-loop-x : goal.invariant-loop-x
invariant-loop-x l = record {
  owned : AllOwned l.model.n (lines_of l.model) (touched_by l.model l.state) (owned_by l.state) (members (whole l.front)) (l.q + 1) l.model.a (members (whole l.next));
  inside : left l.x-iterator ⊆ members (whole l.front);
  gone : (x : ℕ) → x ∈ members (whole l.front) → (x ∈ left l.x-iterator) ⊎ (cell l.state.cells l.q x ≡ 0);
}
