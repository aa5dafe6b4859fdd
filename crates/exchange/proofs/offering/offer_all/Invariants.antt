-- The invariant of `exchange::offering::offer_all`: the offered columns that have come are offered, and the others are still to come.
use Rattle.columns.specs.Columns.{members}
use Rattle.columns.specs.ColumnSets.{whole}
use Rattle.columns.specs.Turns.{left}
use Rattle.exchange.specs.Code.State.{rows_of, Ready, Completed}
use Rattle.exchange.specs.Code.Offering.{Offers}
use Rattle.exchange.proofs.OfferingLaws.{Offering}
use Rattle.exchange.proofs.offering.offer_all.Given as goal

abbrev pub invariant-loop-j : goal.invariant-loop-j
invariant-loop-j l = Ready l.model l.state × ((G : Completed l.model) → Offers l.model.p l.model.n l.model.a l.model.b (rows_of l.model) (members (whole l.fn.offered)) l.initial.state.cells l.initial.state.owner G → Offering l.model.p l.model.n l.model.a l.model.b (rows_of l.model) G l.state.cells l.state.owner (left l.j-iterator) (members (whole l.placed)))
