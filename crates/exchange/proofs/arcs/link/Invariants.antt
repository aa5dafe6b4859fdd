-- The invariant of `exchange::arcs::link`: the rows below q have been read.
use Rattle.columns.specs.Columns.{members}
use Rattle.columns.specs.ColumnSets.{whole}
use Rattle.exchange.specs.Code.State.{touched_by, owned_by}
use Rattle.exchange.specs.Code.Arcs.{Linked}
use Rattle.exchange.proofs.arcs.link.Given as goal

abbrev pub invariant-loop-q : goal.invariant-loop-q
invariant-loop-q l = Linked l.model.n (touched_by l.model l.state) (owned_by l.state) (members (whole l.offered)) l.q l.initial.into l.into (members (whole l.ends))
