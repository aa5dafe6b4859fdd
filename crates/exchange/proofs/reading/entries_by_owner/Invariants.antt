-- The invariant of `exchange::reading::entries_by_owner`: the entries are those of the owners of the rows below q.
use Rattle.exchange.specs.Code.Reading.{EntriesByOwner}
use Rattle.exchange.proofs.reading.entries_by_owner.Given as goal

abbrev pub invariant-loop-q : goal.invariant-loop-q
invariant-loop-q l = EntriesByOwner l.model.n l.q l.x l.state.cells l.state.owner l.entries
