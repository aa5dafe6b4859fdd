-- The invariant of `exchange::seating::place`: what the last search found, and that the state that is held places what the first did. The measure is the
-- depth at which it was found.
use Rattle.exchange.specs.Code.State.{rows_of, Ready}
use Rattle.exchange.proofs.PlacingLaws.{steps, Seeks, Holds}
use Rattle.exchange.proofs.seating.place.Given as goal

abbrev pub invariant-loop-found : goal.invariant-loop-found
invariant-loop-found l = record {
  arrays : Ready l.model l.state;
  seeks : Seeks l.model.n l.model.a l.model.b (rows_of l.model) l.j l.state.cells l.state.owner l.found;
  holds : Holds l.model.p l.model.n l.model.a l.model.b (rows_of l.model) l.j l.initial.state.cells l.initial.state.owner l.state.cells l.state.owner;
}

abbrev pub decreases-loop-found : goal.decreases-loop-found
decreases-loop-found l = steps l.found
