-- The invariant of `exchange::seating::vacate`: the rows before the next one have been written, the others are as they were.
use Rattle.std.proofs.Common.{◌≡◌, ◌<◌, ◌≤◌, ℕ}
use Rattle.exchange.specs.Code.Scanning.{owner_at}
use Rattle.exchange.specs.Code.Held.{vacated_owner}
use Rattle.exchange.proofs.seating.vacate.Given as goal

abbrev pub invariant-loop-owner : goal.invariant-loop-owner
invariant-loop-owner l = record {
  done : (r : ℕ) → r < l.owner-index → owner_at l.owner-items r ≡ vacated_owner l.column l.free (owner_at l.initial.owner-items r);
  rest : (r : ℕ) → l.owner-index ≤ r → owner_at l.owner-items r ≡ owner_at l.initial.owner-items r;
}
