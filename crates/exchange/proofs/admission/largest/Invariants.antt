-- The invariant of `exchange::admission::largest`: it is the largest so far.
use Rattle.exchange.specs.Code.Admission.{Largest}
use Rattle.exchange.proofs.admission.largest.Given as goal

abbrev pub invariant-loop-v : goal.invariant-loop-v
invariant-loop-v l = Largest l.constants l.v-index l.top
