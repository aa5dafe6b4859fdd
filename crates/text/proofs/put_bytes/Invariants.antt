-- The bytes from place x-index on are left to put. Assumes nothing.
use Rattle.std.proofs.Common.{drop}
use Rattle.text.specs.PutLaws.{Putting}
use Rattle.text.proofs.put_bytes.Given as goal

abbrev pub invariant-loop-x : goal.invariant-loop-x
invariant-loop-x l = Putting l.text (drop l.x-index l.text) l.fn.out l.at l.out l.place
