-- The rows that have been read let the heights be raised so far. Assumes nothing.
use Rattle.std.proofs.Common.{length}
use Rattle.degree.specs.Code.{Rise}
use Rattle.degree.proofs.levels.rise.Given as goal

abbrev pub invariant-loop-level : goal.invariant-loop-level
invariant-loop-level l = Rise (length l.yielded) l.levels l.tops l.least
