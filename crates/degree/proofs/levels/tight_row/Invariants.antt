-- The entries of the columns below x have been written. Assumes nothing.
use Rattle.degree.specs.Code.{TightRow}
use Rattle.degree.proofs.levels.tight_row.Given as goal

abbrev pub invariant-loop-x : goal.invariant-loop-x
invariant-loop-x l = TightRow l.x l.from l.level l.constants l.weights l.fn.out l.out
