-- The rows below h have been written. Assumes nothing.
use Rattle.std.proofs.Common.{◌≡◌, length}
use Rattle.degree.specs.Code.{TightConstants}
use Rattle.degree.proofs.levels.tight_constants.Given as goal

abbrev pub invariant-loop-h : goal.invariant-loop-h
invariant-loop-h l = record {
  same_length : length l.out ≡ length l.fn.out;
  done : TightConstants l.model.n l.h l.constants l.weights l.levels l.out;
}
