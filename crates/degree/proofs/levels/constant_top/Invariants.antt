-- The top of the columns that have been read. Assumes nothing.
use Rattle.std.proofs.Common.{◌≢◌, length, get_or}
use Rattle.degree.specs.Code.{Top}
use Rattle.degree.proofs.levels.constant_top.Given as goal

abbrev pub invariant-loop-constant : goal.invariant-loop-constant
invariant-loop-constant l = Top (length l.yielded) (λ x. get_or l.row x 0 ≢ 0) (λ x. get_or l.weights x 0) l.top
