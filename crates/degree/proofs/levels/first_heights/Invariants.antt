-- The heights stay from 1 to 16. Assumes nothing.
use Rattle.std.proofs.Common.{◌≡◌, length}
use Rattle.limits.specs.Limits.{most_columns}
use Rattle.degree.specs.Code.{Low}
use Rattle.degree.proofs.levels.first_heights.Given as goal

abbrev pub invariant-loop-r : goal.invariant-loop-r
invariant-loop-r l = record { same_length : length l.out ≡ most_columns; low : Low most_columns l.out }
