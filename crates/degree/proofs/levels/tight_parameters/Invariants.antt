-- The rows below r have been written. Assumes nothing.
use Rattle.std.proofs.Common.{◌≡◌, length}
use Rattle.columns.specs.ColumnSets.{row_numbers, most_words}
use Rattle.degree.specs.Code.{TightParameters}
use Rattle.degree.proofs.levels.tight_parameters.Given as goal

abbrev pub invariant-loop-r : goal.invariant-loop-r
invariant-loop-r l = record {
  same_length : length l.out ≡ most_words;
  done : TightParameters l.model.n l.model.a l.r (row_numbers l.model.parameters.now) l.model.powers.parameters.now l.bounds.heights l.bounds.levels (row_numbers l.out);
}
