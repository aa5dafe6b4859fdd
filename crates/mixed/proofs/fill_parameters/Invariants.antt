-- The invariant of `mixed::fill_parameters`: the rows below i have been made.
use Rattle.std.proofs.Common.{ℕ, ◌≡◌, ◌<◌, length, get_or}
use Rattle.columns.specs.Columns.{members}
use Rattle.columns.specs.ColumnSets.{row_numbers}
use Rattle.mixed.specs.MixedForm.{form_row}
use Rattle.mixed.proofs.fill_parameters.Given as goal

abbrev pub invariant-loop-i : goal.invariant-loop-i
invariant-loop-i l = record {
  same_rows : length (row_numbers l.words) ≡ length (row_numbers l.initial.words);
  made : (k : ℕ) → k < l.i → members (get_or (row_numbers l.words) k 0) ≡ form_row l.m (members (get_or (row_numbers l.parameters) k 0)) k;
  same_length : length l.words ≡ length l.initial.words;
}
