-- The invariant of `mixed::fill_constants`: the entries below k have been made.
use Rattle.std.proofs.Common.{ℕ, ◌≡◌, ◌<◌, length, get_or}
use Rattle.limits.specs.Limits.{most_constants}
use Rattle.mixed.specs.MixedForm.{form_entry}
use Rattle.mixed.proofs.fill_constants.Given as goal

abbrev pub invariant-loop-k : goal.invariant-loop-k
invariant-loop-k l = record {
  full : length l.form ≡ most_constants;
  made : (j : ℕ) → j < l.k → get_or l.form j 0 ≡ form_entry l.m l.n l.constants j;
}
