-- No parameter of the rows below r has a power above the largest. Assumes nothing.
use Rattle.std.proofs.Common.{ℕ, ◌≡◌, ◌<◌, ◌+◌, ◌*◌, true, not, ◌||◌, leb, get_or}
use Rattle.counting.specs.Sets.{all}
use Rattle.columns.specs.ColumnSets.{row_numbers}
use Rattle.rank.specs.ListedModel.{parameter_at}
use Rattle.degree.specs.Answers.{most_power}
use Rattle.degree.proofs.powers.parameters_low.Given as goal

abbrev pub invariant-loop-r : goal.invariant-loop-r
invariant-loop-r l = let m = l.model in
    (j : ℕ) → j < l.r → all m.n (λ x. not (parameter_at (row_numbers m.parameters.now) j x) || leb (get_or m.powers.parameters.now (j * m.n + x) 0) most_power) ≡ true
