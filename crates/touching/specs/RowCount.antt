-- Document 01, the middle term of a set's sum: the number of parameter rows with a parameter somewhere in the set. Definitions only.
use Rattle.std.specs.Prelude.{ℕ, List}
use Rattle.counting.specs.Sets.{Set, #, touching}
use Rattle.rank.specs.ListedModel.{parameter_at}

-- of the first b rows of ws, those that have a parameter at a column of J below n; by `middle_term` it is what stands in the `sum` of J
abbrev pub touching_count : (n b : ℕ) → List ℕ → Set → ℕ
touching_count n b ws J = # b (touching n (parameter_at ws) J)
