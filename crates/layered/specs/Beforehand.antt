-- What the layered rank call tests itself, as a private function of it promises. Definitions only.
use Rattle.std.specs.Prelude.{ℕ, ◌≡◌, true, Bool, ◌&&◌, List, take, leb}
use Rattle.limits.specs.Limits.{largest_prime}
use Rattle.columns.specs.ColumnSets.{whole}
use Rattle.columns.specs.declared.ColumnSet.{ColumnSet}
use Rattle.models.specs.Lent.{constants_lent, rows_lent}
use Rattle.models.specs.declared.LentModel.{LentModel}
use Rattle.exchange.specs.declared.Solution.{Solution}
use Rattle.exchange.specs.Solve.{Answers}
use Rattle.format.specs.Refusals.{parameter_test}

-- the tests that the solver does not make
unfoldable pub beforehand : (p n b : ℕ) → List ℕ → Bool
beforehand p n b ws = leb p largest_prime && leb 1 n && parameter_test n (take b ws)

-- these tests pass, and the solver answers
pub record SolutionGiven (m : LentModel) (offered : ColumnSet) (s : Solution) : Type 0 where
  pub passes : beforehand m.p m.n m.b (rows_lent m) ≡ true
  pub is_answer : Answers m.p m.n m.a m.b (whole offered) (constants_lent m) (rows_lent m) s
