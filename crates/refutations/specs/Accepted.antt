-- What judging a small model opens, and the acceptances that `Shortcuts` and `Verdicts` share. Assumes nothing.
use Rattle.std.specs.Prelude.{ℕ, ◌≡◌, refl, [], ◌∷◌}
use Rattle.std.proofs.Math.Option.{none}
use Rattle.residue.specs.Arithmetic.{is_prime, undivided}
use Rattle.counting.specs.Sets.{all, indicator}
use Rattle.columns.specs.Columns.{members, within_in}
use Rattle.format.specs.Lists.{all_pass}
use Rattle.format.specs.Refusals.{first_refusal, prime_test, size_test, constant_test, parameter_test, area_test, numbers_room, number_test, model_tests, refusal, mixed_test, mixed_tests, mixed_refusal}

unfoldable pub judging : ℕ
unfolding all members within_in indicator is_prime undivided all_pass first_refusal prime_test size_test constant_test parameter_test area_test numbers_room number_test model_tests refusal mixed_test mixed_tests mixed_refusal
judging = 0

pub S9_accepted : mixed_refusal 1021 2 2 2 (1 ∷ 1 ∷ 1 ∷ 1 ∷ []) (1 ∷ 0 ∷ []) none ≡ 0
unfolding judging
S9_accepted = refl

-- S10 joined to a constant row 1 0: three rows for two columns, and column 1 has no equation
pub joined_accepted : refusal 2 2 1 2 (1 ∷ 0 ∷ []) (1 ∷ 1 ∷ []) none ≡ 0
unfolding judging
joined_accepted = refl
