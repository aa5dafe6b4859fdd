-- The definitions compute: degrees of small models, by running the definitions. Assumes nothing.
use Rattle.std.specs.Prelude.{ℕ, List, [], ◌∷◌, ◌≡◌}
use Rattle.std.proofs.Math.Bool.{decide}
use Rattle.std.proofs.Math.Path.{refl}
use Rattle.std.proofs.Math.Decide.{dec_le, dec_lt, ℕ_discrete}
use Rattle.residue.specs.Arithmetic.{Prime}
use Rattle.residue.specs.Residues.{mk, plus, res, residues, times}
use Rattle.counting.specs.Choices.{every, greatest, largest, some}
use Rattle.counting.specs.Sets.{#, all, any, choose, indicator, set}
use Rattle.columns.specs.Columns.{members}
use Rattle.listed_models.specs.ListedModel.{listed_modulo}
use Rattle.rank.specs.Independent.{in_kernel, independent, is_zero, last_coefficient}
use Rattle.rank.specs.Layered.Model.{has_parameter, legal, same_row}
use Rattle.rank.specs.Layered.Rank.{largest_assignment, last_seat, seat}
use Rattle.rank.specs.Linear.Independence.{dot, Σ}
use Rattle.rank.specs.Totals.{total}
use Rattle.degrees.specs.Degrees.{degree, listed_powers, power_at, weight}

module _ (P : Prime 2) where
  -- the degree of two columns, a constant rows and b parameter rows modulo 2, with powers
  abbrev small : (a b : ℕ) (cs ws row-powers column-powers powers : List ℕ) → ℕ
  small a b cs ws row-powers column-powers powers = degree (listed_modulo 2 P 2 a b cs ws) (listed_powers 2 row-powers column-powers powers)

  -- all that has to be opened to run the definitions
  unfoldable run_counting : ℕ
  unfolding residues res mk plus times Σ dot members indicator # all any choose set greatest largest some every decide ℕ_discrete dec_le dec_lt
  run_counting = 0

  unfoldable run : ℕ
  unfolding run_counting is_zero last_coefficient in_kernel independent same_row has_parameter legal seat last_seat largest_assignment total power_at weight degree
  run = 0

  -- no constants, and two rows with parameters everywhere, of powers 1 2 and 4 2: the larger of 1 + 2 and 2 + 4
  parameters_alone : small 0 2 [] (3 ∷ 3 ∷ []) [] (9 ∷ 9 ∷ []) (1 ∷ 2 ∷ 4 ∷ 2 ∷ []) ≡ 6
  unfolding run
  parameters_alone = refl

  -- a row of constants 1 1 of power 2, columns of powers 3 and 1, a row of parameters of powers 5 and 4: the larger of 2 + 3 + 4 and 2 + 1 + 5
  one_row_each : small 1 1 (1 ∷ 1 ∷ []) (3 ∷ []) (2 ∷ []) (3 ∷ 1 ∷ []) (5 ∷ 4 ∷ []) ≡ 9
  unfolding run
  one_row_each = refl

  -- with the constant of column 0 taken away, column 0 must be on the row
  one_place : small 1 1 (0 ∷ 1 ∷ []) (3 ∷ []) (2 ∷ []) (3 ∷ 1 ∷ []) (5 ∷ 4 ∷ []) ≡ 8
  unfolding run
  one_place = refl
