-- The definitions compute: independence modulo small primes, and small layered models, answered by running the definitions, with nothing of the theory of
-- the rank. Assumes nothing.
use Rattle.std.specs.Prelude.{ℕ, ◌+◌, ◌*◌, ◌≡◌, Bool, true, false, List, [], ◌∷◌, get_or}
use Rattle.std.proofs.Math.Path.{refl}
use Rattle.std.proofs.Math.Bool.{decide}
use Rattle.std.proofs.Math.Decide.{ℕ_discrete, dec_le, dec_lt}
use Rattle.residue.specs.Arithmetic.{Prime}
use Rattle.residue.specs.Residues.{residues, res, mk, plus, times}
use Rattle.counting.specs.Sets.{Set, indicator, #, all, any, choose, set, touching}
use Rattle.counting.specs.Choices.{greatest, largest, some, every, membership, largest_part, every_part}
use Rattle.columns.specs.Columns.{members}
use Rattle.rank.specs.Linear.Independence.{Σ, dot}
use Rattle.rank.specs.Verdict.{verdict_number}
use Rattle.rank.specs.Layered.Model.{Model, same_row, has_parameter, legal}
use Rattle.rank.specs.Layered.Rank.{seat, constant_rank, sum, last_seat, largest_assignment, some_assignment, row_outside, matching, rank, placeable, taken, placed, short, verdict}
use Rattle.rank.specs.Independent.{is_zero, last_coefficient, in_kernel, independent}
use Rattle.listed_models.specs.ModelModulo.{model_modulo}

-- ---- independence

-- the two columns of two rows of constants are independent
abbrev both : (q : ℕ) → Prime q → List ℕ → Bool
both q P cs = independent q P 2 2 (λ i x. res q P (get_or cs (i * 2 + x) 0)) (λ x. true)

-- the unit matrix has independent columns, and it takes both rows to see it; 1 1 and 1 1 are dependent, and it takes the coefficient minus one to see it;
-- 1 2 and 2 1 are dependent modulo 3 and independent modulo 5
independence : (P : Prime 3) (R : Prime 5) → (both 3 P (1 ∷ 0 ∷ 0 ∷ 1 ∷ []) ≡ true) × (both 3 P (0 ∷ 1 ∷ 1 ∷ 0 ∷ []) ≡ true)
    × (both 3 P (1 ∷ 1 ∷ 1 ∷ 1 ∷ []) ≡ false) × (both 3 P (1 ∷ 2 ∷ 2 ∷ 1 ∷ []) ≡ false) × (both 5 R (1 ∷ 2 ∷ 2 ∷ 1 ∷ []) ≡ true)
unfolding residues res mk plus times Σ dot indicator all choose set greatest largest some every is_zero last_coefficient in_kernel independent decide ℕ_discrete dec_lt
independence P R = (refl, refl, refl, refl, refl)

-- ---- layered models, modulo 2

module _ (P : Prime 2) where
  -- two columns, one constant row, and b parameter rows as words
  abbrev small : (b : ℕ) → List ℕ → List ℕ → Model
  small b cs ws = model_modulo 2 P 2 1 b (λ i x. res 2 P (get_or cs x 0)) (λ r. members (get_or ws r 0)) (λ x. true)

  -- what a set has at columns 0 and 1
  abbrev first_two : Set → Bool × Bool
  first_two S = (S 0, S 1)

  -- the answer of a model M of two columns: rank, placed set, short set, verdict
  record Gives (M : Model) (the_rank : ℕ) (the_placed the_short : Bool × Bool) (the-verdict : ℕ) : Type 0 where
    is_rank : rank M ≡ the_rank
    is_placed : first_two (placed M) ≡ the_placed
    is_short : first_two (short M) ≡ the_short
    is_verdict : verdict M ≡ the-verdict

  -- all that has to be opened to run the definitions
  unfoldable run : ℕ
  unfolding residues res mk plus times Σ dot members indicator # all any choose set touching greatest largest some every membership largest_part every_part is_zero last_coefficient in_kernel independent same_row has_parameter legal seat constant_rank sum last_seat largest_assignment some_assignment row_outside matching rank placeable taken placed short verdict verdict_number decide ℕ_discrete dec_le dec_lt
  run = 0

  -- two equal constant columns and no parameter: one is placed, both are short
  equal_columns : Gives (small 0 (1 ∷ 1 ∷ []) []) 1 (true, false) (true, true) 0
  unfolding run
  equal_columns = record { is_rank = refl; is_placed = refl; is_short = refl; is_verdict = refl }

  -- with a parameter at column 0 both are placed, so column 0 must leave the constant side to column 1
  a_column_moves : Gives (small 1 (1 ∷ 1 ∷ []) (1 ∷ [])) 2 (true, true) (false, false) 1
  unfolding run
  a_column_moves = record { is_rank = refl; is_placed = refl; is_short = refl; is_verdict = refl }

  -- a second parameter row there is one equation more than columns: surplus
  an_equation_is_left_over : Gives (small 2 (1 ∷ 1 ∷ []) (1 ∷ 1 ∷ [])) 2 (true, true) (false, false) 2
  unfolding run
  an_equation_is_left_over = record { is_rank = refl; is_placed = refl; is_short = refl; is_verdict = refl }

  -- column 0 has nothing and column 1 a constant: column 1 is placed, after column 0 was not
  a_later_column_is_placed : Gives (small 0 (0 ∷ 1 ∷ []) []) 1 (false, true) (true, false) 0
  unfolding run
  a_later_column_is_placed = record { is_rank = refl; is_placed = refl; is_short = refl; is_verdict = refl }

  -- one parameter row, with parameters at both columns, serves one of them
  a_row_serves_one_column : Gives (small 1 (0 ∷ 0 ∷ []) (3 ∷ [])) 1 (true, false) (true, true) 0
  unfolding run
  a_row_serves_one_column = record { is_rank = refl; is_placed = refl; is_short = refl; is_verdict = refl }

  -- a constant and two parameters, all at column 0: the rank of all constants is 1, the largest matching is 1, and the rank is 1
  abbrev one_column : Model
  one_column = small 2 (1 ∷ 0 ∷ []) (1 ∷ 1 ∷ [])

  all_at_one_column : Gives one_column 1 (true, false) (false, true) 0
  unfolding run
  all_at_one_column = record { is_rank = refl; is_placed = refl; is_short = refl; is_verdict = refl }

  its_parts : (constant_rank one_column (members 3) ≡ 1) × (matching one_column (members 0) ≡ 1)
  unfolding run
  its_parts = (refl, refl)

  -- the sums of its column sets: the empty one, {0}, {1}, {0, 1}
  its_sums : (sum one_column (members 0) ≡ 2) × (sum one_column (members 1) ≡ 4) × (sum one_column (members 2) ≡ 1) × (sum one_column (members 3) ≡ 3)
  unfolding run
  its_sums = (refl, refl, refl, refl)

  -- no column is offered: without a row the model is determined, with one it is surplus
  none_offered : (verdict (model_modulo 2 P 2 0 0 (λ i x. res 2 P 1) (λ r x. true) (λ x. false)) ≡ 1) × (verdict (model_modulo 2 P 2 1 0 (λ i x. res 2 P 1) (λ r x. true) (λ x. false)) ≡ 2)
  unfolding run
  none_offered = (refl, refl)
