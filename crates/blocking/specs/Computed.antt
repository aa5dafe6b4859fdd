-- The definitions compute: reasons in small models modulo 2, answered by running the definitions, with nothing of what is proved of them. Assumes nothing.
use Rattle.std.specs.Prelude.{ℕ, ◌≡◌, Bool, true, false, List, [], ◌∷◌}
use Rattle.std.proofs.Math.Path.{refl}
use Rattle.std.proofs.Math.Bool.{decide}
use Rattle.std.proofs.Math.Decide.{ℕ_discrete, dec_le, dec_lt}
use Rattle.residue.specs.Arithmetic.{Prime}
use Rattle.residue.specs.Residues.{residues, res, num_of, mk, plus, times}
use Rattle.counting.specs.Sets.{indicator, #, all, any, choose, set, touching}
use Rattle.counting.specs.Choices.{greatest, largest, some, every, membership, largest_part, every_part}
use Rattle.columns.specs.Columns.{members}
use Rattle.rank.specs.Linear.Independence.{Σ, dot}
use Rattle.rank.specs.Layered.Model.{Model, same_row, has_parameter, legal}
use Rattle.rank.specs.Layered.Rank.{seat, constant_rank, sum, last_seat, largest_assignment, some_assignment, row_outside, matching, rank, placeable, taken, placed}
use Rattle.rank.specs.Independent.{is_zero, last_coefficient, in_kernel, independent}
use Rattle.rank.specs.ListedModel.{constant_at, parameter_at}
use Rattle.listed_models.specs.ListedModel.{listed_modulo}
use Rattle.dependence.specs.Multipliers.{sums_to, depends, multiplier, given}
use Rattle.blocking.specs.Reason.{reason, untouched, reason_multiplier}

-- all that has to be opened to run the definitions
unfoldable run : ℕ
unfolding members indicator # all any choose set touching greatest largest some every membership largest_part every_part decide ℕ_discrete dec_le dec_lt residues res num_of mk plus times Σ dot is_zero last_coefficient in_kernel independent same_row has_parameter legal seat constant_rank sum last_seat largest_assignment some_assignment row_outside matching rank placeable taken placed sums_to depends multiplier given reason untouched reason_multiplier
run = 0

module _ (P : Prime 2) where
  -- two columns, one constant row, and b parameter rows as words
  abbrev small : (b : ℕ) → List ℕ → List ℕ → Model
  small b cs ws = listed_modulo 2 P 2 1 b cs ws

  -- the reason for column 1, at columns 0 and 1; whether no parameter row touches it; and the multiplier of column 0
  abbrev of_last : (b : ℕ) → List ℕ → List ℕ → Bool × Bool × Bool × ℕ
  of_last b cs ws =
      let M : Model = small b cs ws in
      (reason M 1 0, reason M 1 1, untouched M (reason M 1), reason_multiplier 2 P 2 1 b (constant_at 2 P 2 cs) (parameter_at ws) (λ x. true) 1 0)

  -- two equal constant columns: both are the reason, and column 1 is column 0
  equal_columns : of_last 0 (1 ∷ 1 ∷ []) [] ≡ (true, true, true, 1)
  unfolding run
  equal_columns = refl

  -- nothing in column 1: it is the reason itself, by no other column
  empty_column : of_last 0 (1 ∷ 0 ∷ []) [] ≡ (false, true, true, 0)
  unfolding run
  empty_column = refl

  -- one parameter row for two columns touches both, and no multiplier is given
  one_row_for_two : of_last 1 (0 ∷ 0 ∷ []) (3 ∷ []) ≡ (true, true, false, 0)
  unfolding run
  one_row_for_two = refl
