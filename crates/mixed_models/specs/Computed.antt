-- The definitions compute: S1 and S5 of the bench models, small mixed models and a list of steps, answered by running the
-- definitions, with nothing of the theory. Assumes nothing.
use Rattle.std.specs.Prelude.{ℕ, ◌≡◌, refl, true, false, List, [], ◌∷◌}
use Rattle.std.proofs.Math.Bool.{decide}
use Rattle.std.proofs.Math.Decide.{ℕ_discrete, dec_le, dec_lt}
use Rattle.residue.specs.Arithmetic.{Prime, is_prime, undivided}
use Rattle.residue.specs.Residues.{residues, res, mk, plus, times}
use Rattle.counting.specs.Bools.{true?}
use Rattle.counting.specs.Sets.{indicator, #, all, any, choose, set, touching}
use Rattle.counting.specs.Beside.{beside}
use Rattle.counting.specs.Choices.{greatest, largest, some, every, membership, largest_part, every_part}
use Rattle.columns.specs.Columns.{members}
use Rattle.rank.specs.Modulus.{modulus, modulus_at}
use Rattle.rank.specs.Verdict.{verdict_number}
use Rattle.rank.specs.Linear.Independence.{Σ, dot}
use Rattle.rank.specs.Layered.Model.{Seat, out, constant, row, same_row, has_parameter, legal}
use Rattle.rank.specs.Layered.Rank.{seat, constant_rank, sum, last_seat, largest_assignment, some_assignment, row_outside, matching, rank, placeable, taken, placed, short, verdict}
use Rattle.rank.specs.Independent.{is_zero, last_coefficient, in_kernel, independent}
use Rattle.rank.specs.Steps.{Step, place, remove, move, named, accepted, done, after, after_list, result}
use Rattle.mixed_models.specs.Mixed.{mixed_at, rows_in, unit, mixed_sum, mixed_rank, layered_form}
use Rattle.mixed_models.specs.Starred.Models.{S1, S2, S5}

-- ---- layered models

-- all that has to be opened to run the definitions
unfoldable run : ℕ
unfolding residues res mk plus times Σ dot members indicator # all any choose set touching beside greatest largest some every membership largest_part every_part same_row has_parameter legal seat constant_rank sum last_seat largest_assignment some_assignment row_outside matching rank placeable taken placed short verdict verdict_number is_zero last_coefficient in_kernel independent decide ℕ_discrete dec_le dec_lt
run = 0

-- S1, at its prime 1,021
s1 : (rank S1 ≡ 0) × (placed S1 0 ≡ false) × (short S1 0 ≡ true) × (verdict S1 ≡ 0)
unfolding run modulus modulus_at true? is_prime undivided
s1 = (refl, refl, refl, refl)

-- S5, at its prime 3
s5 : (rank S5 ≡ 1) × (placed S5 0 ≡ true) × (placed S5 1 ≡ false) × (short S5 0 ≡ true) × (short S5 1 ≡ true) × (verdict S5 ≡ 0)
unfolding run modulus modulus_at true? is_prime undivided
s5 = (refl, refl, refl, refl, refl, refl)

-- ---- mixed models

-- S8 and S9, modulo 2: a parameter at a place that holds a constant counts; and one row, with constants 1 0 and parameters at both columns, counts once
mixed_ranks : (P : Prime 2) → (mixed_rank (mixed_at 2 P 2 2 (1 ∷ 1 ∷ 1 ∷ 1 ∷ []) (0 ∷ 0 ∷ [])) ≡ 1) × (mixed_rank (mixed_at 2 P 2 2 (1 ∷ 1 ∷ 1 ∷ 1 ∷ []) (1 ∷ 0 ∷ [])) ≡ 2)
    × (mixed_rank (mixed_at 2 P 1 2 (1 ∷ 0 ∷ []) (3 ∷ [])) ≡ 1)
unfolding run rows_in mixed_sum mixed_rank
mixed_ranks P = (refl, refl, refl)

-- m 1, n 2, constants 1 0, parameters at both, modulo 2: the short set of the layered form is {0, 1, 2}; without the constant it is {1, 2}
form_short : (P : Prime 2) → (short (layered_form (mixed_at 2 P 1 2 (1 ∷ 0 ∷ []) (3 ∷ []))) 0 ≡ true) × (short (layered_form (mixed_at 2 P 1 2 (0 ∷ 0 ∷ []) (3 ∷ []))) 0 ≡ false)
unfolding run unit
form_short P = (refl, refl)

-- ---- steps

-- the seats of the two columns of S2 after a list
abbrev seats_after : List Step → Seat × Seat
seats_after l = (result S2 l 0, result S2 l 1)

-- place, move and remove; a move to the seat that a column has; and two columns that share a row on the way
steps_done : (seats_after (place 0 constant ∷ place 1 (row 0) ∷ []) ≡ (constant, row 0)) × (seats_after (place 1 constant ∷ move 1 (row 0) ∷ move 1 (row 0) ∷ []) ≡ (out, row 0))
    × (seats_after (place 0 (row 0) ∷ place 1 (row 0) ∷ []) ≡ (row 0, row 0)) × (seats_after (place 0 (row 0) ∷ place 1 (row 0) ∷ remove 0 ∷ []) ≡ (out, row 0))
unfolding named accepted done after after_list set choose decide ℕ_discrete dec_lt
steps_done = (refl, refl, refl, refl)

-- refused steps change nothing, and the list goes on: the column is n or more; the row is b or more; the column to place is placed; the column to remove or
-- to move is out
steps_refused : (seats_after (place 2 constant ∷ place 0 constant ∷ []) ≡ (constant, out)) × (result S2 (place 2 constant ∷ []) 2 ≡ out)
    × (seats_after (place 0 (row 1) ∷ place 1 (row 0) ∷ []) ≡ (out, row 0)) × (seats_after (place 0 constant ∷ move 0 (row 1) ∷ []) ≡ (constant, out))
    × (seats_after (place 0 constant ∷ place 0 (row 0) ∷ []) ≡ (constant, out)) × (seats_after (remove 0 ∷ place 0 constant ∷ []) ≡ (constant, out))
    × (seats_after (move 0 constant ∷ place 1 constant ∷ []) ≡ (out, constant)) × (seats_after (place 0 out ∷ []) ≡ (out, out))
unfolding named accepted done after after_list set choose decide ℕ_discrete dec_lt
steps_refused = (refl, refl, refl, refl, refl, refl, refl, refl)
