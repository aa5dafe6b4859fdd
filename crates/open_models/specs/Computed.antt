-- The definitions compute: edits and their refusals on a model of two columns, answered by running the definitions. Assumes nothing.
use Rattle.std.specs.Prelude.{ℕ, ◌≡◌, refl, Bool, true, false, List, [], ◌∷◌}
use Rattle.std.proofs.Math.Bool.{decide}
use Rattle.std.proofs.Math.Decide.{ℕ_discrete, dec_le, dec_lt}
use Rattle.residue.specs.Arithmetic.{is_prime, undivided}
use Rattle.residue.specs.Residues.{residues, res, mk, plus, times}
use Rattle.counting.specs.Bools.{true?}
use Rattle.counting.specs.Sets.{indicator, #, all, any, choose, set, touching}
use Rattle.counting.specs.Choices.{greatest, largest, some, every, membership, largest_part, every_part}
use Rattle.columns.specs.Columns.{members, word_of, within_in}
use Rattle.rank.specs.Modulus.{modulus, modulus_at}
use Rattle.rank.specs.Verdict.{verdict_number}
use Rattle.rank.specs.Linear.Independence.{Σ, dot}
use Rattle.rank.specs.Layered.Model.{same_row, has_parameter, legal}
use Rattle.rank.specs.Layered.Rank.{seat, constant_rank, sum, last_seat, largest_assignment, some_assignment, row_outside, matching, rank, placeable, taken, placed, short, verdict}
use Rattle.rank.specs.Independent.{is_zero, last_coefficient, in_kernel, independent}
use Rattle.format.specs.Lists.{all_pass}
use Rattle.format.specs.Refusals.{first_refusal, prime_test, size_test, constant_test, parameter_test, area_test, row_test, column_test, numbers_room, number_test, model_tests}
use Rattle.open_models.specs.Open.{Open, opened, Edit, take_off, put_back, set_place, clear_place, column_of, held_tests, row_tests, present_test, presence_tests, own_tests, edit_tests, edit_refusal, answer_tests, answer_refusal, with_place, rows_done, present_done, done, after, after_edits, open_model}

-- modulo 2, two columns, constants 1 1, one parameter row with a parameter at column 0
start : Open
start = opened 2 2 1 1 (1 ∷ 1 ∷ []) (1 ∷ [])

-- what is held after a list: the parameter row, and whether columns 0 and 1 are present
held : List Edit → List ℕ × Bool × Bool
held l = ((after_edits start l).ws, (after_edits start l).present 0, (after_edits start l).present 1)

-- all that has to be opened to run edits
unfoldable run : ℕ
unfolding start held is_prime undivided indicator all choose set members word_of within_in all_pass first_refusal prime_test size_test constant_test parameter_test area_test row_test model_tests column_of column_test numbers_room number_test held_tests row_tests present_test presence_tests own_tests edit_tests edit_refusal answer_tests answer_refusal with_place rows_done present_done done after after_edits ℕ_discrete
run = 0

-- 9 before 11, 11 before 14, and 14; setting a set place and clearing a clear one are accepted
refusals : (edit_refusal start (set_place 1 2) ≡ 9) × (edit_refusal start (clear_place 0 2) ≡ 11) × (edit_refusal start (take_off 2) ≡ 11)
    × (edit_refusal start (put_back 0) ≡ 14) × (edit_refusal (after start (take_off 0)) (take_off 0) ≡ 14) × (edit_refusal start (set_place 0 0) ≡ 0)
    × (edit_refusal start (clear_place 0 1) ≡ 0) × (answer_refusal start ≡ 0)
unfolding run
refusals = (refl, refl, refl, refl, refl, refl, refl, refl)

-- a model that a rank call refuses: 6 before 9; a column held as present that is none: 11
abbrev holds_column_2 : Open
holds_column_2 = record { p = 2; n = 2; a = 1; b = 1; cs = 1 ∷ 1 ∷ []; ws = 1 ∷ []; present = λ x. members 7 x }

judged_first : (edit_refusal (opened 2 2 1 1 (1 ∷ 1 ∷ []) (4 ∷ [])) (set_place 1 0) ≡ 6)
    × (answer_refusal holds_column_2 ≡ 11) × (edit_refusal holds_column_2 (put_back 0) ≡ 11)
unfolding run
judged_first = (refl, refl, refl)

-- column 0 out, with its place kept; a place set and one cleared in a column that is out; a refused edit, after which the list goes on
edits_done : (held (take_off 0 ∷ []) ≡ (1 ∷ [], false, true)) × (held (take_off 1 ∷ set_place 0 1 ∷ []) ≡ (3 ∷ [], true, false))
    × (held (take_off 0 ∷ clear_place 0 0 ∷ put_back 0 ∷ []) ≡ (0 ∷ [], true, true))
    × (held (put_back 1 ∷ take_off 2 ∷ take_off 1 ∷ []) ≡ (1 ∷ [], true, false))
unfolding run
edits_done = (refl, refl, refl, refl)

-- a column that there is not is refused, and is not present afterwards
refused_changes_nothing : (after_edits start (put_back 2 ∷ [])).present 2 ≡ false
unfolding run
refused_changes_nothing = refl

-- rank and verdict after a list
of : List Edit → ℕ × ℕ
of l = (rank (open_model (after_edits start l)), verdict (open_model (after_edits start l)))

-- all that has to be opened to run answers
unfoldable answers : ℕ
unfolding run of residues res mk plus times Σ dot # any touching greatest largest some every membership largest_part every_part is_zero last_coefficient in_kernel independent same_row has_parameter legal seat constant_rank sum last_seat largest_assignment some_assignment row_outside matching rank placeable taken placed short verdict verdict_number decide dec_le dec_lt modulus modulus_at true?
answers = 0

-- rank and verdict: as opened 2, determined; without column 0 it is 1, as many as are left, and rows are more; with none left it is 0, and likewise;
-- without the parameter it is 1 of two columns
answers_given : (of [] ≡ (2, 1)) × (of (take_off 0 ∷ []) ≡ (1, 2)) × (of (take_off 0 ∷ take_off 1 ∷ []) ≡ (0, 2)) × (of (clear_place 0 0 ∷ []) ≡ (1, 0))
unfolding answers
answers_given = (refl, refl, refl, refl)

-- column 1 is short without the parameter, and not where it is left alone
short_given : (short (open_model (after_edits start (clear_place 0 0 ∷ []))) 1 ≡ true) × (short (open_model (after_edits start (take_off 0 ∷ []))) 1 ≡ false)
unfolding answers
short_given = (refl, refl)
