-- All that has to be opened so that the definitions of document 01 compute on a small model. Assumes nothing.
use Rattle.std.specs.Prelude.{ℕ}
use Rattle.std.proofs.Math.Bool.{decide}
use Rattle.std.proofs.Math.Decide.{ℕ_discrete, dec_le, dec_lt}
use Rattle.residue.specs.Arithmetic.{is_prime, undivided}
use Rattle.residue.specs.Residues.{residues, res, mk, plus, times}
use Rattle.counting.specs.Bools.{true?}
use Rattle.counting.specs.Sets.{indicator, #, all, any, choose, set, touching}
use Rattle.counting.specs.Choices.{greatest, largest, some, every, membership, largest_part, every_part}
use Rattle.columns.specs.Columns.{members, word_of}
use Rattle.rank.specs.Modulus.{modulus, modulus_at}
use Rattle.rank.specs.Verdict.{verdict_number}
use Rattle.rank.specs.Linear.Independence.{Σ, dot}
use Rattle.rank.specs.Layered.Model.{same_row, has_parameter, legal}
use Rattle.rank.specs.Layered.Rank.{seat, constant_rank, sum, last_seat, largest_assignment, some_assignment, row_outside, matching, rank, placeable, taken, placed, short, verdict}
use Rattle.rank.specs.Independent.{is_zero, last_coefficient, in_kernel, independent}

unfoldable pub computing : ℕ
unfolding residues res mk plus times Σ dot members word_of indicator # all any choose set touching greatest largest some every membership largest_part every_part same_row has_parameter legal seat constant_rank sum last_seat largest_assignment some_assignment row_outside matching rank placeable taken placed short verdict verdict_number is_zero last_coefficient in_kernel independent decide ℕ_discrete dec_le dec_lt modulus modulus_at true? is_prime undivided
computing = 0
