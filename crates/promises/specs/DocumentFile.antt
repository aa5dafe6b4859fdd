-- The file of document 01, by computation.
use Rattle.std.specs.Prelude.{ℕ, ◌≡◌, refl}
use Rattle.std.proofs.Common.{ap}
use mathlib.Core.List.{List, [], ◌∷◌, flatten}
use Rattle.std.proofs.Math.Option.{none}
use Rattle.residue.specs.Arithmetic.{is_prime, undivided}
use Rattle.counting.specs.Sets.{all}
use Rattle.columns.specs.Columns.{members, within_in}
use Rattle.listed_models.specs.ListedModel.{listed_model}
use Rattle.mixed_models.specs.Starred.Models.{S2}
use Rattle.format.specs.Lists.{all_pass}
use Rattle.format.specs.Refusals.{first_refusal, head_test, body_test, due_test, prime_test, size_test, constant_test, end_test}
use Rattle.format.specs.File.Piece.{head_tests, closed}
use Rattle.format.specs.File.Format.{FileModel, entries, prime_field, sizes_field, constant_row, parameter_size, parameter_row, numbered_test, parameter_rows, end_field, row_fields, size_fields, fields, judge, decode}
use Rattle.layered.specs.FileModel.{file_model}

-- document 01's 32 bytes
unfoldable pub document_file : List ℕ
document_file =
    0x01 ∷ 0x02 ∷ 0x00 ∷ 0xFD ∷ 0x03 ∷ 0x02 ∷ 0x03 ∷ 0x00 ∷ 0x02 ∷ 0x01 ∷ 0x01 ∷ 0x03 ∷ 0x04 ∷ 0x00 ∷ 0x01 ∷ 0x00
    ∷ 0x00 ∷ 0x00 ∷ 0x04 ∷ 0x08 ∷ 0x00 ∷ 0x02 ∷ 0x00 ∷ 0x00 ∷ 0x00 ∷ 0x00 ∷ 0x00 ∷ 0x00 ∷ 0x00 ∷ 0x05 ∷ 0x00 ∷ 0x00 ∷ []

-- what the computations below open
unfoldable tests : ℕ
unfolding is_prime undivided all members within_in all_pass first_refusal head_test body_test due_test prime_test size_test constant_test end_test head_tests
tests = 0

unfoldable run : ℕ
unfolding document_file tests closed entries prime_field sizes_field constant_row parameter_size parameter_row numbered_test parameter_rows end_field row_fields size_fields fields judge decode
run = 0

pub document_accepted : judge document_file ≡ 0
unfolding run
document_accepted = refl

decoded : decode document_file ≡ record { p = 1021; n = 2; a = 1; b = 1; constants = (1 ∷ 0 ∷ []) ∷ []; parameters = 2 ∷ []; numbers = none }
unfolding run
decoded = refl

pub document_model : file_model document_file ≡ S2
unfolding flatten
document_model = ap (λ (m : FileModel). listed_model m.p m.n m.a m.b (flatten m.constants) m.parameters) decoded
