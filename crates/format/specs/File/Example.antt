-- The definitions on the file of document 01, by computation: judged, read, written, looked up in, and refused where it is changed.
use Rattle.std.specs.Prelude.{ℕ, ◌≡◌, refl, take}
use mathlib.Core.List.{List, [], ◌∷◌, ◌++◌, flat_map}
use Rattle.std.proofs.Math.Option.{none}
use Rattle.residue.specs.Arithmetic.{is_prime, undivided}
use Rattle.counting.specs.Sets.{all}
use Rattle.columns.specs.Columns.{members, within_in}
use Rattle.format.specs.Lists.{all_pass}
use Rattle.format.specs.Refusals.{first_refusal, head_test, body_test, due_test, prime_test, size_test, constant_test, end_test, row_test}
use Rattle.format.specs.File.Piece.{head_tests, closed}
use Rattle.format.specs.File.Format.{FileModel, entries, entry_bytes, prime_field, sizes_field, rows_part, from_row, constant_row, parameter_size, parameter_row, numbered_test, parameter_rows, end_field, row_fields, size_fields, fields, judge, decode, encode, lookup_refusal, lookup_start, lookup_length, lookup}

bytes : List ℕ
bytes =
    0x01 ∷ 0x02 ∷ 0x00 ∷ 0xFD ∷ 0x03 ∷ 0x02 ∷ 0x03 ∷ 0x00 ∷ 0x02 ∷ 0x01 ∷ 0x01 ∷ 0x03 ∷ 0x04 ∷ 0x00 ∷ 0x01 ∷ 0x00 ∷ 0x00 ∷ 0x00 ∷ 0x04 ∷ 0x08 ∷ 0x00 ∷ 0x02 ∷ 0x00 ∷ 0x00
    ∷ 0x00 ∷ 0x00 ∷ 0x00 ∷ 0x00 ∷ 0x00 ∷ 0x05 ∷ 0x00 ∷ 0x00 ∷ []

model : FileModel
model = record { p = 1021; n = 2; a = 1; b = 1; constants = (1 ∷ 0 ∷ []) ∷ []; parameters = 2 ∷ []; numbers = none }

-- what the computations below open
unfoldable run : ℕ
unfolding bytes model flat_map is_prime undivided all members within_in all_pass first_refusal head_test body_test due_test prime_test size_test constant_test end_test row_test head_tests closed entries entry_bytes prime_field sizes_field constant_row parameter_size parameter_row numbered_test parameter_rows end_field row_fields size_fields fields rows_part from_row judge decode encode lookup_refusal lookup_start lookup_length lookup
run = 0

accepted : judge bytes ≡ 0
unfolding run
accepted = refl

read : decode bytes ≡ model
unfolding run
read = refl

written : encode model ≡ bytes
unfolding run
written = refl

row_0 : lookup bytes 0 ≡ 1 ∷ 0 ∷ 0 ∷ 0 ∷ []
unfolding run
row_0 = refl

row_1 : lookup_refusal bytes 1 ≡ 9
unfolding run
row_1 = refl

cut : judge (take 31 bytes) ≡ 1
unfolding run
cut = refl

followed : judge (bytes ++ 0 ∷ []) ≡ 7
unfolding run
followed = refl
