-- An unnumbered file: the fields of a file in which no field of numbers is due, how it is judged, and where its parameter rows stand. It is read and
-- written as every file is.
-- Definitions only.
use Rattle.std.specs.Prelude.{ℕ, ◌+◌, ◌*◌, List, set}
use Rattle.std.proofs.Math.Option.{none}
use Rattle.format.specs.Refusals.{head_bytes, first_refusal, where_accepted}
use Rattle.format.specs.File.Piece.{Piece, many, seq, closed}
use Rattle.format.specs.File.Format.{FileModel, Said, parameter_size, prime_field, sizes_field, constant_row, parameter_row, end_field, decode, refused_header}

-- the constant rows, the parameter rows without numbers, and the end
abbrev pub UnnumberedRows : Type 0
UnnumberedRows = List (List ℕ) × (List ℕ × Unit {0})

-- from tag 3 on, by p and by n, a, b
unfoldable pub unnumbered_rows : ℕ → ℕ × ℕ × ℕ → Piece UnnumberedRows
unnumbered_rows p z =
    seq (many z.1 (constant_row p z.0))
    (λ _. seq (many z.2 (parameter_row z.0))
    (λ _. end_field))

-- from tag 2 on, by p
unfoldable pub unnumbered_sizes : ℕ → Piece ((ℕ × ℕ × ℕ) × UnnumberedRows)
unnumbered_sizes p = seq sizes_field (λ z. unnumbered_rows p z)

unfoldable pub unnumbered_fields : Piece (ℕ × ((ℕ × ℕ × ℕ) × UnnumberedRows))
unnumbered_fields = seq prime_field (λ p. unnumbered_sizes p)

-- the refusal of an unnumbered file, or 0
unfoldable pub unnumbered_judge : List ℕ → ℕ
unnumbered_judge s = first_refusal (closed unnumbered_fields s)

-- what it says before its rows; all are 0 but the refusal where it is refused
unfoldable pub unnumbered_header : List ℕ → Said
unnumbered_header s =
    where_accepted (unnumbered_judge s) (record { refusal = 0; p = (decode s).p; n = (decode s).n; a = (decode s).a; b = (decode s).b })
    (refused_header (unnumbered_judge s))

-- ---- its parameter rows

-- where the body of parameter row r stands, by n and a: behind the fields of p and of the sizes, the constant rows, the rows before it, and its head
abbrev pub row_start : (n a r : ℕ) → ℕ
row_start n a r = 11 + a * (head_bytes + 2 * n) + r * (head_bytes + parameter_size n) + head_bytes

-- the model with w in the place of parameter row r, and without numbers
abbrev pub with_row : FileModel → ℕ → ℕ → FileModel
with_row m r w =
    record { p = m.p; n = m.n; a = m.a; b = m.b; constants = m.constants; parameters = set m.parameters r w; numbers = none }
