-- The bytes of an answer about the degree, by the pattern of the calls for a host in C. Definitions only.
use Rattle.std.specs.Prelude.{ℕ, ◌+◌, List, ◌++◌}
use Rattle.limits.specs.Limits.{most_rows, set_bytes}
use Rattle.columns.specs.Bytes.{bytes_of}
use Rattle.columns.specs.ColumnSets.{whole}
use Rattle.degree.specs.Shown.{Degree}

-- how many there are
abbrev pub degree_length : ℕ
degree_length = 2 + set_bytes + most_rows

-- the degree in two bytes, the low one first; the constant side; and a byte for each parameter row
abbrev pub degree_bytes : Degree → List ℕ
degree_bytes r = bytes_of 2 r.degree ++ (bytes_of set_bytes (whole r.constants) ++ r.rows)
