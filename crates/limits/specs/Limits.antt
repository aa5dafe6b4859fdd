-- The limits of documents 01 and 02, each said here once: contracts and proofs cite these names, the code its constants of the same names. Definitions only.
use Rattle.std.specs.Prelude.{ℕ, ◌+◌, ◌*◌}

-- n is 1 to so many columns
abbrev pub most_columns : ℕ
most_columns = 96

-- a and b are 0 to so many rows each
abbrev pub most_rows : ℕ
most_rows = 96

-- how many constants a model has at most
abbrev pub most_constants : ℕ
most_constants = most_rows * most_columns

-- the largest prime that two bytes hold
abbrev pub largest_prime : ℕ
largest_prime = 65521

-- how many bytes show a column set in an answer, and at most in a file's row
abbrev pub set_bytes : ℕ
set_bytes = 12

-- what a parameter row shows that has no column
abbrev pub no_column : ℕ
no_column = 255

-- how many bytes the longest file has: the fields of prime, sizes and end, the most rows of both kinds, and the numbers of all parameters
abbrev pub longest_file : ℕ
longest_file = 14 + most_rows * (3 + 2 * most_columns) + most_rows * (3 + set_bytes) + most_rows * (3 + 2 * most_columns)
