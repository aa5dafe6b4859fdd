-- The sizes of the solver's arrays: contracts and proofs cite these names, the code its constants of the same names. Definitions only.
use Rattle.std.specs.Prelude.{ℕ, ◌+◌, ◌-◌, ◌*◌, ◌/◌}
use Rattle.limits.specs.Limits.{most_columns, most_rows}
use Rattle.columns.specs.Columns.{width}

-- from a row of the tableau to the next: a cell for each column that a model has at most
abbrev pub stride : ℕ
stride = most_columns

-- the cells of a tableau: its rows, and behind the last as many more as a set has room for columns that no model has
abbrev pub cells : ℕ
cells = most_rows * stride + (width - stride)

-- the rows of both kinds
abbrev pub lines : ℕ
lines = 2 * most_rows

-- how many columns a row operation takes at a time, and how often a row has so many
abbrev pub block : ℕ
block = 16

abbrev pub blocks : ℕ
blocks = stride / block
