-- The constants and the parameters of document 01's layered model of numbers, from its lists. Definitions only.
use Rattle.std.specs.Prelude.{ℕ, ◌+◌, ◌*◌, Bool, List, get_or}
use Rattle.residue.specs.Arithmetic.{Prime}
use Rattle.residue.specs.Residues.{residues, res}
use Rattle.columns.specs.Columns.{members}

-- the constant in row i at column x, modulo the prime q: entry i * n + x of the list
abbrev pub constant_at : (q : ℕ) (P : Prime q) (n : ℕ) → List ℕ → ℕ → ℕ → (residues q P).F
constant_at q P n cs i x = res q P (get_or cs (i * n + x) 0)

-- the columns at which parameter row r has a parameter: the members of its word
abbrev pub parameter_at : List ℕ → ℕ → ℕ → Bool
parameter_at ws r x = members (get_or ws r 0) x
