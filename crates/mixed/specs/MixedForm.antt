-- The layered form of a mixed model in numbers, as the call makes it. Definitions only.
use Rattle.std.specs.Prelude.{ℕ, ◌+◌, ◌*◌, ◌/◌, ◌%◌, ◌<◌, ◌≤◌, List, get_or, eqb}
use Rattle.limits.specs.Limits.{no_column}
use Rattle.counting.specs.Sets.{Set, indicator}
use Rattle.counting.specs.Beside.{beside}
use Rattle.columns.specs.Columns.{inserted, moved_up}

-- entry k of the form's m rows of m + n constants: the unit matrix, and behind it the constants
unfoldable pub form_entry : (m n : ℕ) → List ℕ → ℕ → ℕ
form_entry m n cs k = beside m (λ j. indicator (eqb (k / (m + n)) j)) (λ x. get_or cs (k / (m + n) * n + x) 0) (k % (m + n))

-- parameter row i of the form: column i, and the columns of its own row m up
abbrev pub form_row : (m : ℕ) → Set → ℕ → Set
form_row m own i = inserted (moved_up own m) i

-- the column y that a row of the form shows is an original one
abbrev pub serves : (m y : ℕ) → Type 0
serves m y = (m ≤ y) × (y < no_column)
