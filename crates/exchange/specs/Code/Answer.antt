-- What the answer shows of the owners: the constant side, and the column of each parameter row. Definitions only.
use Rattle.std.specs.Prelude.{ℕ, ◌+◌, ◌≤◌, ◌<◌, ◌≡◌, ◌↔◌, cond, List, get_or, ltb}
use Rattle.limits.specs.Limits.{most_rows, no_column}
use Rattle.counting.specs.Sets.{Set, ◌∈◌, Some}
use Rattle.exchange.specs.Code.Scanning.{owner_at}

-- the columns that own the first m rows
abbrev pub Side : (n m : ℕ) (o : List ℕ) → Set → Type 0
Side n m o side = (x : ℕ) → (x ∈ side) ↔ ((x < n) × Some m (λ q. owner_at o q ≡ x))

-- the column y, or no column where it is n or more
unfoldable pub shown_column : (n y : ℕ) → ℕ
shown_column n y = cond (ltb y n) y no_column

-- the first b rows show the columns that own them, the others none
pub record RowsShown (n a b : ℕ) (o rows : List ℕ) : Type 0 where
  pub owners : (r : ℕ) → r < b → get_or rows r 0 ≡ shown_column n (owner_at o (a + r))
  pub past : (r : ℕ) → b ≤ r → r < most_rows → get_or rows r 0 ≡ no_column
