-- A column read off the tableau by the owners of its rows. Definitions only.
use Rattle.std.specs.Prelude.{ℕ, ◌≤◌, ◌<◌, ◌≡◌, Bool, true, false, ◌≢◌, ◌⊎◌, List, length, get_or}
use Rattle.limits.specs.Limits.{most_columns}
use Rattle.counting.specs.Sets.{Some}
use Rattle.exchange.specs.Code.Cells.{cell}
use Rattle.exchange.specs.Code.Scanning.{owner_at}

-- of the first k rows those that are free are zero in column x
abbrev pub FreeZero : (n k x : ℕ) (t o : List ℕ) → Type 0
FreeZero n k x t o = (q : ℕ) → q < k → n ≤ owner_at o q → cell t q x ≡ 0

-- whether column x is zero in every free row
pub record ZeroWhereFree (n a x : ℕ) (t o : List ℕ) (r : Bool) : Type 0 where
  pub if_true : r ≡ true → FreeZero n a x t o
  pub if_false : r ≡ false → Some a (λ q. (n ≤ owner_at o q) × (cell t q x ≢ 0))

-- v is the entry of column x in a row, of the first k, that column j owns; or it is 0, and column j owns none
abbrev pub Entry : (n k x : ℕ) (t o : List ℕ) (j v : ℕ) → Type 0
Entry n k x t o j v = Some k (λ q. (owner_at o q < n) × (owner_at o q ≡ j) × (v ≡ cell t q x)) ⊎ ((v ≡ 0) × ((q : ℕ) → q < k → owner_at o q < n → owner_at o q ≢ j))

-- the entries of column x by the owners of the first k rows
pub record EntriesByOwner (n k x : ℕ) (t o entries : List ℕ) : Type 0 where
  pub full : length entries ≡ most_columns
  pub each : (j : ℕ) → Entry n k x t o j (get_or entries j 0)
