-- The rows and columns of a square part lie within its table. Assumes nothing.
use Rattle.std.specs.Prelude.{ℕ, ◌<◌}
use Rattle.counting.specs.Sets.{Set, ◌∈◌}
use Rattle.determinants.specs.Determinant.{SquarePart}
use Rattle.determinants.specs.Statements.{members}
use Rattle.determinants.specs.Lists.Members.{Below}
use Rattle.determinants.specs.Lists.Order.{each_members}

module _ (m n : ℕ) (E : Set) (k : ℕ) (S : SquarePart m n E k) where
  pub rows_below : Below m S.rows
  rows_below = each_members (λ i. i < m) S.rows S.rows_within

  pub columns_offered : (x : ℕ) → x ∈ members S.columns → (x < n) × (x ∈ E)
  columns_offered = each_members (λ x. (x < n) × (x ∈ E)) S.columns S.columns_within

  pub columns_below : Below n S.columns
  columns_below x e = (columns_offered x e).0
