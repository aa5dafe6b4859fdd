-- What an iterator over the columns of a set gives. Definitions only.
use Rattle.std.specs.Prelude.{ℕ, ◌<◌, ◌≡◌, Option, MatchOption}
use Rattle.counting.specs.Sets.{Set, ◌∈◌}
use Rattle.columns.specs.Columns.{width, members, none, removed, least}
use Rattle.columns.specs.ColumnSets.{whole}
use Rattle.columns.specs.declared.Members.{Members}

-- the columns that are still to come
abbrev pub left : Members → Set
left s = members (whole s.rest)

-- the column x that came is the least of S, and the others are still to come
pub record Least (S : Set) (x : ℕ) (T : Set) : Type 0 where
  pub first : x ≡ least width S
  pub below : x < width
  pub there : x ∈ S
  pub others : T ≡ removed S x

-- a turn gives the least column that was still to come, or none where none was
abbrev pub GivesLeast : Members → Option ℕ → Members → Type 0
GivesLeast s r t = MatchOption r ((left s ≡ none) × (left t ≡ none)) (λ x. Least (left s) x (left t))
