-- A relation between columns, as the set of each column, and the area of words that shows one; the least set that has a column and, with each column,
-- all of its row. Definitions only.
use Rattle.std.specs.Prelude.{ℕ, ◌*◌, ◌≤◌, ◌<◌, ◌≡◌, Bool, true, not, ◌&&◌, ◌||◌, cond, List, length, get_or}
use Rattle.counting.specs.Sets.{Set, all}
use Rattle.counting.specs.Choices.{every_part}
use Rattle.columns.specs.Columns.{width, members}
use Rattle.columns.specs.ColumnSets.{row_words, row_numbers}

-- the set of column x
abbrev pub row_of : List ℕ → ℕ → Set
row_of ws x = members (get_or (row_numbers ws) x 0)

-- columns are below k
module _ (k : ℕ) (R : ℕ → Set) where
  -- K has, with each column, all columns of its row
  unfoldable pub keeps_rows : Set → Bool
  keeps_rows K = all k (λ z. all k (λ y. not (K z && R z y) || K y))

  -- y is in every such set that has x
  unfoldable pub closure : ℕ → Set
  closure x y = every_part k (λ z. true) (λ K. not (K x && keeps_rows K) || K y)

-- where an area has a row for column x
abbrev pub HasRow : List ℕ → ℕ → Type 0
HasRow ws x = x < length (row_numbers ws)

-- a word alone at the end, which is no row, and the length are as they were
pub record SameRest (ws ws' : List ℕ) : Type 0 where
  pub same_length : length ws' ≡ length ws
  pub behind : (i : ℕ) → row_words * length (row_numbers ws) ≤ i → get_or ws' i 0 ≡ get_or ws i 0

-- the columns of a set have gone into the rows of the columns named
pub record Joined (at set : Set) (ws ws' : List ℕ) : Type 0 where
  pub rest : SameRest ws ws'
  pub rows : (x y : ℕ) → HasRow ws x → row_of ws' x y ≡ (row_of ws x y || (at x && set y))

-- the rows of the columns named have their own column and all that it leads to, the others are as they were
pub record ClosedOver (over : Set) (ws ws' : List ℕ) : Type 0 where
  pub rest : SameRest ws ws'
  pub rows : (x y : ℕ) → HasRow ws x → row_of ws' x y ≡ cond (over x) (closure width (row_of ws) x y) (row_of ws x y)
