-- What the code's rows mean while the blocks are listed, by tests that say what comes before what and what shares a block. Definitions only.
use Rattle.std.specs.Prelude.{ℕ, ◌≤◌, ◌<◌, ◌≡◌, ◌↔◌, Bool, true, ◌&&◌, cond, List, eqb, length, get_or}
use Rattle.limits.specs.Limits.{most_columns, no_column}
use Rattle.counting.specs.Sets.{Set, ◌∈◌, ◌⊆◌, #}
use Rattle.columns.specs.Columns.{width}
use Rattle.relation.specs.Relations.{row_of, HasRow}
use Rattle.listings.specs.Offered.{offered}
use Rattle.listings.specs.Blocks.{needs, blocks_by, block_count_by}
use Rattle.blocks.specs.Shown.{Blocks}

-- the set has the offered columns, and the row of each has those that come before it or share its block; one test is a preorder, the other its equivalence
pub record Ordered (n : ℕ) (E : Set) (before share : ℕ → ℕ → Bool) (all : Set) (rows : List ℕ) : Type 0 where
  pub columns : n ≤ most_columns
  pub is_all : (x : ℕ) → all x ≡ offered n E x
  pub shows : (x y : ℕ) → row_of rows x y ≡ (offered n E x && offered n E y && before y x)
  pub self : (x : ℕ) → before x x ≡ true
  pub via : (x y z : ℕ) → before x y ≡ true → before y z ≡ true → before x z ≡ true
  pub both : (x y : ℕ) → (share x y ≡ true) ↔ ((before x y ≡ true) × (before y x ≡ true))

-- row k of the table has the columns of the set whose rows have k columns
pub record BySize (all : Set) (rows table : List ℕ) : Type 0 where
  pub sized : (k y : ℕ) → k ≤ most_columns → row_of table k y ≡ (all y && eqb (# width (row_of rows y)) k)

-- the row of each offered column has what must come before its block
abbrev pub NeedsShown : (n : ℕ) (E : Set) (before share : ℕ → ℕ → Bool) (rows : List ℕ) → Type 0
NeedsShown n E before share rows = (x : ℕ) → x ∈ offered n E → (y : ℕ) → row_of rows x y ≡ needs n E before share x y

-- column x has gone among those that wait for column y
pub record Waits (y x : ℕ) (ws ws' : List ℕ) : Type 0 where
  pub same_length : length ws' ≡ length ws
  pub more : (z : ℕ) → row_of ws z ⊆ row_of ws' z
  pub itself : x < width → HasRow ws y → x ∈ row_of ws' y

-- the columns of a block have its number, the others what they had
pub record Numbered (block : Set) (k : ℕ) (ns ns' : List ℕ) : Type 0 where
  pub same_length : length ns' ≡ length ns
  pub each : (x : ℕ) → x < length ns → get_or ns' x 0 ≡ cond (block x) k (get_or ns x 0)

-- the listing: the number of blocks, the block of each offered column, and 255 for the others
pub record ListedBy (n : ℕ) (E : Set) (before share : ℕ → ℕ → Bool) (r : Blocks) : Type 0 where
  pub no_refusal : r.refusal ≡ 0
  pub count_is : r.count ≡ block_count_by n E before share
  pub in_its_block : (x : ℕ) → x ∈ offered n E → (get_or r.numbers x 0 < r.count) × (x ∈ blocks_by n E before share (get_or r.numbers x 0))
  pub others : (x : ℕ) → x < most_columns → (x ∈ offered n E → ⊥) → get_or r.numbers x 0 ≡ no_column
  pub long : length r.numbers ≡ most_columns
