-- The exchange graph as the code reads it off its arrays: which rows touch a column and who owns them; and what reading a set of columns says.
-- Definitions only.
use Rattle.std.specs.Prelude.{ℕ, ◌+◌, ◌-◌, ◌≤◌, ◌<◌, ◌≡◌, Bool, true, not, cond, List, length, get_or, eqb, ltb}
use Rattle.counting.specs.Sets.{Set, ◌∈◌}
use Rattle.columns.specs.Columns.{members}
use Rattle.columns.specs.ColumnSets.{whole}
use Rattle.limits.specs.Limits.{most_columns, most_rows}
use Rattle.residue.specs.Arithmetic.{is_prime}
use Rattle.exchange.specs.Sizes.{cells, lines}
use Rattle.exchange.specs.Code.Cells.{cell, Below}
use Rattle.exchange.specs.declared.search.Met.{Met}
use Rattle.exchange.specs.declared.search.Met.TheVariants.{Free, OwnedBy}

-- ---- the arrays

-- the tableau t and the owners o have room for n columns, a constant rows and N rows of both kinds
pub record Lengths (n a N : ℕ) (t o : List ℕ) : Type 0 where
  pub tableau : length t ≡ cells
  pub owners : length o ≡ lines
  pub columns : n ≤ most_columns
  pub constant_rows : a ≤ most_rows
  pub constants_among : a ≤ N
  pub all_rows : N ≤ lines

-- they are those of a model modulo p, with b parameter rows
pub record Arrays (p n a b : ℕ) (t o : List ℕ) : Type 0 where
  pub lengths : Lengths n a (a + b) t o
  pub below : Below p t
  pub prime : is_prime p ≡ true

-- ---- what they say of rows

-- row q touches column x: a constant row where the tableau t is not zero, a parameter row, from a on, where its number in ws has x
unfoldable pub touched : (a : ℕ) (t ws : List ℕ) → ℕ → ℕ → Bool
touched a t ws q x = cond (ltb q a) (not (eqb (cell t q x) 0)) (members (get_or ws (q - a) 0) x)

-- the owner of row q
abbrev pub owner_at : List ℕ → ℕ → ℕ
owner_at o q = get_or o q 0

module _ (n N : ℕ) (tch : ℕ → ℕ → Bool) (own : ℕ → ℕ) where
  -- row q, where it touches x, has an owner, and the owner is in next
  abbrev pub RowRead : (next : Set) (x q : ℕ) → Type 0
  RowRead next x q = tch q x ≡ true → (own q < n) × (own q ∈ next)

  -- so do the rows from l to below m
  abbrev pub RowsRead : (next : Set) (x l m : ℕ) → Type 0
  RowsRead next x l m = (k : ℕ) → l ≤ k → k < m → RowRead next x k

  -- y owns a row that touches a column of front
  pub record Owner (front : Set) (y : ℕ) : Type 0 where
    pub column : ℕ
    pub row : ℕ
    pub inside : column ∈ front
    pub below : row < N
    pub touches : tch row column ≡ true
    pub owns : own row ≡ y
    pub taken : y < n

  abbrev pub Owners : (front next : Set) → Type 0
  Owners front next = (y : ℕ) → y ∈ next → Owner front y

  -- row is free, and touches column, which is in front
  pub record FreeRow (front : Set) (column row : ℕ) : Type 0 where
    pub below : row < N
    pub inside : column ∈ front
    pub touches : tch row column ≡ true
    pub is_free : n ≤ own row

  -- the rows from l to below m have been read for front, and those that touch it are owned by the columns of next
  pub record AllOwned (front : Set) (l m : ℕ) (next : Set) : Type 0 where
    pub rows : (x : ℕ) → x ∈ front → RowsRead next x l m
    pub from : Owners front next

  -- what reading the rows from l to below m for front meets
  abbrev pub Scanned : (front : Set) (l m : ℕ) → Met → Type 0
  Scanned front l m (Free column row) = FreeRow front column row
  Scanned front l m (OwnedBy next) = AllOwned front l m (members (whole next))
