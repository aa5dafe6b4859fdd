-- The parameters' numbers, by document 02, E4: as an area holds them, row by row with n entries for each parameter row, and as a row's field has them, those
-- of its parameters alone. Definitions only.
use Rattle.std.specs.Prelude.{ℕ, zero, suc, Bool, true, false, not, ◌&&◌, ◌||◌, cond, List, [], ◌∷◌, ◌++◌, take, drop, get_or, eqb}
use Rattle.std.proofs.Math.Option.{Option, none, some}
use Rattle.counting.specs.Sets.{Set, #}
use Rattle.columns.specs.Columns.{members}

-- ---- a number met a second time

unfoldable pub stands_in : ℕ → List ℕ → Bool
stands_in k [] = false
stands_in k (x ∷ xs) = eqb k x || stands_in k xs

-- no number stands in the list twice
unfoldable pub once : List ℕ → Bool
once [] = true
once (k ∷ ks) = not (stands_in k ks) && once ks

-- ---- a row

-- how many parameters a row of n columns has
unfoldable pub parameter_count : (n w : ℕ) → ℕ
parameter_count n w = # n (members w)

-- of entries that begin at column c, those at a column of S, by ascending column
unfoldable pub picked : Set → ℕ → List ℕ → List ℕ
picked S c [] = []
picked S c (k ∷ ks) = cond (S c) (k ∷ picked S (suc c) ks) (picked S (suc c) ks)

-- back: n entries that begin at column c, at each column of S the next number, and 0 elsewhere
unfoldable pub spread : Set → (c n : ℕ) → List ℕ → List ℕ
spread S c zero ks = []
spread S c (suc n) ks = cond (S c) (get_or ks 0 0 ∷ spread S (suc c) n (drop 1 ks)) (0 ∷ spread S (suc c) n ks)

-- ---- the parameter rows with the numbers ws

-- the numbers of each row, in an area
unfoldable pub numbers_in : (n : ℕ) (ws ks : List ℕ) → List (List ℕ)
numbers_in n [] ks = []
numbers_in n (w ∷ ws) ks = picked (members w) 0 (take n ks) ∷ numbers_in n ws (drop n ks)

-- the entries of an area that holds the numbers of each row
unfoldable pub entries_for : (n : ℕ) (ws : List ℕ) → List (List ℕ) → List ℕ
entries_for n [] kss = []
entries_for n (w ∷ ws) [] = []
entries_for n (w ∷ ws) (ks ∷ kss) = spread (members w) 0 n ks ++ entries_for n ws kss

-- ---- a model is numbered, or it is not

-- the numbers that a call was handed: it is told whether there are any
unfoldable pub lent : Bool → List ℕ → Option (List ℕ)
lent false ks = none
lent true ks = some ks

-- the numbers of each row; a model without parameter rows counts as unnumbered
unfoldable pub numbers_of : (n : ℕ) (ws : List ℕ) → Option (List ℕ) → Option (List (List ℕ))
numbers_of n [] ns = none
numbers_of n (w ∷ ws) none = none
numbers_of n (w ∷ ws) (some ks) = some (numbers_in n (w ∷ ws) ks)

-- the entries that a reader writes: none where the model is unnumbered
unfoldable pub number_entries : (n : ℕ) (ws : List ℕ) → Option (List (List ℕ)) → List ℕ
number_entries n ws none = []
number_entries n ws (some kss) = entries_for n ws kss

-- whether it is numbered
unfoldable pub is_numbered : {A : Type 0} → Option A → Bool
is_numbered none = false
is_numbered (some x) = true
