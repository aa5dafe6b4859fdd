-- Lists: tests and statements about every element, rows cut from a list, one list written over the front of another. Definitions only.
use Rattle.std.specs.Prelude.{ℕ, zero, suc, Bool, true, ◌&&◌, cond, List, [], ◌∷◌, ◌++◌, length, take, drop, leb}

-- every element passes the test
unfoldable pub all_pass : {A : Type 0} → (A → Bool) → List A → Bool
all_pass f [] = true
all_pass f (x ∷ xs) = f x && all_pass f xs

-- every element is as stated
abbrev pub All : {A : Type 0} → (A → Type 0) → List A → Type 0
All Is [] = Unit {0}
All Is (x ∷ xs) = Is x × All Is xs

-- the first k rows of n elements each
unfoldable pub rows_of : ℕ → ℕ → List ℕ → List (List ℕ)
rows_of n zero xs = []
rows_of n (suc k) xs = take n xs ∷ rows_of n k (drop n xs)

-- the elements xs over the front of the area; what stands behind them is unchanged
unfoldable pub over : List ℕ → List ℕ → List ℕ
over xs area = xs ++ drop (length xs) area

-- the same where they have room there; else nothing is written
unfoldable pub over_room : List ℕ → List ℕ → List ℕ
over_room xs area = over (cond (leb (length xs) (length area)) xs []) area
