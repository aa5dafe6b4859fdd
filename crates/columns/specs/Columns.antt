-- What a number means as a set of columns, and the set operations that the contracts cite: over any room for columns, and over that of a set.
-- Definitions only.
use Rattle.std.specs.Prelude.{ℕ, zero, suc, ◌+◌, ◌-◌, ◌*◌, ◌/◌, ◌%◌, ◌^◌, Bool, false, not, ◌&&◌, ◌||◌, cond, eqb, leb, ltb}
use Rattle.counting.specs.Sets.{Set, indicator, all}

-- how many columns a word has room for, and a set of two words
abbrev pub word_width : ℕ
word_width = 64

abbrev pub width : ℕ
width = 2 * word_width

-- in how many bytes
abbrev pub word_bytes : ℕ
word_bytes = word_width / 8

abbrev pub room_bytes : ℕ
room_bytes = width / 8

-- bit x of the number w, 0 or 1
abbrev pub bit : ℕ → ℕ → ℕ
bit w x = w / 2 ^ x % 2

-- the columns of the number w
unfoldable pub members : ℕ → Set
members w x = eqb (bit w x) 1

abbrev pub none : Set
none x = false

-- the columns below n that there is room for among k
unfoldable pub upto_in : ℕ → ℕ → Set
upto_in k n x = ltb x n && ltb x k

abbrev pub upto : ℕ → Set
upto = upto_in width

-- S with column j, where there is room for j among k
unfoldable pub inserted_in : ℕ → Set → ℕ → Set
inserted_in k S j x = S x || (eqb x j && ltb j k)

abbrev pub inserted : Set → ℕ → Set
inserted = inserted_in width

-- S without column j
unfoldable pub removed : Set → ℕ → Set
removed S j x = S x && not (eqb x j)

-- S moved m columns up, as far as there is room among k
unfoldable pub moved_up_in : ℕ → Set → ℕ → Set
moved_up_in k S m x = leb m x && S (x - m) && ltb x k

abbrev pub moved_up : Set → ℕ → Set
moved_up = moved_up_in width

-- S moved m columns down
unfoldable pub moved_down : Set → ℕ → Set
moved_down S m x = S (m + x)

-- the least member of S below n, or n
unfoldable pub least : ℕ → Set → ℕ
least zero S = 0
least (suc n) S = cond (S 0) 0 (suc (least n (λ x. S (suc x))))

-- the greatest member of S below n, or d
unfoldable pub last_member : (d n : ℕ) → Set → ℕ
last_member d zero S = d
last_member d (suc n) S = cond (S n) n (last_member d n S)

-- the number of the columns of S below k
unfoldable pub word_of : ℕ → Set → ℕ
word_of zero S = 0
word_of (suc k) S = indicator (S 0) + 2 * word_of k (λ x. S (suc x))

-- no column of the number w that there is room for among k is n or more
unfoldable pub within_in : ℕ → ℕ → ℕ → Bool
within_in k n w = all k (λ x. not (members w x) || ltb x n)

abbrev pub within : ℕ → ℕ → Bool
within = within_in width
