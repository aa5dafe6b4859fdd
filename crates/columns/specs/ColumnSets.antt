-- What the code's sets of columns and areas of parameter rows mean: a set is the number that its two words show, its bits are the columns, and an area
-- is the list of its rows' numbers. Definitions only.
use Rattle.std.specs.Prelude.{ℕ, ◌+◌, ◌*◌, ◌/◌, ◌%◌, ◌^◌, ◌<◌, ◌≡◌, cond, List, [], ◌∷◌, ltb, length, get_or, set, take}
use Rattle.limits.specs.Limits.{most_rows}
use Rattle.counting.specs.Sets.{Set, touching}
use Rattle.columns.specs.Bytes.{number, bit_shown}
use Rattle.columns.specs.Columns.{word_width, width, room_bytes, bit, members}
use Rattle.columns.specs.declared.ColumnSet.{ColumnSet}

-- the number whose bits are those of the low word and, from bit 64 on, those of the high word
abbrev pub joined : (low high : ℕ) → ℕ
joined l h = l + 2 ^ word_width * h

-- and back: the two words of a number
abbrev pub low_word : ℕ → ℕ
low_word w = w % 2 ^ word_width

abbrev pub high_word : ℕ → ℕ
high_word w = w / 2 ^ word_width

-- the number of a set
unfoldable pub whole : ColumnSet → ℕ
whole s = joined s.low s.high

-- the set with a number
unfoldable pub set_of : ℕ → ColumnSet
set_of w = record { low = low_word w; high = high_word w }

-- the set with no column
unfoldable pub empty_set : ColumnSet
empty_set = record { low = 0; high = 0 }

-- what the type of a set says of its words
abbrev pub Fits : ColumnSet → Type 0
Fits s = (s.low < 2 ^ word_width) × (s.high < 2 ^ word_width)

-- the set is read from bytes: its number is that of the first of them, as many as a set has room for, and bit c of it is set exactly where bit c mod 8 of
-- byte c div 8 is
pub record ReadFrom (bs : List ℕ) (s : ColumnSet) : Type 0 where
  pub is_number : whole s ≡ number (take room_bytes bs)
  pub bits : (c : ℕ) → c < width → bit (whole s) c ≡ bit_shown bs c

-- how many words an area has for each parameter row, and for those of every model
abbrev pub row_words : ℕ
row_words = 2

abbrev pub most_words : ℕ
most_words = most_rows * row_words

-- the numbers of the rows of an area, the low word of each first; a word alone at the end is no row
unfoldable pub row_numbers : List ℕ → List ℕ
row_numbers [] = []
row_numbers (l ∷ []) = []
row_numbers (l ∷ h ∷ ws) = joined l h ∷ row_numbers ws

-- of rows with these numbers, those that have a parameter in K
abbrev pub rows_touching : List ℕ → Set → Set
rows_touching ws K = touching width (λ r. members (get_or ws r 0)) K

-- the area with the number w for row r, where it has such a row
unfoldable pub with_row : List ℕ → ℕ → ℕ → List ℕ
with_row ws r w = cond (ltb r (length (row_numbers ws))) (set (set ws (row_words * r) (low_word w)) (row_words * r + 1) (high_word w)) ws
