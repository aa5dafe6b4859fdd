-- Text, as bytes: decimals, items and lines by document 01, "The host and the program", how text gets into a lent area, and a number read from its
-- digits. Definitions only.
use Rattle.std.specs.Prelude.{ℕ, zero, suc, ◌+◌, ◌-◌, ◌*◌, ◌/◌, ◌%◌, ◌≡◌, Bool, true, false, ◌&&◌, cond, Result, eqb, leb, ltb, length, set}
use Rattle.std.specs.Result.{result_unwrap_or}
use Prim.Native.Char.{code}
use Prim.Native.String.{String, [] as []ˢ, ◌∷◌ as ◌∷ˢ◌}
use mathlib.Core.List.{List, [], ◌∷◌, ◌++◌, flat_map}
use Rattle.counting.specs.Sets.{Set}
use Rattle.columns.specs.Columns.{width}
use Rattle.format.specs.Lists.{over}
use Rattle.format.specs.Refused.{refusal_of}
use Rattle.format.specs.declared.refusals.Refusal.{Refusal}
use Rattle.format.specs.Refusals.{first_refusal, unless, area_test, area_short, where_accepted}

-- ---- characters and numbers

-- the bytes of a text
unfoldable pub ascii : String → List ℕ
ascii []ˢ = []
ascii (c ∷ˢ s) = code c ∷ ascii s

-- x in decimal, in at most k + 1 digits: no zero leads but that of 0 itself
unfoldable pub digits : ℕ → ℕ → List ℕ
digits zero x = (48 + x) ∷ []
digits (suc k) x = cond (ltb x 10) ((48 + x) ∷ []) (digits k (x / 10) ++ ((48 + x % 10) ∷ []))

-- x in decimal: x + 1 digits are more than enough
unfoldable pub decimal : ℕ → List ℕ
decimal x = digits x x

-- ---- lines and their items

-- a word, its items and a line feed
unfoldable pub line : List ℕ → List ℕ → List ℕ
line word items = word ++ (items ++ ascii "\n")

-- a number as an item, with the space before it
unfoldable pub item : ℕ → List ℕ
item x = ascii " " ++ decimal x

-- two numbers as an item, a colon between them
unfoldable pub pair_item : ℕ → ℕ → List ℕ
pair_item x y = item x ++ (ascii ":" ++ decimal y)

-- the same, left out where the second number is the one that stands for nothing
unfoldable pub pair_unless : (nothing x y : ℕ) → List ℕ
pair_unless nothing x y = cond (eqb y nothing) [] (pair_item x y)

-- a list's elements as such items, each behind its place; the first has place x
unfoldable pub pair_items : (nothing x : ℕ) → List ℕ → List ℕ
pair_items nothing x [] = []
pair_items nothing x (y ∷ ys) = pair_unless nothing x y ++ pair_items nothing (suc x) ys

-- the columns of S among the k columns from x on, ascending
unfoldable pub columns_from : ℕ → ℕ → Set → List ℕ
columns_from zero x S = []
columns_from (suc k) x S = cond (S x) (x ∷ columns_from k (suc x) S) (columns_from k (suc x) S)

unfoldable pub column_items : Set → List ℕ
column_items S = flat_map item (columns_from width 0 S)

-- ---- the lines that every report may have

-- the verdict's word: 1 is "determined", 2 is "surplus", all else, which is 0, is "open"
unfoldable pub verdict_line : ℕ → List ℕ
verdict_line v = line (ascii "verdict") (ascii " " ++ cond (eqb v 1) (ascii "determined") (cond (eqb v 2) (ascii "surplus") (ascii "open")))

unfoldable pub refused_line : ℕ → List ℕ
refused_line refusal = line (ascii "refused") (item refusal)

-- ---- text put into an area from a place on

-- a byte is stored at the place and the place steps on; where no room is left, all stays as it is
unfoldable pub put : ℕ → List ℕ × ℕ → List ℕ × ℕ
put x (area, at) = cond (ltb at (length area)) (set area at x, at + 1) (area, at)

-- byte after byte
unfoldable pub puts : List ℕ → List ℕ × ℕ → List ℕ × ℕ
puts [] s = s
puts (x ∷ xs) s = puts xs (put x s)

-- the area and the place after the text was put
pub record Puts (text area : List ℕ) (at : ℕ) (area' : List ℕ) (at' : ℕ) : Type 0 where
  pub state_is : (area', at') ≡ puts text (area, at)

-- ---- a whole text printed into an area

-- 8 where the area can't hold this very text
unfoldable pub print_refusal : (text area : List ℕ) → ℕ
print_refusal text area = first_refusal (unless (area_test (length text) (length area)) area_short)

-- what is printed: nothing where it is refused
unfoldable pub printed : (text area : List ℕ) → List ℕ
printed text area = where_accepted (print_refusal text area) text []

-- how many bytes a printing gives back: none where it is refused
abbrev pub printed_length : Result ℕ Refusal → ℕ
printed_length r = result_unwrap_or r 0

-- what is returned, and the area afterwards
pub record Prints (text area : List ℕ) (r : Result ℕ Refusal) (area' : List ℕ) : Type 0 where
  pub refusal_is : refusal_of r ≡ print_refusal text area
  pub length_is : printed_length r ≡ length (printed text area)
  pub bytes_are : area' ≡ over (printed text area) area

-- ---- a number read from its digits

unfoldable pub is_digit : ℕ → Bool
is_digit c = leb 48 c && leb c 57

unfoldable pub all_digits : List ℕ → Bool
all_digits [] = true
all_digits (c ∷ cs) = is_digit c && all_digits cs

-- at least one digit, and nothing else
unfoldable pub is_number : List ℕ → Bool
is_number [] = false
is_number (c ∷ cs) = all_digits (c ∷ cs)

-- the number that digits stand for, behind others that stand for x
unfoldable pub value : ℕ → List ℕ → ℕ
value x [] = x
value x (c ∷ cs) = value (10 * x + (c - 48)) cs

-- the number below the limit that the text stands for; whatever is no such number is read as the limit
unfoldable pub number_below : (limit : ℕ) (text : List ℕ) → ℕ
number_below limit text = cond (is_number text && ltb (value 0 text) limit) (value 0 text) limit
