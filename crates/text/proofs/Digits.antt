-- A number read digit by digit: what is left to read, and what it comes to. Assumes nothing.
use Prim.Native.Nat.{ℕ, ◌+◌, ◌-◌, ◌*◌, ◌≤◌, ◌<◌}
use mathlib.Core.Path.{◌≡◌, refl}
use mathlib.Core.Bool.{Bool, true, false, ◌&&◌, cond}
use mathlib.Core.Logic.{◌≢◌, by_cases}
use mathlib.Core.List.{List, [], ◌∷◌}
use native.Mathlib.Omega.{arith}
use native.Mathlib.Decide.{dec_lt}
use lib.Dec.{ltb}
use lib.ListN.{length, get_or, drop}
use borrow.Author.Tests.{lt-ltb, le-ltb}
use Rattle.std.specs.Char.{is_ascii_digit}
use Rattle.std.proofs.lemmas.List.{drop_more}
use Rattle.text.specs.Text.{is_digit, all_digits, is_number, value, number_below}

-- ---- what is read where x was, and cs are left

unfoldable pub read_on : (limit x : ℕ) → List ℕ → ℕ
read_on limit x cs = cond (all_digits cs && ltb (value x cs) limit) (value x cs) limit

value_grows : (x : ℕ) (cs : List ℕ) → x ≤ value x cs
unfolding value
value_grows x [] = omega arith
value_grows x (c ∷ cs) = omega (arith, value_grows (10 * x + (c - 48)) cs)

pub number_empty : (limit : ℕ) (cs : List ℕ) → length cs ≡ 0 → number_below limit cs ≡ limit
unfolding number_below is_number
number_empty limit [] e = refl
number_empty limit (c ∷ cs) e = absurd (omega arith)

pub number_begun : (limit : ℕ) (cs : List ℕ) → length cs ≢ 0 → number_below limit cs ≡ read_on limit 0 cs
unfolding number_below is_number read_on
number_begun limit [] ne = absurd (ne refl)
number_begun limit (c ∷ cs) ne = refl

-- a digit is taken in, and whatever is none ends the number
pub read_digit : (limit x : ℕ) (cs : List ℕ) (i : ℕ) → i < length cs → is_ascii_digit (get_or cs i 0) ≡ true → read_on limit x (drop i cs) ≡ read_on limit (10 * x + (get_or cs i 0 - 48)) (drop (i + 1) cs)
unfolding read_on all_digits value is_digit
read_digit limit x cs i l e = rw (drop_more cs i 0 l, e) refl

pub read_other : (limit x : ℕ) (cs : List ℕ) (i : ℕ) → i < length cs → is_ascii_digit (get_or cs i 0) ≡ false → read_on limit x (drop i cs) ≡ limit
unfolding read_on all_digits is_digit
read_other limit x cs i l e = rw (drop_more cs i 0 l, e) refl

-- more digits make no number smaller
pub read_beyond : (limit x : ℕ) (cs : List ℕ) → limit ≤ x → read_on limit x cs ≡ limit
unfolding read_on
read_beyond limit x cs h = rw (le-ltb (value x cs) limit (omega (arith, value_grows x cs))) (either (all_digits cs))
  where
    either : (b : Bool) → cond (b && false) (value x cs) limit ≡ limit
    either true = refl
    either false = refl

pub read_all : (limit x : ℕ) → x ≤ limit → read_on limit x [] ≡ x
unfolding read_on all_digits value
read_all limit x h = by_cases (dec_lt x limit) (λ l. rw (lt-ltb x limit l) refl) (λ nl. rw (le-ltb x limit (omega arith)) (omega arith))
