-- A number's decimal is read as that number. Assumes nothing.
use Rattle.std.specs.Prelude.{ℕ, zero, suc, ◌+◌, ◌-◌, ◌*◌, ◌/◌, ◌%◌, ◌≤◌, ◌<◌, ◌≡◌, refl, true, List, [], ◌∷◌, ◌++◌}
use Rattle.std.proofs.Common.{sym, ◌∙◌, subst, arith, lt-ltb, le-leb}
use Rattle.std.proofs.lemmas.Bool.{false≢true}
use Rattle.std.proofs.Math.Logic.{by_cases}
use Rattle.std.proofs.Math.Decide.{dec_lt}
use Rattle.counting.specs.Bools.{and_in, and_left, and_right}
use Rattle.text.specs.Text.{decimal, is_digit, all_digits, is_number, value, number_below}
use Rattle.text.specs.TextLaws.{decimal_small, decimal_large}

-- the text is a number, and stands for x
record Shows (x : ℕ) (text : List ℕ) : Type 0 where
  is_one : is_number text ≡ true
  stands_for : value 0 text ≡ x

digit : (d : ℕ) → d < 10 → is_digit (48 + d) ≡ true
unfolding is_digit
digit d l = and_in (le-leb 48 (48 + d) (omega arith)) (le-leb (48 + d) 57 (omega arith))

shows_digit : (d : ℕ) → d < 10 → Shows d ((48 + d) ∷ [])
unfolding is_number all_digits value
shows_digit d l = record { is_one = and_in (digit d l) refl; stands_for = omega arith }

-- ---- a digit behind a number

all_append : (cs ds : List ℕ) → all_digits cs ≡ true → all_digits ds ≡ true → all_digits (cs ++ ds) ≡ true
unfolding all_digits
all_append [] ds h g = g
all_append (c ∷ cs) ds h g = and_in (and_left (is_digit c) _ h) (all_append cs ds (and_right (is_digit c) _ h) g)

number_append : (cs ds : List ℕ) → is_number cs ≡ true → all_digits ds ≡ true → is_number (cs ++ ds) ≡ true
unfolding is_number
number_append [] ds h g = absurd (false≢true h)
number_append (c ∷ cs) ds h g = all_append (c ∷ cs) ds h g

value_append : (x : ℕ) (cs ds : List ℕ) → value x (cs ++ ds) ≡ value (value x cs) ds
unfolding value
value_append x [] ds = refl
value_append x (c ∷ cs) ds = value_append (10 * x + (c - 48)) cs ds

shows_more : (x d : ℕ) (text : List ℕ) → d < 10 → Shows x text → Shows (10 * x + d) (text ++ ((48 + d) ∷ []))
unfolding all_digits value
shows_more x d text l s = record {
  is_one = number_append text ((48 + d) ∷ []) s.is_one (and_in (digit d l) refl);
  stands_for = value_append 0 text ((48 + d) ∷ []) ∙ omega (arith, s.stands_for);
}

-- ---- decimals

shows_decimal : (k x : ℕ) → x ≤ k → Shows x (decimal x)
shows_decimal zero x h = subst (Shows x) (sym (decimal_small x (omega arith))) (shows_digit x (omega arith))
shows_decimal (suc k) x h =
    let next : x / 10 ≤ k → Shows (x / 10) (decimal (x / 10)) = shows_decimal k (x / 10) in
    by_cases (dec_lt x 10)
    (λ l. subst (Shows x) (sym (decimal_small x l)) (shows_digit x l))
    (λ nl. (
    let whole : 10 * (x / 10) + x % 10 ≡ x = omega arith in
    let more = shows_more (x / 10) (x % 10) (decimal (x / 10)) (omega arith) (next (omega arith)) in
    subst (Shows x) (sym (decimal_large x (omega arith))) (subst (λ (y : ℕ). Shows y (decimal (x / 10) ++ ((48 + x % 10) ∷ []))) whole more)))

pub decimal_read : (limit x : ℕ) → x < limit → number_below limit (decimal x) ≡ x
unfolding number_below
decimal_read limit x l = let s = shows_decimal x x (omega arith) in rw (s.is_one, s.stands_for, lt-ltb x limit l) refl
