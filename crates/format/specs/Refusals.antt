-- Who causes which number: the refusals of document 01 and of document 02, E1, E2, E4, E5 and E14, the test behind each, and the judgement of a model handed over.
-- A judgement is a list of tests in the order in which they are made; it gives the number of the first that fails, or 0.
-- Definitions only; RefusalLaws says how they read.
use Rattle.std.specs.Prelude.{ℕ, zero, suc, ◌+◌, ◌-◌, ◌*◌, ◌≡◌, Bool, true, false, ◌&&◌, length, get_or, take, leb, ltb, eqb}
use mathlib.Core.List.{List, [], ◌∷◌, ◌++◌, flatten}
use Rattle.std.proofs.Math.Option.{Option, none, some}
use Rattle.residue.specs.Arithmetic.{is_prime}
use Rattle.limits.specs.Limits.{most_columns, most_rows, largest_prime}
use Rattle.columns.specs.Columns.{within}
use Rattle.format.specs.Lists.{all_pass, over_room}
use Rattle.format.specs.Numbers.{once, numbers_in}

-- ---- causes and their numbers

pub data Cause : Type 0 where
  -- whoever wrote the file or filled the model
  truncated : Cause
  unexpected : Cause
  not_prime : Cause
  sizes_beyond : Cause
  constant_beyond : Cause
  parameter_beyond : Cause
  trailing : Cause
  -- the calling program
  area_short : Cause
  row_beyond : Cause
  -- the modeller with a mixed question
  not_mixed : Cause
  -- whoever names columns
  column_beyond : Cause
  column_placed : Cause
  -- whoever numbered the parameters
  number_twice : Cause
  -- whoever takes off a column that is out or puts back one that is in
  already_so : Cause
  -- whoever asks for a degree
  no_degree : Cause

abbrev pub number_of : Cause → ℕ
number_of truncated = 1
number_of unexpected = 2
number_of not_prime = 3
number_of sizes_beyond = 4
number_of constant_beyond = 5
number_of parameter_beyond = 6
number_of trailing = 7
number_of area_short = 8
number_of row_beyond = 9
number_of not_mixed = 10
number_of column_beyond = 11
number_of column_placed = 12
number_of number_twice = 13
number_of already_so = 14
number_of no_degree = 16

-- ---- tests in their order

-- tests, each with the cause where it fails
abbrev pub Tests : Type 0
Tests = List (Bool × Cause)

-- one test
abbrev pub unless : Bool → Cause → Tests
unless t c = (t, c) ∷ []

-- the first tests, and after them the others
infixr 4 ◌then◌
abbrev pub ◌then◌ : Tests → Tests → Tests
ts then us = ts ++ us

-- the number of the first test that fails, or 0
unfoldable pub first_refusal : Tests → ℕ
first_refusal [] = 0
first_refusal ((true, c) ∷ ts) = first_refusal ts
first_refusal ((false, c) ∷ ts) = number_of c

-- a result where nothing was refused, and what stands for it where something was
abbrev pub where_accepted : {A : Type 0} → ℕ → A → A → A
where_accepted zero x other = x
where_accepted (suc k) x other = other

-- ---- a field's head

-- how many bytes it has: a tag, and the length of the body in two
abbrev pub head_bytes : ℕ
head_bytes = 3

-- the length that the head says, low byte first
abbrev pub said_length : List ℕ → ℕ
said_length s = get_or s 1 0 + 256 * get_or s 2 0

-- ---- the test of each cause

-- 1: bytes remain for a field's head, and its length for its body
unfoldable pub head_test : List ℕ → Bool
head_test s = leb head_bytes (length s)

unfoldable pub body_test : ℕ → List ℕ → Bool
body_test size s = leb size (length s - head_bytes)

-- 2: the tag and the length are those that are due
unfoldable pub due_test : ℕ → ℕ → List ℕ → Bool
due_test tag size s = eqb (get_or s 0 0) tag && eqb (said_length s) size

-- 3: p is a prime up to the largest
unfoldable pub prime_test : ℕ → Bool
prime_test p = leb p largest_prime && is_prime p

-- 4: n, a and b are within their limits
unfoldable pub size_test : (n a b : ℕ) → Bool
size_test n a b = leb 1 n && leb n most_columns && leb a most_rows && leb b most_rows

-- 5: every constant is below p
unfoldable pub constant_test : ℕ → List ℕ → Bool
constant_test p cs = all_pass (λ c. ltb c p) cs

-- 6: no parameter row has a parameter at column n or later
unfoldable pub parameter_test : ℕ → List ℕ → Bool
parameter_test n ws = all_pass (within n) ws

-- 7: nothing follows
unfoldable pub end_test : List ℕ → Bool
end_test s = eqb (length s) 0

-- 8: an area of that length holds k elements
unfoldable pub area_test : ℕ → ℕ → Bool
area_test k len = leb k len

-- the same of an area of numbers, which an unnumbered model does not need
unfoldable pub numbers_room : ℕ → Option (List ℕ) → Bool
numbers_room k none = true
numbers_room k (some ks) = area_test k (length ks)

-- bytes put over the front of an area, where it holds them; else it is refused and unchanged
pub record PutRoom (bs before after : List ℕ) (refusal : ℕ) : Type 0 where
  pub refusal_is : refusal ≡ first_refusal (unless (area_test (length bs) (length before)) area_short)
  pub bytes_are : after ≡ over_room bs before

-- 9: row i is one of a rows
unfoldable pub row_test : ℕ → ℕ → Bool
row_test i a = ltb i a

-- 11: column x is one of n
unfoldable pub column_test : ℕ → ℕ → Bool
column_test x n = ltb x n

-- what is asked where column x of n is named, and where the columns of the set with this number are held
abbrev pub named_column : (n x : ℕ) → Tests
named_column n x = unless (column_test x n) column_beyond

abbrev pub held_columns : (n held : ℕ) → Tests
held_columns n held = unless (within n held) column_beyond

-- 13: no number is met a second time in the parameter rows of an area
unfoldable pub number_test : (n : ℕ) (ws : List ℕ) → Option (List ℕ) → Bool
number_test n ws none = true
number_test n ws (some ks) = once (flatten (numbers_in n ws ks))

-- ---- a model handed over without a file: p, n, a, b, and the areas that hold its constants, its parameter rows and, where it is numbered, their numbers

-- its numbers and its areas
abbrev pub area_tests : (p n a b : ℕ) (cs ws : List ℕ) → Option (List ℕ) → Tests
area_tests p n a b cs ws ns =
    unless (prime_test p) not_prime
    then unless (size_test n a b) sizes_beyond
    then unless (area_test (a * n) (length cs)) area_short
    then unless (area_test b (length ws)) area_short
    then unless (numbers_room (b * n) ns) area_short

-- what stands in the areas
abbrev pub content_tests : (p n a b : ℕ) (cs ws : List ℕ) → Option (List ℕ) → Tests
content_tests p n a b cs ws ns =
    unless (constant_test p (take (a * n) cs)) constant_beyond
    then unless (parameter_test n (take b ws)) parameter_beyond
    then unless (number_test n (take b ws) ns) number_twice

unfoldable pub model_tests : (p n a b : ℕ) (cs ws : List ℕ) → Option (List ℕ) → Tests
model_tests p n a b cs ws ns = area_tests p n a b cs ws ns then content_tests p n a b cs ws ns

unfoldable pub refusal : (p n a b : ℕ) (cs ws : List ℕ) → Option (List ℕ) → ℕ
unfolding model_tests
refusal p n a b cs ws ns = first_refusal (model_tests p n a b cs ws ns)

-- ---- the mixed question about it

-- 10: a equals b, and the layered form has no more columns than a model may
unfoldable pub mixed_test : (n a b : ℕ) → Bool
mixed_test n a b = eqb a b && leb (a + n) most_columns

unfoldable pub mixed_tests : (p n a b : ℕ) (cs ws : List ℕ) → Option (List ℕ) → Tests
unfolding model_tests
mixed_tests p n a b cs ws ns = model_tests p n a b cs ws ns then unless (mixed_test n a b) not_mixed

unfoldable pub mixed_refusal : (p n a b : ℕ) (cs ws : List ℕ) → Option (List ℕ) → ℕ
unfolding mixed_tests
mixed_refusal p n a b cs ws ns = first_refusal (mixed_tests p n a b cs ws ns)
