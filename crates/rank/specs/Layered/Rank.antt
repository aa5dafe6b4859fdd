-- Document 01, the answer to a layered model: rank, placed set, short set and verdict, over any field. Definitions only; assumes nothing.
use Rattle.std.specs.Prelude.{ℕ, zero, suc, ◌+◌, Bool, true, false, not, ◌&&◌, ◌||◌, cond}
use Rattle.std.proofs.Math.Bool.{decide, Bool-discrete}
use Rattle.std.proofs.Math.Decide.{ℕ_discrete}
use Rattle.counting.specs.Sets.{Set, ◌∩◌, ∁, #, all, set, touching}
use Rattle.counting.specs.Choices.{largest, some, largest_part, every_part}
use Rattle.rank.specs.Verdict.{verdict_number}
use Rattle.rank.specs.Layered.Model.{Model, Seat, out, constant, row, Assignment, placing, size, legal}

-- the seats by number: out, the constant side, row 0, row 1, ..
unfoldable pub seat : ℕ → Seat
seat zero = out
seat (suc zero) = constant
seat (suc (suc r)) = row r

-- column x is out, or it is outside J and on a row
unfoldable pub row_outside : Set → ℕ → Seat → Bool
row_outside J x out = true
row_outside J x constant = false
row_outside J x (row r) = not (J x)

module _ (M : Model) where
  open M use {a, b, n, T, E, indep}

  -- the rank of the constant columns in J: the size of the largest independent set within J
  unfoldable pub constant_rank : Set → ℕ
  constant_rank J = largest_part n J (λ S. cond (indep S) (# n S) 0)

  -- the sum of J: the rank of the constant columns in J, plus the number of parameter rows with a parameter somewhere in J, plus the number of
  -- columns outside J
  unfoldable pub sum : Set → ℕ
  sum J = constant_rank J + # b (touching n T J) + # n (∁ J ∩ E)

  -- all assignments: a column that is not offered is out, the others are out, on the constant side, or on a row below b
  unfoldable pub last_seat : ℕ → ℕ
  last_seat x = cond (E x) (suc b) 0

  -- the largest F A over all assignments A
  unfoldable pub largest_assignment : (Assignment → ℕ) → ℕ
  largest_assignment F = largest seat last_seat n F

  -- some assignment passes the test P
  unfoldable pub some_assignment : (Assignment → Bool) → Bool
  some_assignment P = some seat last_seat n P

  -- the largest matching of parameter rows and columns outside J
  unfoldable pub matching : Set → ℕ
  matching J = largest_assignment (λ A. cond (legal M A && all n (λ x. row_outside J x (A x))) (size M A) 0)

  -- the rank: the largest sum of a rank of the constants on some columns and a matching of parameter rows on the remaining ones; by
  -- `rank_is_the_largest_legal_size` (Theorems) it is the largest number of columns in an assignment that is `Legal`
  unfoldable pub rank : ℕ
  rank = largest_part n E (λ J. constant_rank J + matching J)

  -- S is exactly the set of columns that some legal assignment places
  unfoldable pub placeable : Set → Bool
  placeable S = some_assignment (λ A. legal M A && all n (λ x. decide (Bool-discrete (placing A x) (S x))))

  -- what is taken when the columns below j have been offered, from 0 upward: each is taken if all taken so far have a legal assignment with it
  unfoldable pub taken : ℕ → Set
  taken zero = λ x. false
  taken (suc j) = cond (placeable (set (taken j) j true)) (set (taken j) j true) (taken j)

  -- the placed set
  unfoldable pub placed : Set
  placed = taken n

  -- the short set: the columns that lie in every set whose sum is the rank; by `short_is_the_smallest` (Theorems)
  -- it is such a set itself, so the smallest
  unfoldable pub short : Set
  short x = every_part n E (λ J. not (decide (ℕ_discrete (sum J) rank)) || J x)

  -- the verdict: of the rank, the number of columns offered, and the number of rows
  unfoldable pub verdict : ℕ
  verdict = verdict_number rank (# n E) (a + b)
