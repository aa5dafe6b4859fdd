-- Document 01, "Lists of steps", and demand 3 as one statement about a reported rank and a reported short set. Definitions only; assumes nothing.
use Rattle.std.specs.Prelude.{ℕ, ◌≤◌, ◌<◌, ◌≡◌, Bool, true, false, not, ◌&&◌, cond, List, [], ◌∷◌}
use Rattle.std.proofs.Math.Bool.{decide}
use Rattle.std.proofs.Math.Decide.{dec_lt}
use Rattle.counting.specs.Sets.{Set, ◌⊆◌, set}
use Rattle.counting.specs.Choices.{Part}
use Rattle.rank.specs.Layered.Model.{Model, Seat, out, constant, row, Assignment, placing, Legal, size, OneMoreThan}
use Rattle.rank.specs.Layered.Rank.{sum}

-- a step: place (column, seat), remove (column), move (column, seat)
pub data Step : Type 0 where
  place : ℕ → Seat → Step
  remove : ℕ → Step
  move : ℕ → Seat → Step

module _ (M : Model) where
  open M use {b, n, E}

  -- a step names the constant side, or a row below b
  unfoldable pub named : Seat → Bool
  named out = false
  named constant = true
  named (row r) = decide (dec_lt r b)

  -- the step is not refused: its column is below n, its row below b, the column to place is out, the column to remove or move is placed
  unfoldable pub accepted : Step → Assignment → Bool
  accepted (place x s) A = decide (dec_lt x n) && named s && not (placing A x)
  accepted (remove x) A = decide (dec_lt x n) && placing A x
  accepted (move x s) A = decide (dec_lt x n) && named s && placing A x

  -- what a step does that is not refused
  unfoldable pub done : Step → Assignment → Assignment
  done (place x s) A = set A x s
  done (remove x) A = set A x out
  done (move x s) A = set A x s

  -- the assignment after a step: a refused one changes nothing
  unfoldable pub after : Step → Assignment → Assignment
  after t A = cond (accepted t A) (done t A) A

  -- the assignment after a list of steps, each of which works on what the last one left
  unfoldable pub after_list : List Step → Assignment → Assignment
  after_list [] A = A
  after_list (t ∷ l) A = after_list l (after t A)

  -- the assignment after a list that starts at the empty assignment
  abbrev pub result : List Step → Assignment
  result l = after_list l (λ x. out)

  -- Demand 3, of the reported rank r and the reported short set J. Column sets are the sets of columns below n.
  pub record Demand3 (r : ℕ) (J : Set) : Type 0 where
    -- a legal assignment after a list of steps has at most r columns,
    pub at_most : (l : List Step) → Legal M (result l) → size M (result l) ≤ r
    -- and where it has fewer, a legal assignment places exactly the same columns and one more;
    pub one_more : (l : List Step) → Legal M (result l) → size M (result l) < r → OneMoreThan M (result l)
    -- the sum of every column set is at least r,
    pub sums : (K : Set) → Part n E K → r ≤ sum M K
    -- J is a column set, its sum is r,
    pub short_part : Part n E J
    pub short_sum : sum M J ≡ r
    -- and it lies in every column set whose sum is r
    pub short_least : (K : Set) → Part n E K → sum M K ≡ r → J ⊆ K
