-- Document 02, E12, "Answers from the partner's program": when a claim is accepted, that is a rank, an assignment and a column set that somebody sends.
-- Definitions only; assumes nothing.
use Rattle.std.specs.Prelude.{ℕ, ◌≡◌, ◌≢◌, ◌↔◌, List, get_or}
use Rattle.limits.specs.Limits.{no_column}
use Rattle.counting.specs.Sets.{Set, ◌∈◌}
use Rattle.counting.specs.Choices.{Part}
use Rattle.rank.specs.Layered.Model.{Model, constant, row, Assignment, Legal, size}
use Rattle.rank.specs.Layered.Rank.{sum}

-- a claim's row r names column x: it shows x, and x is not what a row shows that has no column
abbrev pub Names : (rows : List ℕ) (r x : ℕ) → Type 0
Names rows r x = (get_or rows r no_column ≡ x) × (x ≢ no_column)

-- A is the assignment that a claim shows: the columns of its side are on the constant side, and no others; the column that its row r names is on parameter
-- row r, and no other. A claim that names one column twice shows none.
pub record Shows (side : Set) (rows : List ℕ) (A : Assignment) : Type 0 where
  pub on_the_side : (x : ℕ) → (A x ≡ constant) ↔ (x ∈ side)
  pub on_rows : (x r : ℕ) → (A x ≡ row r) ↔ Names rows r x

module _ (M : Model) where
  open M use {n, E}

  -- the rank r, the assignment A and the column set J are accepted: A is legal, it has as many columns as r says, and J is a set of offered columns whose sum
  -- is r
  pub record Accepts (r : ℕ) (A : Assignment) (J : Set) : Type 0 where
    pub is_legal : Legal M A
    pub as_many : size M A ≡ r
    pub columns : Part n E J
    pub has_sum : sum M J ≡ r

  -- the claim of the rank r, the side, the rows and the column set J is accepted: it shows an assignment with which they are
  pub record AcceptsClaim (r : ℕ) (side : Set) (rows : List ℕ) (J : Set) : Type 0 where
    pub assignment : Assignment
    pub is_shown : Shows side rows assignment
    pub is_accepted : Accepts r assignment J
