-- Document 02, E14: the powers of a layered model, the total of an assignment, and the degree. Definitions only; assumes nothing.
use Rattle.std.specs.Prelude.{ℕ, ◌+◌, ◌*◌, ◌<◌, ◌&&◌, cond, List, get_or}
use Rattle.counting.specs.Sets.{all, ◌∈◌}
use Rattle.rank.specs.Totals.{total}
use Rattle.rank.specs.Layered.Model.{Model, Seat, out, constant, row, Assignment, placing, legal}
use Rattle.rank.specs.Layered.Rank.{largest_assignment}

-- the powers of s: of constant row h, of column x, and of the parameter in row r at column x, which is not read where there is none
pub record Powers : Type 0 where
  pub row_power : ℕ → ℕ
  pub column_power : ℕ → ℕ
  pub power : ℕ → ℕ → ℕ

-- the powers in lists; those of parameters stand row by row, n in each
abbrev pub listed_powers : (n : ℕ) (row-powers column-powers powers : List ℕ) → Powers
listed_powers n row-powers column-powers powers = record {
  row_power = λ h. get_or row-powers h 0;
  column_power = λ x. get_or column-powers x 0;
  power = λ r x. get_or powers (r * n + x) 0;
}

-- what column x adds at its seat: its own power on the constant side, the parameter's on a row
unfoldable pub power_at : Powers → ℕ → Seat → ℕ
power_at W x out = 0
power_at W x constant = W.column_power x
power_at W x (row r) = W.power r x

module _ (M : Model) (W : Powers) where
  open M use {a, n}

  -- the total of an assignment: the constant rows' powers, the powers of columns on the constant side, and the used parameters' powers
  unfoldable pub weight : Assignment → ℕ
  weight A = total a W.row_power + total n (λ x. power_at W x (A x))

  -- the degree: the largest total over legal assignments that place all n columns
  unfoldable pub degree : ℕ
  degree = largest_assignment M (λ A. cond (legal M A && all n (placing A)) (weight A) 0)

-- all n columns are placed by A
abbrev pub AllPlaced : Model → Assignment → Type 0
AllPlaced M A = (x : ℕ) → x < M.n → x ∈ placing A
