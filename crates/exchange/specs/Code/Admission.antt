-- What the code works out of the constants before it tests them. Definitions only.
use Rattle.std.specs.Prelude.{ℕ, ◌≤◌, ◌<◌, ◌≡◌, ◌⊎◌, List, get_or}
use Rattle.counting.specs.Sets.{Some}

-- the largest of the first k constants, and 0 of none
pub record Largest (cs : List ℕ) (k top : ℕ) : Type 0 where
  pub most : (i : ℕ) → i < k → get_or cs i 0 ≤ top
  pub one : (top ≡ 0) ⊎ Some k (λ i. get_or cs i 0 ≡ top)
