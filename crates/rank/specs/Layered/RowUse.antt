-- What an assignment does with the equations of a layered model: whether it places all columns, and whether it leaves an equation over. Definitions only.
use Rattle.std.specs.Prelude.{ℕ, ◌<◌, ◌≡◌, ◌≢◌, ◌⊎◌}
use Rattle.counting.specs.Sets.{◌∈◌, #, Some}
use Rattle.rank.specs.Layered.Model.{Model, row, Assignment, placing, constants}

module _ (M : Model) where
  open M use {a, b, n, E}

  -- A places all columns, that is, all that are offered
  abbrev pub PlacesAll : Assignment → Type 0
  PlacesAll A = (x : ℕ) → x < n → x ∈ E → x ∈ placing A

  -- A leaves no equation over: it has as many columns on the constant side as there are constant rows, and uses every parameter row
  pub record UsesAll (A : Assignment) : Type 0 where
    pub constant_rows : # n (constants A) ≡ a
    pub parameter_rows : (r : ℕ) → r < b → Some n (λ x. A x ≡ row r)

  -- A leaves an equation over: it has fewer columns on the constant side than there are constant rows, or leaves a parameter row unused
  abbrev pub LeavesOver : Assignment → Type 0
  LeavesOver A = (# n (constants A) < a) ⊎ Some b (λ r. (x : ℕ) → A x ≢ row r)
