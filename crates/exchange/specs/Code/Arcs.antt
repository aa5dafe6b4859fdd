-- What reading the arcs puts into the rows of a relation. Definitions only.
use Rattle.std.specs.Prelude.{ℕ, ◌≤◌, ◌<◌, ◌≡◌, ◌↔◌, ◌⊎◌, Bool, true, List, length}
use Rattle.counting.specs.Sets.{Set, ◌∈◌, Some}
use Rattle.relation.specs.Relations.{row_of, HasRow}

-- the columns that touch a row whose owner is y have gone into the row of y, or, where the owner is no column, among the ends
pub record Noted (n y : ℕ) (touching : Set) (ws ws' : List ℕ) (ends ends' : Set) : Type 0 where
  pub same_length : length ws' ≡ length ws
  pub rows : (z x : ℕ) → HasRow ws z → (x ∈ row_of ws' z) ↔ ((x ∈ row_of ws z) ⊎ ((z ≡ y) × (y < n) × (x ∈ touching)))
  pub are_ends : (x : ℕ) → (x ∈ ends') ↔ ((x ∈ ends) ⊎ ((n ≤ y) × (x ∈ touching)))

module _ (n : ℕ) (tch : ℕ → ℕ → Bool) (own : ℕ → ℕ) (offered : Set) (m : ℕ) where
  -- column y owns one of the first m rows, and x touches it
  abbrev pub Touches : ℕ → ℕ → Type 0
  Touches y x = (x ∈ offered) × (y < n) × Some m (λ q. (tch q x ≡ true) × (own q ≡ y))

  -- one of the first m rows is free, and x touches it
  abbrev pub TouchesFree : ℕ → Type 0
  TouchesFree x = (x ∈ offered) × Some m (λ q. (n ≤ own q) × (tch q x ≡ true))

  -- the row of each column has the columns that touch its own row, besides what it had; and these are the columns that touch a free row
  pub record Linked (ws₀ ws : List ℕ) (ends : Set) : Type 0 where
    pub same_length : length ws ≡ length ws₀
    pub into : (y x : ℕ) → HasRow ws₀ y → (x ∈ row_of ws y) ↔ ((x ∈ row_of ws₀ y) ⊎ Touches y x)
    pub are_ends : (x : ℕ) → (x ∈ ends) ↔ TouchesFree x
