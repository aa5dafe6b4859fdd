-- What the search, layer by layer, says of the state that the code's arrays show. Definitions only.
use Rattle.std.specs.Prelude.{ℕ, ◌≤◌, ◌<◌, ◌≡◌, ◌↔◌, Bool, true}
use Rattle.counting.specs.Sets.{Set, ◌∈◌}
use Rattle.rank.specs.Graph.States.{State}
use Rattle.rank.specs.Graph.Closed.{Closed}
use Rattle.rank.specs.Graph.Layers.{layer}
use Rattle.rank.specs.Graph.Search.{Hit}
use Rattle.columns.specs.Columns.{members}
use Rattle.columns.specs.ColumnSets.{whole}
use Rattle.exchange.specs.declared.search.Found.{Found}
use Rattle.exchange.specs.declared.search.Found.TheVariants.{Free, Reached}

-- the arrays show s: they touch offered columns as s does, and have its owners, which are offered
pub record Shows {n N : ℕ} (E : Set) (s : State n N) (tch : ℕ → ℕ → Bool) (own : ℕ → ℕ) : Type 0 where
  pub touch : (q x : ℕ) → q < N → x < n → x ∈ E → tch q x ≡ s.touch q x
  pub owner : (q : ℕ) → q < N → own q ≡ s.owner q
  pub offered : (q : ℕ) → q < N → s.owner q < n → s.owner q ∈ E

module _ {n N : ℕ} (s : State n N) (S : Set) where
  -- the first layer with a terminal column has this one
  pub record Ended (column row depth : ℕ) : Type 0 where
    pub below : column < n
    pub is_row : row < N
    pub inside : column ∈ layer s S depth
    pub is_free : n ≤ s.owner row
    pub touches : s.touch row column ≡ true
    pub no_earlier : (k : ℕ) → k < depth → Hit s S k → ⊥

  -- reached is the last layer, which is closed
  pub record Final (reached : Set) : Type 0 where
    pub same : (x : ℕ) → (x ∈ reached) ↔ (x ∈ layer s S n)
    pub is_closed : Closed s (layer s S n)

  abbrev pub Searched : Found → Type 0
  Searched (Free column row depth) = Ended column row depth
  Searched (Reached reached) = Final (members (whole reached))
