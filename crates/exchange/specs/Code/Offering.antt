-- Offering the columns of a set: what the arrays hold before, and when all have been offered. Definitions only.
use Rattle.std.specs.Prelude.{ℕ, ◌<◌, ◌↔◌, List}
use Rattle.counting.specs.Sets.{Set, ◌∈◌}
use Rattle.rank.specs.Graph.States.{Placed}
use Rattle.rank.proofs.Layered.Offers.{Offered}
use Rattle.exchange.specs.Code.Held.{Given, model_of, Held}

-- the arrays hold a state in which nothing has been offered; the set has the offered columns
pub record Offers (p n a b : ℕ) (ws : List ℕ) (offered : Set) (t o : List ℕ) (G : Given p n b ws) : Type 0 where
  pub held : Held p n a b ws G t o
  pub none_yet : Offered (model_of p n a b ws G) held.s 0
  pub columns : (x : ℕ) → (x ∈ offered) ↔ ((x < n) × (x ∈ G.E))

-- all have been offered, and the set has those that are placed
pub record Offered-all (p n a b : ℕ) (ws : List ℕ) (G : Given p n b ws) (t o : List ℕ) (placed : Set) : Type 0 where
  pub held : Held p n a b ws G t o
  pub all_offered : Offered (model_of p n a b ws G) held.s n
  pub are_placed : (x : ℕ) → (x ∈ placed) ↔ ((x < n) × Placed held.s x)
