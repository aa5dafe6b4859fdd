-- The offered columns of a model: those below n that are in E. Assumes nothing.
use Rattle.std.specs.Prelude.{ℕ, ◌<◌, ◌&&◌, ◌↔◌}
use Rattle.std.proofs.Math.Bool.{decide, decide_iff}
use Rattle.std.proofs.Math.Decide.{dec_lt}
use Rattle.counting.specs.Bools.{and_in, and_left, and_right}
use Rattle.counting.specs.Sets.{Set, ◌∈◌}

unfoldable pub offered : ℕ → Set → Set
offered n E x = decide (dec_lt x n) && E x

pub offered_iff : (n : ℕ) (E : Set) (x : ℕ) → (x ∈ offered n E) ↔ ((x < n) × (x ∈ E))
unfolding offered
offered_iff n E x = (
  λ e. ((decide_iff (dec_lt x n)).0 (and_left (decide (dec_lt x n)) (E x) e), and_right (decide (dec_lt x n)) (E x) e),
  λ w. and_in ((decide_iff (dec_lt x n)).1 w.0) w.1,
)
