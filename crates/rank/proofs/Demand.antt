-- Demand 3 holds of the rank and the short set, over every list of steps. Assumes nothing.
use Rattle.std.specs.Prelude.{ℕ, ◌≡◌}
use Rattle.std.proofs.Math.Path.{fun_ext}
use Rattle.counting.specs.Sets.{Set}
use Rattle.rank.specs.Layered.Model.{Model}
use Rattle.rank.specs.Layered.Rank.{rank, short}
use Rattle.rank.proofs.Layered.Meaning.{short_iff}
use Rattle.rank.proofs.Layered.Duality.{size_le_rank}
use Rattle.rank.proofs.Layered.Minimax.{short_of_E, sum_short, rank_le_sum, extends}
use Rattle.rank.specs.Steps.{result, Demand3}

pub demand3 : (M : Model) → Demand3 M (rank M) (short M)
demand3 M = record {
  at_most = λ l h. size_le_rank M (result M l) h;
  one_more = λ l h. extends M (result M l) h;
  sums = λ K p. rank_le_sum M K;
  short_part = short_of_E M;
  short_sum = sum_short M;
  short_least = λ K p e x s. (short_iff M x).0 s K p e;
}

-- so it holds of every number and set that equal them
pub demand3_reported : (M : Model) (r : ℕ) (J : Set) → r ≡ rank M → ((x : ℕ) → J x ≡ short M x) → Demand3 M r J
demand3_reported M r J e f = rw (e, fun_ext f) (demand3 M)
