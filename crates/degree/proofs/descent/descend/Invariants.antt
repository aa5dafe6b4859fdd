-- The arrays hold a state of the descent. The measure is what the rounds may yet raise. Assumes nothing.
use Rattle.std.proofs.Common.{ℕ, ◌≡◌, ◌-◌}
use Rattle.rank.specs.Modulus.{field_of}
use Rattle.rank.specs.Layered.Rank.{rank}
use Rattle.degrees.specs.Dynamics.{layered}
use Rattle.degree.specs.Code.{ConstantsShown}
use Rattle.degree.specs.States.{dynamic_of, DescendingModel}
use Rattle.degree.proofs.descent.descend.Given as goal

abbrev pub invariant-loop-bounds : goal.invariant-loop-bounds
invariant-loop-bounds l =
    (Q : ℕ → ℕ → (field_of l.model.p).F) → ConstantsShown l.model.p l.model.n l.model.a Q l.fn.constants → rank (layered (dynamic_of l.model Q)) ≡ l.model.n → DescendingModel l.model Q l.constants l.bounds l.risen

abbrev pub decreases-loop-bounds : goal.decreases-loop-bounds
decreases-loop-bounds l = 3000 - l.risen
