-- The laws of the code's sets: their numbers, and that a set is known by its columns. Assumes nothing.
use Rattle.std.specs.Prelude.{ℕ, ◌^◌, ◌<◌, ◌≡◌, refl}
use Rattle.std.proofs.Common.{ap, ◌∙◌}
use Rattle.counting.specs.Sets.{◌∈◌}
use Rattle.columns.specs.Columns.{width, members, none}
use Rattle.columns.specs.ColumnSets.{whole, empty_set, Fits}
use Rattle.columns.specs.Words.Operations.{members_zero, members_below}
use Rattle.columns.specs.Words.Halves.{joined_below}
use Rattle.columns.specs.declared.ColumnSet.{ColumnSet}

pub whole_below : (s : ColumnSet) → Fits s → whole s < 2 ^ width
unfolding whole
whole_below s f = joined_below s.low s.high f.0 f.1

-- a set has no column that it has no room for
pub columns_below : (s : ColumnSet) (x : ℕ) → Fits s → x ∈ members (whole s) → x < width
columns_below s x f e = members_below (whole s) x (whole_below s f) e

-- ---- the empty set

pub empty_set_zero : whole empty_set ≡ 0
unfolding whole empty_set
empty_set_zero = refl

pub empty_zero : {s : ColumnSet} → s ≡ empty_set → whole s ≡ 0
empty_zero e = ap whole e ∙ empty_set_zero

pub empty_none : {s : ColumnSet} → s ≡ empty_set → members (whole s) ≡ none
empty_none e = ap members (empty_zero e) ∙ members_zero
