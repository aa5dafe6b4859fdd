-- The levels below q have been raised. Assumes nothing.
use Rattle.std.proofs.Common.{ℕ, ◌+◌, cond, get_or}
use Rattle.degree.specs.Code.{touches}
use Rattle.degree.proofs.LevelLaws.{Written}
use Rattle.degree.proofs.levels.raise_levels.Given as goal

-- the level of a row with this top, when it has been raised
abbrev pub raised : (top rise level : ℕ) → ℕ
raised top rise level = cond (touches level top) (level + rise) level

abbrev pub invariant-loop-q : goal.invariant-loop-q
invariant-loop-q l = Written l.q (λ i. raised (get_or l.tops i 0) l.rise (get_or l.fn.levels i 0)) l.fn.levels l.levels
