-- The high word is asked where the low word is empty. Assumes nothing.
use Rattle.std.proofs.Common.{rules, ◌∙◌}
use Rattle.columns.specs.ColumnSets.{whole}
use Rattle.columns.specs.Words.Halves.{is_none, is_some, empty_high, empty_low}
use Rattle.columns.proofs.ColumnSet.is_empty.Goals as goal

pub returns-then-is_empty : goal.returns-then-is_empty
unfolding whole
returns-then-is_empty c = let s = c.args.self in
    c.is_empty-then-is_empty.ensures ∙ empty_high s.low s.high (search rules) (is_none _ _ c.is_empty.ensures c.if-is_empty.true)

pub returns-else-is_empty : goal.returns-else-is_empty
unfolding whole
returns-else-is_empty c = let s = c.args.self in
    c.if-is_empty.false ∙ empty_low s.low s.high (search rules) (is_some _ _ c.is_empty.ensures c.if-is_empty.false)
