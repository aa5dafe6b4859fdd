-- Below 64 no column may be in the high word. Assumes nothing.
use Rattle.std.proofs.Common.{rules, ◌∙◌}
use Rattle.columns.specs.ColumnSets.{whole}
use Rattle.columns.specs.Words.Halves.{is_none, is_some, within_low, not_within, within_high}
use Rattle.columns.proofs.ColumnSet.within.Goals as goal

pub returns-then-is_empty : goal.returns-then-is_empty
unfolding whole
returns-then-is_empty c = let s = c.args.self in
    c.within.ensures ∙ within_low s.low s.high c.args.n (search rules) c.if-n-lt-WIDTH.true (is_none _ _ c.is_empty.ensures c.if-is_empty.true)

pub returns-else-is_empty : goal.returns-else-is_empty
unfolding whole
returns-else-is_empty c = let s = c.args.self in
    c.if-is_empty.false ∙ not_within s.low s.high c.args.n (search rules) c.if-n-lt-WIDTH.true (is_some _ _ c.is_empty.ensures c.if-is_empty.false)

pub returns-else-n-lt-WIDTH : goal.returns-else-n-lt-WIDTH
unfolding whole
returns-else-n-lt-WIDTH c = let s = c.args.self in
    c.within-else-n-lt-WIDTH.ensures ∙ within_high s.low s.high c.args.n (search rules) c.if-n-lt-WIDTH.false
