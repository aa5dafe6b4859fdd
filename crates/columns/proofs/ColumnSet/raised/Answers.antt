-- `columns::raised` meets its contract: what leaves the low word enters the high one. Assumes nothing.
use mathlib.Core.Path.{ap₂, ◌∙◌}
use borrow.Author.Rules.{rules}
use Rattle.counting.specs.Sets.{Set, ◌∪◌}
use Rattle.columns.specs.ColumnSets.{whole}
use Rattle.columns.specs.Words.Operations.{members_or, members_zero}
use Rattle.columns.specs.Words.Halves.{raised_low, raised_high}
use Rattle.columns.proofs.ColumnSet.raised.Goals as goal

pub returns-then-m-lt-WIDTH : goal.returns-then-m-lt-WIDTH
unfolding whole
returns-then-m-lt-WIDTH c =
    let a = c.args in
    let low = c.raised in
    let up = c.raised-then-m-lt-WIDTH in
    raised_low a.self.low a.self.high low.result _ a.m (search rules) (search rules) c.if-m-lt-WIDTH.true low.ensures
    (members_or up.result c.lowered.result ∙ ap₂ (λ (S T : Set). S ∪ T) up.ensures c.lowered.ensures)

pub returns-else-m-lt-WIDTH : goal.returns-else-m-lt-WIDTH
unfolding whole
returns-else-m-lt-WIDTH c =
    let a = c.args in
    raised_high a.self.low a.self.high 0 c.raised-else-m-lt-WIDTH.result a.m (search rules) (search rules) c.if-m-lt-WIDTH.false members_zero c.raised-else-m-lt-WIDTH.ensures
