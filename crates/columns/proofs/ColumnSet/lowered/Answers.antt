-- `columns::lowered` meets its contract: what leaves the high word enters the low one. Assumes nothing.
use mathlib.Core.Path.{ap₂, ◌∙◌}
use lib.Bits.{or_lt}
use borrow.Author.Rules.{rules}
use Rattle.counting.specs.Sets.{Set, ◌∪◌}
use Rattle.columns.specs.Columns.{word_width}
use Rattle.columns.specs.ColumnSets.{whole}
use Rattle.columns.specs.Words.Operations.{members_or, members_zero}
use Rattle.columns.specs.Words.Halves.{lowered_low, lowered_high}
use Rattle.columns.proofs.ColumnSet.lowered.Goals as goal

pub returns-then-m-lt-WIDTH : goal.returns-then-m-lt-WIDTH
unfolding whole
returns-then-m-lt-WIDTH c =
    let a = c.args in
    let down = c.lowered in
    let up = c.raised in
    lowered_low a.self.low a.self.high _ c.lowered-then-m-lt-WIDTH.result a.m (search rules) (or_lt word_width down.result up.result (search rules) (search rules)) c.if-m-lt-WIDTH.true
    (members_or down.result up.result ∙ ap₂ (λ (S T : Set). S ∪ T) down.ensures up.ensures)
    c.lowered-then-m-lt-WIDTH.ensures

pub returns-else-m-lt-WIDTH : goal.returns-else-m-lt-WIDTH
unfolding whole
returns-else-m-lt-WIDTH c =
    let a = c.args in
    lowered_high a.self.low a.self.high c.lowered-else-m-lt-WIDTH.result 0 a.m (search rules) (search rules) (search rules) c.if-m-lt-WIDTH.false c.lowered-else-m-lt-WIDTH.ensures members_zero
