-- `columns::without` meets its contract. Assumes nothing.
use borrow.Author.Rules.{rules}
use Rattle.columns.specs.Words.Halves.{without_low, without_high}
use Rattle.columns.specs.ColumnSets.{whole}
use Rattle.columns.proofs.ColumnSet.without.Goals as goal

pub returns-then-x-lt-WIDTH : goal.returns-then-x-lt-WIDTH
unfolding whole
returns-then-x-lt-WIDTH c = let a = c.args in
    without_low a.self.low a.self.high c.without.result a.x (search rules) (search rules) c.if-x-lt-WIDTH.true c.without.ensures

pub returns-else-x-lt-WIDTH : goal.returns-else-x-lt-WIDTH
unfolding whole
returns-else-x-lt-WIDTH c = let a = c.args in
    without_high a.self.low a.self.high c.without-else-x-lt-WIDTH.result a.x (search rules) c.if-x-lt-WIDTH.false c.without-else-x-lt-WIDTH.ensures
