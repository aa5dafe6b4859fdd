-- `columns::contains` meets its contract. Assumes nothing.
use mathlib.Core.Path.{sym, ◌∙◌}
use native.Mathlib.Omega.{arith}
use Prim.Native.Nat.{◌-◌}
use borrow.Author.Rules.{rules}
use Rattle.columns.specs.Columns.{word_width}
use Rattle.columns.specs.Words.Halves.{members_low, at_high}
use Rattle.columns.specs.ColumnSets.{whole}
use Rattle.columns.proofs.ColumnSet.contains.Goals as goal

pub returns-then-x-lt-WIDTH : goal.returns-then-x-lt-WIDTH
unfolding whole
returns-then-x-lt-WIDTH c = let a = c.args in
    c.contains.ensures ∙ sym (members_low a.self.low a.self.high a.x (search rules) c.if-x-lt-WIDTH.true)

pub returns-else-x-lt-WIDTH : goal.returns-else-x-lt-WIDTH
unfolding whole
returns-else-x-lt-WIDTH c = let a = c.args in
    c.contains-else-x-lt-WIDTH.ensures ∙ at_high a.self.low a.self.high (a.x - word_width) a.x (search rules) (omega (arith, c.if-x-lt-WIDTH.false))
