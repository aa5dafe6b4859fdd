-- `relation::pick_spread` meets its contract: what it gives was looked up in the set, or is the least of it. Assumes nothing.
use mathlib.Core.Path.{sym, ◌∙◌}
use native.Mathlib.Omega.{arith}
use Rattle.counting.specs.Counts.{#-le}
use Rattle.columns.specs.Columns.{width, members}
use Rattle.columns.specs.ColumnSets.{whole}
use Rattle.columns.specs.Words.Sets.{columns_below}
use Rattle.columns.specs.Words.SetLaws.{least_there}
use borrow.Author.Rules.{rules}
use Rattle.relation.proofs.pick_spread.Goals as goal

pub overflow_mul-x : goal.overflow_mul-x
overflow_mul-x c = omega (arith, c.size.ensures, #-le width (members (whole c.args.set)))

pub returns-then-contains : goal.returns-then-contains
returns-then-contains c =
    let k = c in
    let a = k.args in
    let e = sym k.contains.ensures ∙ c.if-contains.true in
    (columns_below a.set _ (search rules) e, e)

pub returns-else-contains : goal.returns-else-contains
returns-else-contains c =
    let t = least_there width _ c.requires in
    ((rw (sym c.first.ensures) at t).0, (rw (sym c.first.ensures) at t).1)
