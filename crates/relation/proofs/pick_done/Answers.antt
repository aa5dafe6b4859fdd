-- `relation::pick_done` meets its contract: the least of a set that is not empty is in it. Assumes nothing.
use mathlib.Core.Path.{sym, ◌∙◌, ap}
use borrow.Author.Tests.{eqb-false}
use Rattle.counting.specs.Bools.{and_left}
use Rattle.counting.specs.Sets.{Set}
use Rattle.columns.specs.Columns.{width, members}
use Rattle.columns.specs.ColumnSets.{whole}
use Rattle.columns.specs.Words.SetLaws.{least_there}
use Rattle.relation.proofs.pick_done.Goals as goal

pub returns-then-is_empty : goal.returns-then-is_empty
returns-then-is_empty c =
    let t = least_there width _ c.requires in
    ((rw (sym c.first.ensures) at t).0, (rw (sym c.first.ensures) at t).1)

pub returns-else-is_empty : goal.returns-else-is_empty
returns-else-is_empty c =
    let e = c in
    let a = e.args in
    let t = least_there width _ (eqb-false _ 0 (sym e.is_empty.ensures ∙ c.if-is_empty.false)) in
    let k = ap (λ (S : Set). S c.first-else-is_empty.result) e.intersection-both.ensures in
    ((rw (sym c.first-else-is_empty.ensures) at t).0, and_left (members (whole a.set) c.first-else-is_empty.result) (members (whole a.done) c.first-else-is_empty.result) (sym k ∙ (rw (sym c.first-else-is_empty.ensures) at t).1))
