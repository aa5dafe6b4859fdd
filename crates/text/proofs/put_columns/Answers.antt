-- What is left is the item of the column that comes and those of the others; after the last none is left. Assumes nothing.
use Rattle.columns.specs.Columns.{width}
use Rattle.columns.specs.Turns.{left}
use Rattle.columns.specs.Words.SetLaws.{nothing_in}
use Rattle.text.specs.Text.{item}
use Rattle.text.specs.PutLaws.{putting_next, putting_all}
use Rattle.text.proofs.ColumnItems.{column_items_next, column_items_empty}
use Rattle.text.proofs.put_columns.Goals as goal

pub loop-x-preserved : goal.loop-x-preserved
loop-x-preserved c =
    let turn = c.in-Some.ensures.steps in
    let S = left c.loop-x.x-iterator in
    let next = column_items_next S (λ z. nothing_in width S z c.in-Some.x turn.below turn.there) in
    putting_next (item c.in-Some.x) _ c.loop-x.invariant (rw (turn.others, turn.first) next) c.put_item-place.ensures

pub returns : goal.returns
returns c = putting_all c.loop-x.invariant (column_items_empty _ c.in-None.ensures.steps.0)
