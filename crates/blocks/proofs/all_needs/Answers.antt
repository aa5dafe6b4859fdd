-- Each turn writes the row of one column, and after the last none is left. Assumes nothing.
use Rattle.std.proofs.Common.{ℕ, ◌∙◌, ap}
use Rattle.counting.specs.Sets.{◌∩◌, ∁, #}
use Rattle.columns.specs.Columns.{width, members}
use Rattle.columns.specs.ColumnSets.{whole}
use Rattle.columns.specs.Words.SetLaws.{nothing_in_none}
use Rattle.relation.specs.Relations.{row_of}
use Rattle.blocks.proofs.NeedLaws.{needing_start, needing_more, needing_done}
use Rattle.blocks.proofs.all_needs.Goals as goal

pub loop-x-init : goal.loop-x-init
loop-x-init c = rw c.into_iter-x-iterator.ensures.into_iter_gives (needing_start _ _)

pub loop-x-preserved : goal.loop-x-preserved
loop-x-preserved c =
    let turn = c.in-Some.ensures.steps in
    let row = row_of c.args.rows.now c.in-Some.x in
    rw (turn.others, c.put_row.ensures)
    (needing_more _ _ _ _ _ _ turn.there c.loop-x.invariant
    (c.difference.ensures ∙ ap (λ (w : ℕ). members w ∩ ∁ (members (whole c.row-block.result))) c.row-row.ensures
    ∙ ap (λ (w : ℕ). row ∩ ∁ (members w)) c.row-block.ensures
    ∙ ap (λ (k : ℕ). row ∩ ∁ (row_of c.by_size-sizes.result k)) (c.size.ensures ∙ ap (λ (w : ℕ). # width (members w)) c.row-row.ensures)))

pub returns : goal.returns
returns c = λ n E b t h. needing_done n E b t _ _ _ _ _ h c.by_size-sizes.ensures c.loop-x.invariant (nothing_in_none _ c.in-None.ensures.steps.0)
