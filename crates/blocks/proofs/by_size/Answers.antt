-- Each turn puts one column into the row of its size, and after the last none is left. Assumes nothing.
use Rattle.std.proofs.Common.{ℕ, ◌∙◌, ap}
use Rattle.counting.specs.Sets.{#}
use Rattle.columns.specs.Columns.{width, members, inserted}
use Rattle.columns.specs.Words.SetLaws.{nothing_in_none}
use Rattle.blocks.proofs.NeedLaws.{sizing_start, sizing_turn, sizing_done}
use Rattle.blocks.proofs.by_size.Goals as goal

pub loop-x-init : goal.loop-x-init
loop-x-init c = rw c.into_iter-x-iterator.ensures.into_iter_gives (sizing_start _ _)

pub loop-x-preserved : goal.loop-x-preserved
loop-x-preserved c =
    let turn = c.in-Some.ensures.steps in
    rw (turn.others, c.put_row.ensures)
    (sizing_turn _ _ _ _ _ _ _ turn.below turn.there c.loop-x.invariant
    (c.size-k.ensures ∙ ap (λ (w : ℕ). # width (members w)) c.row.ensures)
    (c.with-more.ensures ∙ ap (λ (w : ℕ). inserted (members w) c.in-Some.x) c.row-in-loop-x.ensures))

pub returns : goal.returns
returns c = sizing_done _ _ _ _ c.loop-x.invariant (nothing_in_none _ c.in-None.ensures.steps.0)
