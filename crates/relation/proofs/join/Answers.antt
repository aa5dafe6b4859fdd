-- Each turn joins the row of one column, and after the last none is left. Assumes nothing.
use Rattle.std.proofs.Common.{ℕ, ◌∙◌, ap}
use Rattle.counting.specs.Sets.{◌∪◌}
use Rattle.columns.specs.Columns.{members}
use Rattle.columns.specs.ColumnSets.{whole}
use Rattle.columns.specs.Words.SetLaws.{nothing_in_none}
use Rattle.relation.proofs.TurnLaws.{joining_more, joining_done}
use Rattle.relation.proofs.join.Goals as goal

pub loop-x-preserved : goal.loop-x-preserved
loop-x-preserved c = let turn = c.in-Some.ensures.steps in
    rw (turn.others, c.put_row.ensures) (joining_more _ _ _ _ _ c.loop-x.invariant c.in-Some.x turn.there _
    (c.union.ensures ∙ ap (λ (w : ℕ). members w ∪ members (whole c.args.set)) c.row.ensures))

pub returns : goal.returns
returns c = joining_done _ _ _ _ _ c.loop-x.invariant (nothing_in_none _ c.in-None.ensures.steps.0)
