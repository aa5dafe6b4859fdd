-- Each turn meets those that wait for one column, and after the last none is left. Assumes nothing.
use Rattle.std.proofs.Common.{ap}
use Rattle.counting.specs.Bools.{not_true}
use Rattle.columns.specs.Columns.{members}
use Rattle.columns.specs.Words.SetLaws.{nothing_in_none}
use Rattle.blocks.proofs.TurnLaws.{waking_more}
use Rattle.blocks.proofs.woken.Goals as goal

pub loop-y-preserved : goal.loop-y-preserved
loop-y-preserved c =
    let turn = c.in-Some.ensures.steps in
    rw (turn.others, c.union-all.ensures) (waking_more _ _ _ _ _ _ c.loop-y.invariant (ap members c.row.ensures))

pub returns : goal.returns
returns c = λ x y e. c.loop-y.invariant.1 x y e (not_true _ (nothing_in_none _ c.in-None.ensures.steps.0 y))
