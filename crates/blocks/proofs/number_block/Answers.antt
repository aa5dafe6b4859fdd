-- Each turn numbers one column, and after the last none is left. Assumes nothing.
use Rattle.std.proofs.Common.{arith}
use Rattle.columns.specs.Words.SetLaws.{nothing_in_none}
use Rattle.blocks.proofs.TurnLaws.{numbering_more, numbering_done}
use Rattle.blocks.proofs.number_block.Goals as goal

pub bounds-numbers-x : goal.bounds-numbers-x
bounds-numbers-x c =
    let met = c.loop-x.invariant in
    omega (arith, met.same_length, c.requires c.in-Some.x (met.inside c.in-Some.x c.in-Some.ensures.steps.there))

pub loop-x-preserved : goal.loop-x-preserved
loop-x-preserved c = let turn = c.in-Some.ensures.steps in rw turn.others (numbering_more _ _ _ _ _ _ turn.there c.loop-x.invariant)

pub returns : goal.returns
returns c = numbering_done _ _ _ _ _ c.loop-x.invariant (nothing_in_none _ c.in-None.ensures.steps.0)
