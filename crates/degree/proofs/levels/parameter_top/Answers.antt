-- `degree::levels::parameter_top` meets its contract: each turn reads one column, and after the last none is left. Assumes nothing.
use Rattle.std.proofs.Common.{arith}
use Rattle.columns.specs.Words.SetLaws.{nothing_in_none}
use Rattle.degree.proofs.TopLaws.{RowColumn, row_column, seeking_next, seeking_done}
use Rattle.degree.proofs.levels.parameter_top.Goals.{In-Some}
use Rattle.degree.proofs.levels.parameter_top.Goals as goal

-- what the areas have of the turn's column
column : (c : In-Some) → RowColumn c.requires.0 c.args.from c.in-Some.x c.args.powers.now c.args.heights.now
column c =
    let turn = c.in-Some.ensures.steps in
    row_column _ c.requires.1 turn.below ((c.loop-x.invariant c.requires.0 c.requires.1).inside _ turn.there)

pub bounds-powers-from : goal.bounds-powers-from
bounds-powers-from c = (column (goal.at.bounds-powers-from c).In-Some).power_lent

pub bounds-heights-x : goal.bounds-heights-x
bounds-heights-x c = (column (goal.at.bounds-heights-x c).In-Some).height_lent

pub overflow_add-from-in-loop-x : goal.overflow_add-from-in-loop-x
overflow_add-from-in-loop-x c = omega (arith, (column (goal.at.overflow_add-from-in-loop-x c).In-Some).height_low)

pub loop-x-preserved : goal.loop-x-preserved
loop-x-preserved c =
    let turn = c.in-Some.ensures.steps in
    λ n r.
    let h = c.loop-x.invariant n r in
    let low = (row_column c.in-Some.x r turn.below (h.inside _ turn.there)).below in
    rw turn.others (seeking_next c.in-Some.x c.max-top.result low turn.there (omega arith) (omega arith) (λ g. omega arith) h)

pub returns : goal.returns
returns c = λ n r. seeking_done (nothing_in_none _ c.in-None.ensures.steps.0) (c.loop-x.invariant n r)
