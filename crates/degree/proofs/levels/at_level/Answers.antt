-- `degree::levels::at_level` meets its contract: each turn tests one column, and after the last none is left. Assumes nothing.
use Rattle.std.proofs.Common.{arith}
use Rattle.degree.proofs.TopLaws.{RowColumn, row_column}
use Rattle.degree.proofs.LevelLaws.{keeping_stays, keeping_goes}
use Rattle.degree.proofs.levels.at_level.Goals.{In-Some}
use Rattle.degree.proofs.levels.at_level.Goals as goal

-- what the areas have of the turn's column
column : (c : In-Some) → RowColumn c.requires.0 c.args.from c.in-Some.x c.args.powers.now c.args.heights.now
column c = let turn = c.in-Some.ensures.steps in row_column _ c.requires.1 turn.below (c.loop-x.invariant.inside _ turn.there)

pub bounds-powers-from : goal.bounds-powers-from
bounds-powers-from c = (column (goal.at.bounds-powers-from c).In-Some).power_lent

pub bounds-heights-x : goal.bounds-heights-x
bounds-heights-x c = (column (goal.at.bounds-heights-x c).In-Some).height_lent

pub overflow_add-from-in-loop-x : goal.overflow_add-from-in-loop-x
overflow_add-from-in-loop-x c = omega (arith, (column (goal.at.overflow_add-from-in-loop-x c).In-Some).height_low)

pub loop-x-preserved-then-from-heights : goal.loop-x-preserved-then-from-heights
loop-x-preserved-then-from-heights c =
    let turn = c.in-Some.ensures.steps in
    rw (turn.others, c.without-kept.ensures) (keeping_goes _ _ _ _ _ _ _ c.in-Some.x (λ e. c.if-from-heights.true (omega (arith, e))) c.loop-x.invariant)

pub loop-x-preserved : goal.loop-x-preserved
loop-x-preserved c =
    let turn = c.in-Some.ensures.steps in
    rw turn.others (keeping_stays _ _ _ _ _ _ _ c.in-Some.x turn.there (omega arith) c.loop-x.invariant)
