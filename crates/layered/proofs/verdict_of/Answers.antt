-- `layered::verdict_of`: each verdict is that of its case.
use Rattle.std.proofs.Common.{sym, arith}
use Rattle.rank.specs.VerdictLaws.{number_determined, number_surplus, number_open, number_above}
use Rattle.layered.proofs.verdict_of.Goals as goal

pub returns-then-rank-columns : goal.returns-then-rank-columns
returns-then-rank-columns c = let a = c.args in sym (number_open a.rank a.columns a.rows (λ e. omega (arith, c.if-rank-columns.true)))

pub returns-then-rank-rows : goal.returns-then-rank-rows
returns-then-rank-rows c = let a = c.args in sym (number_determined a.rank a.columns a.rows (omega arith) (omega arith))

pub returns-then-rank-rows-2 : goal.returns-then-rank-rows-2
returns-then-rank-rows-2 c = let a = c.args in sym (number_surplus a.rank a.columns a.rows (omega arith) (omega arith))

pub returns : goal.returns
returns c = let a = c.args in sym (number_above a.rank a.columns a.rows (omega arith))
