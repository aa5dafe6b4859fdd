-- `judge::judge_rows` meets its contract. Assumes nothing.
use Rattle.std.proofs.Common.{arith, sym}
use Rattle.format.proofs.Judging.{handed, gives, rows_all, rows_next, rows_refused, rows_done}
use Rattle.format.proofs.judge.judge_rows.Goals as goal

pub loop-init : goal.loop-init
loop-init g c = λ P j. rows_all

pub returns-in_err-rest : goal.returns-in_err-rest
returns-in_err-rest g c = λ P j. handed _ c.from_residual.ensures.1 (rows_refused (c.loop.invariant P j) _ (omega arith) (j _ _ c.in_err-rest.ensures).refusal_is)

pub loop-preserved : goal.loop-preserved
loop-preserved g c = λ P j. let q = j _ _ c.in_ok-rest.ensures in rows_next (c.loop.invariant P j) (omega arith) (sym q.refusal_is) q.given

pub returns : goal.returns
returns g c = λ P j. let d = rows_done (c.loop.invariant P j) (omega arith) in gives d.0 (sym d.1)
