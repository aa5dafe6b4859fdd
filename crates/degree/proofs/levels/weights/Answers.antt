-- `degree::levels::weights` meets its contract: each turn weighs one column, and after the last none is left. Assumes nothing.
use Rattle.std.proofs.Common.{ℕ, arith}
use Rattle.std.proofs.Math.ListN.{length-replicate}
use Rattle.limits.specs.Limits.{most_columns}
use Rattle.columns.specs.Words.SetLaws.{nothing_in_none}
use Rattle.degree.proofs.LevelLaws.{visited_more, visited_done, zeros}
use Rattle.degree.proofs.levels.weights.Goals as goal

pub loop-x-preserved : goal.loop-x-preserved
loop-x-preserved c =
    let turn = c.in-Some.ensures.steps in
    let h = c.loop-x.invariant in
    let there = c.requires c.in-Some.x (h.inside _ turn.there) in
    rw turn.others (visited_more _ _ _ _ _ c.in-Some.x _ turn.there (omega (arith, there, h.same_length, length-replicate {A = ℕ} most_columns 0)) (omega arith) h)

pub returns : goal.returns
returns c =
    λ n x l.
    let done = visited_done _ _ _ _ _ (nothing_in_none _ c.in-None.ensures.steps.0) c.loop-x.invariant x in
    rw zeros at done
