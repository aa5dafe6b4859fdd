-- `degree::levels::raise_heights` meets its contract: each turn raises one height. Assumes nothing.
use Rattle.std.proofs.Common.{ℕ, arith, ◌+◌, ap, inr}
use Rattle.degree.proofs.LevelLaws.{visited_more}
use Rattle.degree.proofs.levels.raise_heights.Goals as goal

pub loop-x-preserved : goal.loop-x-preserved
loop-x-preserved c =
    let turn = c.in-Some.ensures.steps in
    let h = c.loop-x.invariant in
    let there = c.requires c.in-Some.x (h.inside _ turn.there) in
    rw turn.others (visited_more _ _ _ _ _ c.in-Some.x _ turn.there (omega (arith, there, h.same_length)) (ap (λ (z : ℕ). z + c.args.rise) (h.left c.in-Some.x (inr turn.there))) h)
