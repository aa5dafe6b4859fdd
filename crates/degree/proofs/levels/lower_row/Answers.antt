-- `degree::levels::lower_row` meets its contract: each turn lowers one height. Assumes nothing.
use Rattle.std.proofs.Common.{arith, ◌∙◌}
use Rattle.std.proofs.Math.ListN.{length-set}
use Rattle.limits.specs.Limits.{most_columns}
use Rattle.columns.specs.Turns.{left}
use Rattle.columns.specs.Words.SetLaws.{removed_old}
use Rattle.degree.proofs.LevelLaws.{low_more}
use Rattle.degree.proofs.levels.lower_row.Goals as goal

pub loop-x-preserved : goal.loop-x-preserved
loop-x-preserved c =
    let turn = c.in-Some.ensures.steps in
    let h = c.loop-x.invariant in
    let there = c.requires.1 c.in-Some.x (h.inside _ turn.there) in
    record {
      same_length = length-set _ _ _ ∙ h.same_length;
      inside = rw turn.others (λ y e. h.inside y (removed_old (left c.loop-x.x-iterator) _ y e));
      low = low_more most_columns c.in-Some.x c.lower.result c.loop-x.heights (omega (arith, there, h.same_length)) (omega arith) (omega arith) h.low;
    }
