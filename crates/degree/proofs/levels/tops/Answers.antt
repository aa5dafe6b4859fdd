-- `degree::levels::tops` meets its contract: each turn writes the top of one row. Assumes nothing.
use Rattle.std.proofs.Common.{◌∙◌, arith}
use Rattle.std.proofs.Math.ListN.{length-set}
use Rattle.columns.specs.Columns.{members}
use Rattle.columns.specs.ColumnSets.{whole, row_numbers}
use Rattle.degree.specs.Code.{LineTop}
use Rattle.degree.proofs.TopLaws.{filled_more}
use Rattle.degree.proofs.levels.tops.Goals as goal

pub loop-q-preserved : goal.loop-q-preserved
loop-q-preserved c =
    let l = c.loop-q in
    let a = c.args in
    let m = a.model.now in
    record {
      same_length = length-set _ _ _ ∙ l.invariant.same_length;
      done = filled_more (LineTop m.n m.a a.constants.now (row_numbers m.parameters.now) m.powers.parameters.now (members (whole a.set)) a.weights.now a.heights.now) l.out l.q _
          (omega (arith, l.invariant.same_length, c.requires.lines)) l.invariant.done c.line_top.ensures;
    }
