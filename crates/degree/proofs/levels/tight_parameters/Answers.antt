-- `degree::levels::tight_parameters` meets its contract: each turn writes one row. Assumes nothing.
use Rattle.std.proofs.Common.{◌≡◌, ◌*◌, length, rules, arith, ap, ◌∙◌}
use Rattle.limits.specs.Limits.{most_columns}
use Rattle.columns.specs.ColumnSets.{whole, row_numbers}
use Rattle.columns.specs.Words.Rows.{most_words_rows, with_row_length}
use Rattle.exchange.proofs.CellLaws.{row_within}
use Rattle.degree.specs.Code.{ParameterRow}
use Rattle.degree.proofs.LevelLaws.{tight_parameters_more}
use Rattle.degree.proofs.levels.tight_parameters.Goals.{After-row}
use Rattle.degree.proofs.levels.tight_parameters.Goals as goal

-- the turn's row
row_lent : (c : After-row) → let m = c.args.model.now in ParameterRow m.n (whole c.row.result) (c.loop-r.r * m.n) m.powers.parameters.now c.args.bounds.now.heights
row_lent c =
    let m = c.args.model.now in
    let s = c.requires in
    let r = c.loop-r.r in
    let many : length c.args.bounds.now.heights ≡ most_columns = search (rules, c.type_inv) in
    record {
      columns = s.0;
      row_within = rw c.row.ensures (s.3 r (omega arith));
      powers_lent = omega (arith, row_within r m.b m.n (omega arith), s.4);
      heights_lent = omega (arith, many, s.0);
      heights_low = s.5;
    }

pub at_level-row-requires : goal.at_level-row-requires
at_level-row-requires c = (c.args.model.now.n, row_lent (goal.at.at_level-row-requires c).After-row)

pub loop-r-preserved : goal.loop-r-preserved
loop-r-preserved c =
    let m = c.args.model.now in
    let l = c.loop-r in
    let row = c.at_level-row in
    let put = c.put_row.ensures in
    let tight = row.ensures m.n in
    record {
      same_length = ap length put ∙ with_row_length l.out l.r (whole row.result) ∙ l.invariant.same_length;
      done = rw put
          (tight_parameters_more m.n m.a l.r (row_numbers m.parameters.now) m.powers.parameters.now c.args.bounds.now.heights c.args.bounds.now.levels l.out
          (whole row.result) (omega (arith, most_words_rows l.out l.invariant.same_length, c.requires.1)) l.invariant.done (rw c.row.ensures at tight));
    }
