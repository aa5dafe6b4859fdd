-- `columns::row` meets its contract: the row's two words stand one behind the other. Assumes nothing.
use mathlib.Core.Path.{◌∙◌, sym}
use native.Mathlib.Omega.{arith}
use lib.ListN.{get_or-eq_default}
use Rattle.columns.specs.ColumnSets.{whole, row_numbers}
use Rattle.columns.specs.Words.Sets.{empty_zero}
use Rattle.columns.specs.Words.Rows.{row_words_joined}
use Rattle.columns.proofs.row.Goals as goal

pub returns-then-r-rows : goal.returns-then-r-rows
unfolding whole
returns-then-r-rows c = row_words_joined c.args.words.now c.args.r (omega (arith, c.if-r-rows.true, c.rows.ensures))

pub returns-else-r-rows : goal.returns-else-r-rows
returns-else-r-rows c =
    let a = c.args in
    empty_zero c.empty.ensures ∙ sym (get_or-eq_default (row_numbers a.words.now) 0 (omega (arith, c.if-r-rows.false, c.rows.ensures)))
