-- `columns::put_row` meets its contract: the row's two words stand one behind the other. Assumes nothing.
use Prim.Native.Nat.{◌+◌, ◌*◌}
use mathlib.Core.Path.{sym, ap₂, ◌∙◌}
use native.Mathlib.Omega.{arith}
use lib.ListN.{set}
use borrow.Author.Rules.{rules}
use Rattle.columns.specs.ColumnSets.{row_words, whole}
use Rattle.columns.specs.Words.Halves.{joined_low, joined_high}
use Rattle.columns.specs.Words.Rows.{row_there, with_row_there, with_row_past}
use Rattle.columns.proofs.put_row.Goals as goal

pub bounds-words-at-then-r-rows : goal.bounds-words-at-then-r-rows
bounds-words-at-then-r-rows c = search (rules, row_there c.args.words.now c.args.r (omega (arith, c.if-r-rows.true, c.rows.ensures)))

pub returns-then-r-rows : goal.returns-then-r-rows
unfolding whole
returns-then-r-rows c =
    let a = c.args in
    sym (with_row_there a.words.now a.r (whole a.set) (omega (arith, c.if-r-rows.true, c.rows.ensures))
    ∙ ap₂ (λ l h. set (set a.words.now (row_words * a.r) l) (row_words * a.r + 1) h) (joined_low a.set.low a.set.high (search rules)) (joined_high a.set.low a.set.high (search rules)))

pub returns-else-r-rows : goal.returns-else-r-rows
returns-else-r-rows c =
    let a = c.args in
    sym (with_row_past a.words.now a.r (whole a.set) (omega (arith, c.if-r-rows.false, c.rows.ensures)))
