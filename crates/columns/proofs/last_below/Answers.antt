-- A row that touches the set is the last, and another may be left out. Assumes nothing.
use Rattle.std.proofs.Common.{arith, sym, ◌∙◌}
use Rattle.columns.specs.Words.Rows.{row_touches}
use Rattle.columns.specs.Words.SetLaws.{last_found, last_passed, last_nowhere}
use Rattle.columns.proofs.last_below.Goals as goal

pub returns-then-touches : goal.returns-then-touches
returns-then-touches c =
    sym (c.loop-r.invariant ∙ last_found _ _ _ _ (omega arith) (row_touches _ _ _ _ _ c.row.ensures c.touches.ensures ∙ c.if-touches.true))

pub loop-r-preserved : goal.loop-r-preserved
loop-r-preserved c =
    c.loop-r.invariant ∙ last_passed _ _ _ _ (omega arith) (row_touches _ _ _ _ _ c.row.ensures c.touches.ensures ∙ c.if-touches.false)

pub returns : goal.returns
returns c = sym (c.loop-r.invariant ∙ last_nowhere _ _ _ (omega arith))
