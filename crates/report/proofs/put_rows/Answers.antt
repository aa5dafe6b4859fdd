-- `report::put_rows` meets its contract. Assumes nothing.
use Rattle.limits.specs.Limits.{no_column}
use Rattle.text.specs.Text.{pair_unless}
use Rattle.text.specs.TextLaws.{pairs_next, pairs_none}
use Rattle.text.specs.PutLaws.{putting_none, putting_next, putting_all}
use Rattle.report.specs.Report.{row_items}
use Rattle.report.proofs.put_rows.Goals as goal

pub loop-r-init : goal.loop-r-init
unfolding row_items
loop-r-init c = putting_none _ _ _

pub loop-r-preserved : goal.loop-r-preserved
loop-r-preserved c =
    let l = c.loop-r in
    putting_next (pair_unless no_column l.r c.from.result) _ l.invariant (rw c.from.ensures (pairs_next no_column l.r c.args.rows.now c.loop-r-test.true)) c.put_pair_unless-place.ensures

pub returns : goal.returns
returns c = putting_all c.loop-r.invariant (pairs_none _ _ _ c.loop-r-test.false)
