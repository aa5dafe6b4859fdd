-- `reason_report::put_multipliers` meets its contract. Assumes nothing.
use Rattle.text.specs.Text.{pair_unless}
use Rattle.text.specs.TextLaws.{pairs_next, pairs_none}
use Rattle.text.specs.PutLaws.{putting_none, putting_next, putting_all}
use Rattle.reason_report.specs.ReasonReport.{multiplier_items}
use Rattle.reason_report.proofs.put_multipliers.Goals as goal

pub loop-x-init : goal.loop-x-init
unfolding multiplier_items
loop-x-init c = putting_none _ _ _

pub loop-x-preserved : goal.loop-x-preserved
loop-x-preserved c =
    let l = c.loop-x in
    putting_next (pair_unless 0 l.x c.from.result) _ l.invariant (rw c.from.ensures (pairs_next 0 l.x c.args.multipliers.now c.loop-x-test.true)) c.put_pair_unless-place.ensures

pub returns : goal.returns
returns c = putting_all c.loop-x.invariant (pairs_none _ _ _ c.loop-x-test.false)
