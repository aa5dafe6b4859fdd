-- `exchange::arcs::support` meets its contract. Assumes nothing.
use Rattle.std.proofs.Common.{arith}
use Rattle.columns.specs.Columns.{members}
use Rattle.columns.specs.ColumnSets.{whole}
use Rattle.columns.specs.Words.Sets.{empty_none}
use Rattle.exchange.proofs.ArcLaws.{support_none, support_more, support_skip}
use Rattle.exchange.proofs.arcs.support.Goals.{then-t-q-ne0, else-t-q-ne0}
use Rattle.exchange.proofs.arcs.support.Goals as goal

pub loop-x-init : goal.loop-x-init
loop-x-init c = rw (empty_none c.empty-set.ensures) (support_none c.args.t.now c.args.q)

pub loop-x-preserved : goal.loop-x-preserved
loop-x-preserved c =
    let l = c.loop-x in
    let a = c.args in
    elim c.if-t-q-ne0.branch [
      | then-t-q-ne0 w ↦ rw (w.set-is, w.with-set.ensures) (support_more a.t.now a.q l.x (members (whole l.set)) l.invariant (omega arith) w.if-t-q-ne0.true)
      | else-t-q-ne0 w ↦ rw w.set-is (support_skip a.t.now a.q l.x (members (whole l.set)) l.invariant w.if-t-q-ne0.false)
    ]
