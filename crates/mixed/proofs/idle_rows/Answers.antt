-- `mixed::idle_rows`: a row that serves no original column joins the set.
use Rattle.std.proofs.Common.{arith, ◌≡◌}
use mathlib.Core.Bool.{false≢true}
use Rattle.columns.specs.Columns.{members}
use Rattle.columns.specs.ColumnSets.{whole}
use Rattle.columns.specs.Words.Sets.{empty_none}
use Rattle.mixed.proofs.IdleRows.{idle_more, idle_same}
use Rattle.mixed.proofs.idle_rows.Lts.{then-not-serves_original, else-not-serves_original}
use Rattle.mixed.proofs.idle_rows.Goals as goal

pub loop-i-init : goal.loop-i-init
loop-i-init c = rw (empty_none c.empty-idle.ensures) (λ j. ((λ e. absurd (false≢true e)), λ w. absurd (omega (arith, w.0))))

pub loop-i-preserved : goal.loop-i-preserved
loop-i-preserved c =
    let l = c.loop-i in
    let s = c.serves_original in
    elim c.if-not-serves_original.branch [
      | then-not-serves_original w ↦ rw (w.idle-is, w.with-idle.ensures) (idle_more _ _ l.i (members (whole l.idle)) (omega arith) (s.ensures.1 w.if-not-serves_original.true) l.invariant)
      | else-not-serves_original w ↦ rw w.idle-is (idle_same _ _ l.i (members (whole l.idle)) (s.ensures.0 w.if-not-serves_original.false) l.invariant)
    ]

pub returns : goal.returns
returns c =
    let done : c.loop-i.i ≡ c.args.m = omega arith in
    rw done at c.loop-i.invariant
