-- `exchange::offering::constant_side` meets its contract. Assumes nothing.
use Rattle.std.proofs.Common.{◌≡◌, ◌∙◌, ap, arith}
use Rattle.std.proofs.lemmas.List.{get_or-take, length-take-le}
use Rattle.columns.specs.Columns.{members, inserted}
use Rattle.columns.specs.ColumnSets.{whole}
use Rattle.columns.specs.Words.Sets.{empty_none}
use Rattle.exchange.specs.Code.Scanning.{owner_at}
use Rattle.exchange.proofs.AnswerLaws.{side_none, side_more, side_skip}
use Rattle.exchange.proofs.offering.constant_side.Goals.{then-y-model, else-y-model}
use Rattle.exchange.proofs.offering.constant_side.Goals as goal

pub loop-y-init : goal.loop-y-init
loop-y-init c = rw (empty_none c.empty-side.ensures) (side_none _ c.args.state.now.owner)

pub loop-y-preserved : goal.loop-y-preserved
loop-y-preserved c =
    let l = c.loop-y in
    let a = c.args in
    let o = a.state.now.owner in
    let ey : c.from-y.result ≡ owner_at o l.y-index = c.from-y.ensures ∙ get_or-take a.model.now.a o l.y-index 0 (omega (arith, length-take-le a.model.now.a o (omega arith))) in
    elim c.if-y-model.branch [
      | then-y-model w ↦ rw (w.side-is, w.with-side.ensures ∙ ap (inserted (members (whole l.side))) ey) (side_more a.model.now.n l.y-index o (members (whole l.side)) l.invariant (omega arith) (rw ey at w.if-y-model.true))
      | else-y-model w ↦ rw w.side-is (side_skip a.model.now.n l.y-index o (members (whole l.side)) l.invariant (rw ey at w.if-y-model.false))
    ]
