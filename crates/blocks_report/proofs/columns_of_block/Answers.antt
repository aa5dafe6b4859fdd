-- `blocks_report::columns_of_block` meets its contract. Assumes nothing.
use Rattle.std.proofs.Common.{sym, ap, ◌∙◌, ◌≡◌, arith, length}
use Rattle.columns.specs.Words.Sets.{empty_none}
use Rattle.blocks_report.proofs.BlockColumns.{gathered, gathered_none, gathered_with, gathered_without, gathered_all}
use Rattle.blocks_report.proofs.columns_of_block.Goals.{then-number-k, else-number-k}
use Rattle.blocks_report.proofs.columns_of_block.Goals as goal

pub loop-x-init : goal.loop-x-init
loop-x-init c = empty_none c.empty-set.ensures ∙ sym (gathered_none _ _)

pub loop-x-preserved : goal.loop-x-preserved
loop-x-preserved c =
    let l = c.loop-x in
    let numbers = c.args.numbers.now in
    let k = c.args.k in
    elim c.if-number-k.branch [
      | then-number-k w ↦ rw (w.set-is, w.with-set.ensures, l.invariant) (gathered_with numbers k l.x (omega arith) w.if-number-k.true)
      | else-number-k w ↦ rw (w.set-is, l.invariant) (gathered_without numbers k l.x w.if-number-k.false)
    ]

pub returns : goal.returns
returns c =
    let l = c.loop-x in
    let numbers = c.args.numbers.now in
    let done : l.x ≡ length numbers = omega arith in
    l.invariant ∙ ap (gathered numbers c.args.k) done ∙ gathered_all numbers c.args.k
