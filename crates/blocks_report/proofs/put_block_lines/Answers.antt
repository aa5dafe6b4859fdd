-- `blocks_report::put_block_lines` meets its contract. Assumes nothing.
use native.Mathlib.Nat.{sub-zero}
use Rattle.text.specs.PutLaws.{putting_none, putting_next, putting_all}
use Rattle.blocks_report.specs.BlocksReport.{block_line}
use Rattle.blocks_report.proofs.Lines.{lines_next, lines_none}
use Rattle.blocks_report.proofs.put_block_lines.Goals as goal

pub loop-k-init : goal.loop-k-init
loop-k-init c = rw sub-zero (putting_none _ _ _)

pub loop-k-preserved : goal.loop-k-preserved
loop-k-preserved c =
    let l = c.loop-k in
    putting_next (block_line c.args.numbers.now l.k) _ l.invariant (lines_next _ _ _ c.loop-k-test.true) c.put_block_line-place.ensures

pub returns : goal.returns
returns c = putting_all c.loop-k.invariant (lines_none _ _ _ c.loop-k-test.false)
