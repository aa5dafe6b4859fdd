-- `blocks_report::put_answer` meets its contract: line after line. Assumes nothing.
use Rattle.text.specs.Text.{ascii}
use Rattle.text.specs.PutLaws.{puts_then}
use Rattle.blocks_report.specs.BlocksReport.{blocks_text}
use Rattle.blocks_report.proofs.put_answer.Goals as goal

pub returns : goal.returns
unfolding blocks_text ascii
returns c =
    let verdict = rw c.from.ensures at c.put_verdict_line-after_verdict.ensures in
    let rank = rw c.from-2.ensures at c.put_number_line.ensures in
    puts_then c.put_block_lines-after_blocks.ensures (puts_then verdict rank)
