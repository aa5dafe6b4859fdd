-- `report::put_answer` meets its contract: line after line. Assumes nothing.
use Rattle.text.specs.Text.{ascii}
use Rattle.text.specs.PutLaws.{puts_then}
use Rattle.report.specs.Report.{answer_text}
use Rattle.report.proofs.put_answer.Goals as goal

pub returns : goal.returns
unfolding answer_text ascii
returns c =
    let verdict = rw c.from.ensures at c.put_verdict_line-after_verdict.ensures in
    let rank = rw c.from-2.ensures at c.put_number_line-after_rank.ensures in
    puts_then verdict (puts_then rank (puts_then c.put_column_line-after_constants.ensures (puts_then c.put_row_line-after_parameters.ensures c.put_column_line.ensures)))
