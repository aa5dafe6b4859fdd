-- `blocks_report::put_block_line` meets its contract. Assumes nothing.
use Rattle.std.proofs.Common.{sym}
use Rattle.text.specs.Text.{ascii}
use Rattle.text.specs.PutLaws.{puts_as, puts_then}
use Rattle.blocks_report.proofs.Lines.{block_line_is}
use Rattle.blocks_report.proofs.put_block_line.Goals as goal

pub returns : goal.returns
unfolding ascii
returns c =
    puts_as (sym (block_line_is _ _ _ c.columns_of_block-set.ensures))
    (puts_then c.put_bytes-after_word.ensures (puts_then (rw c.from.ensures at c.put_item-after_number.ensures) c.put_column_line.ensures))
