-- `report::put_row_line` meets its contract. Assumes nothing.
use Rattle.std.proofs.Common.{sym}
use Rattle.text.specs.Text.{ascii}
use Rattle.text.specs.PutLaws.{puts_as, puts_then}
use Rattle.text.specs.TextLaws.{line_is}
use Rattle.report.proofs.put_row_line.Goals as goal

pub returns : goal.returns
unfolding ascii
returns c = puts_as (sym (line_is _ _)) (puts_then c.put_bytes-after_word.ensures (puts_then c.put_rows-after_items.ensures c.put_byte.ensures))
