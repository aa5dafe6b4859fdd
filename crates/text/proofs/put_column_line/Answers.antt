-- `text::put_column_line` meets its contract. Assumes nothing.
use Rattle.std.proofs.Common.{sym}
use Rattle.text.specs.PutLaws.{puts_as, puts_then}
use Rattle.text.specs.TextLaws.{line_is}
use Rattle.text.proofs.put_column_line.Goals as goal

pub returns : goal.returns
returns c = puts_as (sym (line_is _ _)) (puts_then c.put_bytes-after_word.ensures (puts_then c.put_columns-after_items.ensures c.put_byte.ensures))
