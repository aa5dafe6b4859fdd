-- `text::put_item` meets its contract. Assumes nothing.
use Rattle.std.proofs.Common.{sym}
use Rattle.text.specs.PutLaws.{puts_as, puts_then}
use Rattle.text.specs.TextLaws.{item_is}
use Rattle.text.proofs.put_item.Goals as goal

pub returns : goal.returns
returns c = puts_as (sym (item_is _)) (puts_then c.put_byte-after_space.ensures c.put_decimal.ensures)
