-- `text::put_pair` meets its contract. Assumes nothing.
use Rattle.std.proofs.Common.{sym}
use Rattle.text.specs.PutLaws.{puts_as, puts_then}
use Rattle.text.specs.TextLaws.{pair_item_is}
use Rattle.text.proofs.put_pair.Goals as goal

pub returns : goal.returns
returns c = puts_as (sym (pair_item_is _ _)) (puts_then c.put_item-after_first.ensures (puts_then c.put_byte-after_colon.ensures c.put_decimal.ensures))
