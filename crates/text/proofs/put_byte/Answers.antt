-- `text::put_byte` meets its contract. Assumes nothing.
use Rattle.text.specs.PutLaws.{puts_room, puts_full}
use Rattle.text.proofs.put_byte.Goals as goal

pub returns-then-at-out : goal.returns-then-at-out
returns-then-at-out c = puts_room _ _ _ c.if-at-out.true

pub returns : goal.returns
returns c = puts_full _ _ _ c.if-at-out.false
