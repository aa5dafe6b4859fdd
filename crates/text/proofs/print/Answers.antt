-- `text::print` meets its contract. Assumes nothing.
use Rattle.text.specs.PutLaws.{prints_whole, prints_nothing}
use Rattle.text.proofs.print.Goals as goal

pub returns-then-out-text : goal.returns-then-out-text
returns-then-out-text c = prints_nothing _ _ c.if-out-text.true

pub returns : goal.returns
returns c = prints_whole c.put_bytes.ensures c.if-out-text.false
