-- `fields::put_end` meets its contract. Assumes nothing.
use Rattle.std.proofs.Common.{rules}
use Rattle.writer.proofs.Putting.{put_field}
use Rattle.writer.proofs.fields.put_end.Goals as goal

pub returns : goal.returns
returns c = put_field c.new-pen.ensures c.head.ensures (search rules)
