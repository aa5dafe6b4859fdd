-- `text::put_pair_unless` meets its contract. Assumes nothing.
use Rattle.std.proofs.Common.{sym}
use Rattle.text.specs.PutLaws.{puts_none, puts_as}
use Rattle.text.specs.TextLaws.{pair_shown, pair_left_out}
use Rattle.text.proofs.put_pair_unless.Goals as goal

pub returns-then-second-nothing : goal.returns-then-second-nothing
returns-then-second-nothing c = puts_as (sym (pair_left_out _ _ _ c.if-second-nothing.true)) (puts_none _ _)

pub returns : goal.returns
returns c = puts_as (sym (pair_shown _ _ _ c.if-second-nothing.false)) c.put_pair.ensures
