-- `text::put_verdict_line` meets its contract. Assumes nothing.
use Rattle.std.proofs.Common.{sym}
use Rattle.text.specs.Text.{ascii}
use Rattle.text.specs.PutLaws.{puts_as}
use Rattle.text.specs.TextLaws.{verdict_determined, verdict_surplus, verdict_open}
use Rattle.text.proofs.put_verdict_line.Goals as goal

pub returns-then-verdict-eq1 : goal.returns-then-verdict-eq1
unfolding ascii
returns-then-verdict-eq1 c = puts_as (sym (verdict_determined _ c.if-verdict-eq1.true)) c.put_bytes.ensures

pub returns-then-verdict-eq2 : goal.returns-then-verdict-eq2
unfolding ascii
returns-then-verdict-eq2 c = puts_as (sym (verdict_surplus _ c.if-verdict-eq2.true)) c.put_bytes-then-verdict-eq2.ensures

pub returns : goal.returns
unfolding ascii
returns c = puts_as (sym (verdict_open _ c.if-verdict-eq1.false c.if-verdict-eq2.false)) c.put_bytes-2.ensures
