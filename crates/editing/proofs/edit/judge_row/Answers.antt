-- `edit::judge_row`: the row is one of b, or it is refused.
use Rattle.std.proofs.Common.{sym}
use borrow.Author.Tests.{lt-ltb, le-ltb}
use Rattle.format.specs.Refusals.{row_test}
use Rattle.format.specs.RefusalLaws.{first_fails, zero_unless}
use Rattle.editing.proofs.edit.judge_row.Goals as goal

pub returns-then-i-b : goal.returns-then-i-b
unfolding row_test
returns-then-i-b c = sym (zero_unless _ _ (lt-ltb _ _ c.if-i-b.true))

pub returns-else-i-b : goal.returns-else-i-b
unfolding row_test
returns-else-i-b c = first_fails _ _ _ (le-ltb _ _ c.if-i-b.false)
