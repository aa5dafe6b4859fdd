-- `edit::judge_is`: it is so, or it is refused.
use Rattle.std.proofs.Common.{sym}
use Rattle.format.specs.RefusalLaws.{first_fails, zero_unless}
use Rattle.editing.proofs.edit.judge_is.Goals as goal

pub returns-then-so : goal.returns-then-so
returns-then-so c = sym (zero_unless _ _ c.if-so.true)

pub returns-else-so : goal.returns-else-so
returns-else-so c = first_fails _ _ _ c.if-so.false
