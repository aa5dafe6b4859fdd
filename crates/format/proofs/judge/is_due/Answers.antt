-- `judge::is_due` meets its contract. Assumes nothing.
use borrow.Author.Tests.{eq-eqb, ne_eqb}
use Rattle.format.specs.Refusals.{due_test}
use Rattle.format.proofs.judge.is_due.Goals as goal

pub returns-then-rest-tag : goal.returns-then-rest-tag
unfolding due_test
returns-then-rest-tag c = simp (eq-eqb _ _ c.if-rest-tag.true, c.said_length.ensures.0)

pub returns-else-rest-tag : goal.returns-else-rest-tag
unfolding due_test
returns-else-rest-tag c = simp (ne_eqb _ _ c.if-rest-tag.false)
