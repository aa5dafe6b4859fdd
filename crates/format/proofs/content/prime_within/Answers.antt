-- `content::prime_within` meets its contract. Assumes nothing.
use borrow.Author.Tests.{le-leb, lt-leb}
use Rattle.format.specs.Refusals.{prime_test}
use Rattle.format.proofs.content.prime_within.Goals as goal

pub returns-then-p-le-LARGEST_PRIME : goal.returns-then-p-le-LARGEST_PRIME
unfolding prime_test
returns-then-p-le-LARGEST_PRIME c = simp (le-leb _ _ c.if-p-le-LARGEST_PRIME.true, c.is_prime.ensures)

pub returns-else-p-le-LARGEST_PRIME : goal.returns-else-p-le-LARGEST_PRIME
unfolding prime_test
returns-else-p-le-LARGEST_PRIME c = simp (lt-leb _ _ c.if-p-le-LARGEST_PRIME.false)
