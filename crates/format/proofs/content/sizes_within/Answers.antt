-- `content::sizes_within` meets its contract. Assumes nothing.
use Rattle.std.proofs.Common.{arith}
use Rattle.std.proofs.lemmas.Bool.Decides.{nat_tests}
use Rattle.format.specs.Refusals.{size_test}
use Rattle.format.proofs.content.sizes_within.Goals as goal

pub returns-then-a-le-MOST_ROWS : goal.returns-then-a-le-MOST_ROWS
unfolding size_test
returns-then-a-le-MOST_ROWS c = grind (arith, nat_tests)

pub returns-else-a-le-MOST_ROWS : goal.returns-else-a-le-MOST_ROWS
unfolding size_test
returns-else-a-le-MOST_ROWS c = let z = c.if-a-le-MOST_ROWS.either in grind (arith, nat_tests)
