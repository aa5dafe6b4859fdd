-- `format::handed_over::numbers_apart`: the numbers are judged where there are any.
use Rattle.std.proofs.Common.{refl}
use Rattle.format.specs.Refusals.{numbers_room, number_test}
use Rattle.format.specs.TestLaws.{area_reads}
use Rattle.format.proofs.handed_over.numbers_apart.Goals as goal

pub returns-in-None : goal.returns-in-None
unfolding number_test
returns-in-None c = rw c.in-None.is refl

pub numbers_once-requires : goal.numbers_once-requires
unfolding numbers_room
numbers_once-requires c = (c.requires.1, (area_reads _ _).0 (rw c.in-Some.is at c.requires.2), c.requires.0)

pub returns-in-Some : goal.returns-in-Some
unfolding number_test
returns-in-Some c = rw c.in-Some.is c.numbers_once.ensures
