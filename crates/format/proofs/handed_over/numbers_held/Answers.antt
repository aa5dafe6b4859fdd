-- `format::handed_over::numbers_held`: an area holds the numbers where it is long enough.
use Rattle.std.proofs.Common.{◌*◌, ◌≤◌, refl}
use native.Mathlib.Nat.{mul-le-mul}
use native.Mathlib.Omega.{arith}
use Rattle.limits.specs.Limits.{most_columns, most_rows}
use Rattle.format.specs.Refusals.{numbers_room, area_test}
use Rattle.format.proofs.handed_over.numbers_held.Goals as goal

pub returns-in-None : goal.returns-in-None
unfolding numbers_room
returns-in-None c = rw c.in-None.is refl

pub overflow_mul-result : goal.overflow_mul-result
overflow_mul-result c =
    let h : c.args.b * c.args.n ≤ most_rows * most_columns = mul-le-mul {n₂ = most_rows} {m₂ = most_columns} c.requires.1 c.requires.0 in
    omega arith

pub returns-in-Some : goal.returns-in-Some
unfolding numbers_room area_test
returns-in-Some c = rw c.in-Some.is refl
