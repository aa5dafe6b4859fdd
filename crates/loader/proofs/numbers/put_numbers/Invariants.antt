use Rattle.std.proofs.Common.{◌-◌, ◌*◌}
use Rattle.format.specs.OverLaws.{Wrote}
use Rattle.format.specs.File.Steps.{numbers_said}
use Rattle.loader.proofs.numbers.put_numbers.Given as goal

abbrev pub invariant-loop-r : goal.invariant-loop-r
invariant-loop-r l = Wrote (numbers_said l.sizes.n l.sizes.b l.initial.rest) (numbers_said l.sizes.n (l.sizes.b - l.r) l.rest) l.initial.out l.out (l.r * l.sizes.n)
