use Rattle.std.proofs.Common.{◌-◌}
use Rattle.format.specs.OverLaws.{Wrote}
use Rattle.format.specs.File.Steps.{constants_said}
use Rattle.loader.proofs.read.read_constants.Given as goal

abbrev pub invariant-loop : goal.invariant-loop
invariant-loop l = Wrote (constants_said l.a l.file) (constants_said (l.a - l.counter) l.rest) l.initial.out l.out l.at
