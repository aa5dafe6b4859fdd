use Rattle.std.proofs.Common.{◌-◌}
use Rattle.columns.specs.ColumnSets.{row_numbers}
use Rattle.format.specs.OverLaws.{Wrote}
use Rattle.format.specs.File.Steps.{parameters_said}
use Rattle.loader.proofs.read.read_parameters.Given as goal

abbrev pub invariant-loop-r : goal.invariant-loop-r
invariant-loop-r l = Wrote (parameters_said l.step l.b l.file) (parameters_said l.step (l.b - l.r) l.rest) (row_numbers l.initial.out) (row_numbers l.out) l.r
