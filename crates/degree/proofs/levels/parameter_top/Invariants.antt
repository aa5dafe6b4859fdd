-- The top of the columns that are not left. Assumes nothing.
use Rattle.std.proofs.Common.{◌+◌, ℕ, get_or}
use Rattle.columns.specs.Columns.{members}
use Rattle.columns.specs.ColumnSets.{whole}
use Rattle.columns.specs.Turns.{left}
use Rattle.degree.specs.Code.{ParameterRow}
use Rattle.degree.proofs.TopLaws.{Seeking}
use Rattle.degree.proofs.levels.parameter_top.Given as goal

abbrev pub invariant-loop-x : goal.invariant-loop-x
invariant-loop-x l = (n : ℕ) → ParameterRow n (whole l.fn.row) l.from l.powers l.heights
    → Seeking n (members (whole l.fn.row)) (left l.x-iterator) (λ x. get_or l.powers (l.from + x) 0 + get_or l.heights x 0) l.top
