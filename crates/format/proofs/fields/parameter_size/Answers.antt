-- `fields::parameter_size` meets its contract. Assumes nothing.
use Rattle.std.proofs.Common.{arith, sym}
use Rattle.format.specs.File.RowSizes.{narrow_size, wide_size}
use Rattle.format.proofs.fields.parameter_size.Goals as goal

pub returns-then-n-gt-NARROW_COLUMNS : goal.returns-then-n-gt-NARROW_COLUMNS
returns-then-n-gt-NARROW_COLUMNS c = sym (wide_size c.args.n (omega (arith, c.if-n-gt-NARROW_COLUMNS.true)))

pub returns-else-n-gt-NARROW_COLUMNS : goal.returns-else-n-gt-NARROW_COLUMNS
returns-else-n-gt-NARROW_COLUMNS c = sym (narrow_size c.args.n (omega (arith, c.if-n-gt-NARROW_COLUMNS.false)))
