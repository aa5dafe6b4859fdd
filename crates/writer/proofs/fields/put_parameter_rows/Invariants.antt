use Rattle.std.proofs.Common.{◌*◌, take, drop}
use Rattle.columns.specs.ColumnSets.{row_numbers}
use Rattle.models.specs.Lent.{lent_numbers}
use Rattle.format.specs.File.Steps.{rows_bytes}
use Rattle.format.specs.OverLaws.{Wrote}
use Rattle.writer.proofs.Rows.{numbers_from}
use Rattle.writer.proofs.fields.put_parameter_rows.Given as goal

abbrev pub invariant-loop-r : goal.invariant-loop-r
invariant-loop-r l =
    Wrote (rows_bytes l.n (take l.b (row_numbers l.parameters)) (lent_numbers l.numbers)) (rows_bytes l.n (drop l.r (take l.b (row_numbers l.parameters))) (numbers_from (l.r * l.n) (lent_numbers l.numbers))) l.initial.out l.out l.at
