-- `numbers_length` meets its contract. Assumes nothing.
use Rattle.std.specs.Prelude.{◌≡◌, get_or, take}
use Rattle.std.proofs.Common.{rules, arith, ap, drop_of_length-le}
use Rattle.std.proofs.Math.Seq.{length-take-le}
use Rattle.columns.specs.ColumnSets.{whole}
use Rattle.models.specs.Lent.{rows_lent}
use Rattle.format.specs.ListLaws.{first_left}
use Rattle.format.specs.Numbers.{parameter_count}
use Rattle.format.specs.File.Format.{number_fields_size}
use Rattle.writer.proofs.Rows.{size_few, size_is, row_within}
use Rattle.writer.proofs.numbers_length.Goals as goal

pub overflow_mul-length : goal.overflow_mul-length
overflow_mul-length c = omega (arith, size_few (whole c.row.result) c.size.result c.size.ensures)

pub overflow_add-length : goal.overflow_add-length
overflow_add-length c = omega (arith, size_few (whole c.row.result) c.size.result c.size.ensures)

pub overflow_add-length-in-loop-r : goal.overflow_add-length-in-loop-r
overflow_add-length-in-loop-r c = omega (arith, size_few (whole c.row.result) c.size.result c.size.ensures, c.loop-r.invariant.few, c.loop-r-test.true, c.requires.b_most)

pub loop-r-preserved : goal.loop-r-preserved
unfolding number_fields_size
loop-r-preserved c =
    let l = c.loop-r in
    let m = c.args.model.now in
    let ws = rows_lent m in
    let inside = row_within m.n m.b l.r ws c.loop-r-test.true c.requires.parameters_lent c.requires.parameters_within in
    let size : c.size.result ≡ parameter_count m.n (get_or ws l.r 0) =
    rw c.row.ensures at (size_is m.n c.size.result (search (rules, c.row.type_inv)) (rw c.row.ensures inside) c.size.ensures) in
    let next = ap (number_fields_size m.n) (first_left m.b l.r ws c.loop-r-test.true (omega (arith, c.loop-r-test.true, c.requires.parameters_lent))) in
    record {
      counted = omega (arith, size, next, l.invariant.counted);
      few = omega (arith, size_few (whole c.row.result) c.size.result c.size.ensures, l.invariant.few);
    }

pub returns : goal.returns
unfolding number_fields_size
returns c =
    let l = c.loop-r in
    let m = c.args.model.now in
    let none = ap (number_fields_size m.n) (drop_of_length-le (take m.b (rows_lent m)) {i = l.r} (omega (arith, length-take-le m.b (rows_lent m) c.requires.parameters_lent, c.loop-r-test.false))) in
    (omega (arith, l.invariant.counted, none), omega (arith, l.invariant.few, c.loop-r-test.false, l.auto.r-end))
