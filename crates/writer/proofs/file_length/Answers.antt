-- `file_length` meets its contract. Assumes nothing.
use Rattle.std.specs.Prelude.{◌≡◌, take}
use Rattle.std.proofs.Common.{arith, ap}
use Rattle.models.specs.Lent.{lent_numbers, constants_lent, rows_lent, numbers_lent}
use Rattle.format.specs.File.Format.{numbers_size, number_fields_size}
use Rattle.format.specs.File.RowSizes.{parameter_size_most}
use Rattle.writer.proofs.Rows.{constants_few, parameters_few, handed_over_length}
use Rattle.writer.proofs.file_length.Goals as goal

pub overflow_add-parameter : goal.overflow_add-parameter
overflow_add-parameter c = omega (arith, c.parameter_size-parameter.ensures, parameter_size_most c.args.model.now.n)

pub overflow_mul-plain-2 : goal.overflow_mul-plain-2
overflow_mul-plain-2 c = let m = c.args.model.now in omega (arith, parameters_few m.n m.b c.parameter_size-parameter.result c.requires.b_most c.parameter_size-parameter.ensures)

pub overflow_add-plain-3 : goal.overflow_add-plain-3
overflow_add-plain-3 c = let m = c.args.model.now in omega (arith, constants_few m.n m.a c.requires.n_most c.requires.a_most, parameters_few m.n m.b c.parameter_size-parameter.result c.requires.b_most c.parameter_size-parameter.ensures)

pub overflow_add-plain-4 : goal.overflow_add-plain-4
overflow_add-plain-4 c = let m = c.args.model.now in omega (arith, constants_few m.n m.a c.requires.n_most c.requires.a_most, parameters_few m.n m.b c.parameter_size-parameter.result c.requires.b_most c.parameter_size-parameter.ensures)

pub overflow_add-result : goal.overflow_add-result
overflow_add-result c =
    let m = c.args.model.now in
    omega (arith, constants_few m.n m.a c.requires.n_most c.requires.a_most, parameters_few m.n m.b c.parameter_size-parameter.result c.requires.b_most c.parameter_size-parameter.ensures, c.numbers_length.ensures.1, c.requires.b_most)

pub returns-in-None : goal.returns-in-None
unfolding numbers_size
returns-in-None c =
    let m = c.args.model.now in
    let h = c.requires in
    let size : numbers_size m.n (take m.b (rows_lent m)) (numbers_lent m) ≡ 0 = ap (λ ns. numbers_size m.n (take m.b (rows_lent m)) (lent_numbers ns)) c.in-None.is in
    rw c.parameter_size-parameter.ensures (omega (arith, size, handed_over_length m.p m.n m.a m.b (constants_lent m) (rows_lent m) (numbers_lent m) h.constants_lent h.parameters_lent h.numbers_lent))

pub returns-in-Some : goal.returns-in-Some
unfolding numbers_size
returns-in-Some c =
    let m = c.args.model.now in
    let h = c.requires in
    let size : numbers_size m.n (take m.b (rows_lent m)) (numbers_lent m) ≡ number_fields_size m.n (take m.b (rows_lent m)) = ap (λ ns. numbers_size m.n (take m.b (rows_lent m)) (lent_numbers ns)) c.in-Some.is in
    rw c.parameter_size-parameter.ensures (omega (arith, size, c.numbers_length.ensures.0, handed_over_length m.p m.n m.a m.b (constants_lent m) (rows_lent m) (numbers_lent m) h.constants_lent h.parameters_lent h.numbers_lent))
