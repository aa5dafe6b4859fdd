-- `area::row_start` meets its contract: the most rows of both kinds have few bytes. Assumes nothing.
use Rattle.std.proofs.Common.{ℕ, ◌≡◌, ◌+◌, ◌*◌, ◌≤◌, ap, arith}
use native.Mathlib.Nat.{mul-le-mul}
use Rattle.limits.specs.Limits.{most_columns, most_rows, set_bytes}
use Rattle.format.specs.Refusals.{head_bytes}
use Rattle.format.specs.File.Format.{parameter_size}
use Rattle.format.specs.File.RowSizes.{parameter_size_most, parameter_rows_most}
use Rattle.editing.proofs.area.row_start.Goals as goal

constant_rows : (n a : ℕ) → n ≤ most_columns → a ≤ most_rows → a * (head_bytes + 2 * n) ≤ most_rows * (head_bytes + 2 * most_columns)
constant_rows n a l k = mul-le-mul k (let w : head_bytes + 2 * n ≤ head_bytes + 2 * most_columns = omega arith in w)

-- the rows before, by the size that the call gives
rows_before : (n r s : ℕ) → s ≡ parameter_size n → r * (head_bytes + s) ≡ r * (head_bytes + parameter_size n)
rows_before n r s e = ap (λ k. r * (head_bytes + k)) e

rows_few : (n r s : ℕ) → s ≡ parameter_size n → r ≤ most_rows → r * (head_bytes + s) ≤ most_rows * (head_bytes + set_bytes)
rows_few n r s e l = omega (arith, rows_before n r s e, parameter_rows_most r n l)

pub overflow_mul-result-2 : goal.overflow_mul-result-2
overflow_mul-result-2 c = omega (arith, constant_rows c.args.n c.args.a c.requires.0 c.requires.1)

pub overflow_add-result-2 : goal.overflow_add-result-2
overflow_add-result-2 c = omega (arith, constant_rows c.args.n c.args.a c.requires.0 c.requires.1)

pub overflow_add-result-3 : goal.overflow_add-result-3
overflow_add-result-3 c = omega (arith, c.parameter_size.ensures, parameter_size_most c.args.n)

pub overflow_mul-result-3 : goal.overflow_mul-result-3
overflow_mul-result-3 c = omega (arith, rows_few c.args.n c.args.r _ c.parameter_size.ensures c.requires.2)

pub overflow_add-result-4 : goal.overflow_add-result-4
overflow_add-result-4 c = omega (arith, constant_rows c.args.n c.args.a c.requires.0 c.requires.1, rows_few c.args.n c.args.r _ c.parameter_size.ensures c.requires.2)

pub overflow_add-result-5 : goal.overflow_add-result-5
overflow_add-result-5 c = omega (arith, constant_rows c.args.n c.args.a c.requires.0 c.requires.1, rows_few c.args.n c.args.r _ c.parameter_size.ensures c.requires.2)

pub returns : goal.returns
returns c = omega (arith, rows_before c.args.n c.args.r _ c.parameter_size.ensures)
