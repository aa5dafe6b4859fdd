-- `mixed::fill_constants` meets its contract. Assumes nothing.
use Rattle.std.proofs.Common.{ℕ, ◌+◌, ◌*◌, ◌≤◌, arith}
use native.Mathlib.Nat.{mul-le-mul}
use Rattle.limits.specs.Limits.{most_columns, most_rows, most_constants}
use Rattle.mixed.proofs.fill_constants.Goals as goal

-- the form has room for all its entries
room : (m n : ℕ) → m ≤ most_rows → m + n ≤ most_columns → m * (m + n) ≤ most_constants
room m n l k = mul-le-mul {n₂ = most_rows} {m₂ = most_columns} l k

pub overflow_mul-all : goal.overflow_mul-all
overflow_mul-all c = omega (arith, room c.args.m c.args.n c.requires.2 c.requires.3)

pub bounds-form-k : goal.bounds-form-k
bounds-form-k c = omega (arith, c.loop-k-test.true, room c.args.m c.args.n c.requires.2 c.requires.3)
