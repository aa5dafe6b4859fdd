-- `mixed::entry_of_form` meets its contract. Assumes nothing.
use Rattle.std.proofs.Common.{ℕ, ◌+◌, ◌*◌, ◌≤◌, sym, arith}
use native.Mathlib.Nat.{mul-le-mul}
use Rattle.limits.specs.Limits.{most_columns}
use Rattle.mixed.proofs.MixedEntries.{width_positive, entry_unit, entry_other, entry_constant, constant_inside}
use Rattle.mixed.proofs.entry_of_form.Goals as goal

small : (m n : ℕ) → m + n ≤ most_columns → m * n ≤ most_columns * most_columns
small m n h = mul-le-mul {n₂ = most_columns} {m₂ = most_columns} (omega arith) (omega arith)

pub nonzero_div-i : goal.nonzero_div-i
nonzero_div-i c = width_positive c.args.m c.args.n c.args.k c.requires.2

pub returns-then-i-j : goal.returns-then-i-j
returns-then-i-j c = let a = c.args in sym (entry_unit a.m a.n a.constants.now a.k c.if-j-m.true c.if-i-j.true)

pub returns-then-j-m : goal.returns-then-j-m
returns-then-j-m c = let a = c.args in sym (entry_other a.m a.n a.constants.now a.k c.if-j-m.true c.if-i-j.false)

pub overflow_mul-at : goal.overflow_mul-at
overflow_mul-at c = let a = c.args in omega (arith, small a.m a.n c.requires.1, constant_inside a.m a.n a.constants.now a.k c.requires.2 c.if-j-m.false)

pub overflow_add-at : goal.overflow_add-at
overflow_add-at c = let a = c.args in omega (arith, small a.m a.n c.requires.1, constant_inside a.m a.n a.constants.now a.k c.requires.2 c.if-j-m.false)

pub bounds-constants-at : goal.bounds-constants-at
bounds-constants-at c = let a = c.args in omega (arith, c.requires.0, constant_inside a.m a.n a.constants.now a.k c.requires.2 c.if-j-m.false)

pub returns : goal.returns
returns c = let a = c.args in sym (entry_constant a.m a.n a.constants.now a.k c.if-j-m.false)
