-- `columns::size` meets its contract. Assumes nothing.
use Prim.Native.Nat.{ℕ, ◌+◌}
use mathlib.Core.Path.{ap₂, ◌∙◌}
use borrow.Author.Rules.{rules}
use native.Mathlib.Omega.{arith}
use Rattle.columns.specs.Columns.{word_width, members}
use Rattle.counting.specs.Counts.{#-le}
use Rattle.columns.specs.Words.Halves.{size_halves}
use Rattle.columns.specs.ColumnSets.{whole}
use Rattle.columns.proofs.ColumnSet.size.Goals as goal

pub overflow_add-result : goal.overflow_add-result
overflow_add-result c = let s = c.args.self in
    omega (arith, c.size.ensures, c.size-2.ensures, #-le word_width (members s.low), #-le word_width (members s.high))

pub returns : goal.returns
unfolding whole
returns c = let s = c.args.self in
    ap₂ (λ (m n : ℕ). m + n) c.size.ensures c.size-2.ensures ∙ size_halves s.low s.high (search rules)
