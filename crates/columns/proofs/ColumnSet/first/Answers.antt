-- `columns::first` meets its contract. Assumes nothing.
use Prim.Native.Nat.{ℕ, ◌+◌}
use mathlib.Core.Path.{ap, ◌∙◌}
use borrow.Author.Rules.{rules}
use native.Mathlib.Omega.{arith}
use Rattle.columns.specs.Columns.{word_width, members}
use Rattle.columns.specs.Words.Operations.{least_le}
use Rattle.columns.specs.Words.Halves.{is_none, is_some, first_low, first_high}
use Rattle.columns.specs.ColumnSets.{whole}
use Rattle.columns.proofs.ColumnSet.first.Goals as goal

pub overflow_add-result : goal.overflow_add-result
overflow_add-result c = omega (arith, c.first.ensures, least_le word_width (members c.args.self.high))

pub returns-then-is_empty : goal.returns-then-is_empty
unfolding whole
returns-then-is_empty c = let s = c.args.self in
    let low = c.is_empty in
    ap (λ (m : ℕ). word_width + m) c.first.ensures ∙ first_high s.low s.high (search rules) (is_none _ low.result low.ensures c.if-is_empty.true)

pub returns-else-is_empty : goal.returns-else-is_empty
unfolding whole
returns-else-is_empty c = let s = c.args.self in
    let low = c.is_empty in
    c.first-else-is_empty.ensures ∙ first_low s.low s.high (search rules) (is_some _ low.result low.ensures c.if-is_empty.false)
