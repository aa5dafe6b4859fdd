-- `word::below` meets its contract. Assumes nothing.
use Prim.Native.Nat.{ℕ, ◌-◌}
use mathlib.Core.Path.{◌∙◌, ap}
use native.Mathlib.Omega.{arith}
use lib.Pow.{pow_pos}
use Rattle.columns.specs.Columns.{word_width, members}
use Rattle.columns.specs.Words.Bits.{shl_one}
use Rattle.columns.specs.Words.Operations.{members_upto, upto_wide}
use Rattle.columns.proofs.word.below.Goals as goal

pub overflow_sub-result : goal.overflow_sub-result
overflow_sub-result c = rw (shl_one c.args.n c.if-n-lt-WIDTH.true) (pow_pos c.args.n)

pub returns-then-n-lt-WIDTH : goal.returns-then-n-lt-WIDTH
returns-then-n-lt-WIDTH c =
    let n = c.args.n in
    ap (λ (m : ℕ). members (m - 1)) (shl_one n c.if-n-lt-WIDTH.true) ∙ members_upto word_width n (omega (arith, c.if-n-lt-WIDTH.true))

pub returns-else-n-lt-WIDTH : goal.returns-else-n-lt-WIDTH
returns-else-n-lt-WIDTH c = members_upto word_width word_width (omega arith) ∙ upto_wide word_width c.args.n c.if-n-lt-WIDTH.false
