-- `word::without` meets its contract. Assumes nothing.
use Prim.Native.Nat.{ℕ, ◌-◌, ◌^◌}
use mathlib.Core.Path.{◌∙◌, ap}
use lib.Bits.{bit_and}
use borrow.Author.Rules.{rules}
use Rattle.columns.specs.Columns.{word_width, members}
use Rattle.columns.specs.Words.Bits.{shl_one}
use Rattle.columns.specs.Words.Operations.{members_without, removed_beyond}
use Rattle.columns.proofs.word.without.Goals as goal

pub returns-then-x-lt-WIDTH : goal.returns-then-x-lt-WIDTH
returns-then-x-lt-WIDTH c =
    let a = c.args in
    ap (λ (m : ℕ). members (bit_and a.word (2 ^ word_width - 1 - m))) (shl_one a.x c.if-x-lt-WIDTH.true)
    ∙ members_without word_width a.word a.x (search rules) c.if-x-lt-WIDTH.true

pub returns-else-x-lt-WIDTH : goal.returns-else-x-lt-WIDTH
returns-else-x-lt-WIDTH c = removed_beyond word_width c.args.word c.args.x (search rules) c.if-x-lt-WIDTH.false
