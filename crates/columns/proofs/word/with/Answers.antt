-- `word::with` meets its contract. Assumes nothing.
use Prim.Native.Nat.{ℕ}
use mathlib.Core.Path.{◌∙◌, ap}
use lib.Bits.{bit_or}
use Rattle.columns.specs.Columns.{word_width, members}
use Rattle.columns.specs.Words.Bits.{shl_one}
use Rattle.columns.specs.Words.Operations.{members_with, inserted_beyond}
use Rattle.columns.proofs.word.with.Goals as goal

pub returns-then-x-lt-WIDTH : goal.returns-then-x-lt-WIDTH
returns-then-x-lt-WIDTH c =
    let a = c.args in
    ap (λ (m : ℕ). members (bit_or a.word m)) (shl_one a.x c.if-x-lt-WIDTH.true) ∙ members_with word_width a.word a.x c.if-x-lt-WIDTH.true

pub returns-else-x-lt-WIDTH : goal.returns-else-x-lt-WIDTH
returns-else-x-lt-WIDTH c = inserted_beyond word_width (members c.args.word) c.args.x c.if-x-lt-WIDTH.false
