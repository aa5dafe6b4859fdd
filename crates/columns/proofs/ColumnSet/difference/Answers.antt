-- `columns::difference` meets its contract: word by word. Assumes nothing.
use mathlib.Core.Bool.{not, ◌&&◌}
use native.Mathlib.Nat.{lt_of_le_of_lt}
use lib.Bits.{and_le_l}
use borrow.Author.Rules.{rules}
use Rattle.columns.specs.Columns.{word_width}
use Rattle.columns.specs.ColumnSets.{whole}
use Rattle.columns.specs.Words.Operations.{members_less}
use Rattle.columns.specs.Words.Halves.{column_wise}
use Rattle.columns.proofs.ColumnSet.difference.Goals as goal

pub returns : goal.returns
unfolding whole
returns c =
    let a = c.args in
    column_wise (λ s o. s && not o) _ _ a.self.low a.self.high a.other.low a.other.high
    (search (rules, lt_of_le_of_lt, and_le_l)) (search rules) (search rules)
    (members_less word_width a.self.low a.other.low (search rules) (search rules))
    (members_less word_width a.self.high a.other.high (search rules) (search rules))
