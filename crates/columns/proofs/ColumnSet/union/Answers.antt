-- `columns::union` meets its contract: word by word. Assumes nothing.
use mathlib.Core.Bool.{◌||◌}
use lib.Bits.{or_lt}
use borrow.Author.Rules.{rules}
use Rattle.columns.specs.Columns.{word_width}
use Rattle.columns.specs.ColumnSets.{whole}
use Rattle.columns.specs.Words.Operations.{members_or}
use Rattle.columns.specs.Words.Halves.{column_wise}
use Rattle.columns.proofs.ColumnSet.union.Goals as goal

pub returns : goal.returns
unfolding whole
returns c =
    let a = c.args in
    column_wise ◌||◌ _ _ a.self.low a.self.high a.other.low a.other.high
    (or_lt word_width a.self.low a.other.low (search rules) (search rules)) (search rules) (search rules)
    (members_or a.self.low a.other.low)
    (members_or a.self.high a.other.high)
