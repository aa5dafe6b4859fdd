-- `columns::byte` meets its contract. Assumes nothing.
use mathlib.Core.Path.{◌∙◌}
use borrow.Author.Rules.{rules}
use Rattle.columns.specs.Words.Bytes.{byte_low, byte_high}
use Rattle.columns.specs.ColumnSets.{whole}
use Rattle.columns.proofs.ColumnSet.byte.Goals as goal

pub returns-then-k-lt-BYTES : goal.returns-then-k-lt-BYTES
unfolding whole
returns-then-k-lt-BYTES c = let a = c.args in
    c.byte.ensures ∙ byte_low a.self.low a.self.high a.k (search rules) c.if-k-lt-BYTES.true

pub returns-else-k-lt-BYTES : goal.returns-else-k-lt-BYTES
unfolding whole
returns-else-k-lt-BYTES c = let a = c.args in
    c.byte-else-k-lt-BYTES.ensures ∙ byte_high a.self.low a.self.high a.k (search rules) c.if-k-lt-BYTES.false
