-- `columns::low_touches` meets its contract: a set of one word has a column in common with a row where it has one with the row's low word. Assumes
-- nothing.
use Prim.Native.Nat.{ℕ, ◌+◌, ◌*◌}
use mathlib.Core.Path.{ap, ◌∙◌}
use lib.ListN.{get_or}
use borrow.Author.Rules.{rules}
use Rattle.counting.specs.Sets.{◌∩◌, any, touching}
use Rattle.columns.specs.Columns.{width, members}
use Rattle.columns.specs.ColumnSets.{row_words}
use Rattle.columns.specs.Words.Halves.{common_low}
use Rattle.columns.specs.Words.Rows.{row_words_joined}
use Rattle.columns.proofs.low_touches.Goals as goal

pub returns : goal.returns
unfolding touching
returns c =
    let a = c.args in
    let at = row_words * a.r in
    common_low (get_or a.words.now at 0) (get_or a.words.now (at + 1) 0) a.low (search (rules, c.type_inv.words at)) (search rules)
    ∙ ap (λ (w : ℕ). any width (members a.low ∩ members w)) (row_words_joined a.words.now a.r c.requires)
