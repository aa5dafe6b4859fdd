-- `columns::touches` meets its contract: the set of both is not empty where a column is in both. Assumes nothing.
use mathlib.Core.Path.{ap, ◌∙◌}
use mathlib.Core.Bool.{not}
use lib.Dec.{eqb}
use Rattle.counting.specs.Sets.{Set, ◌∩◌, #}
use Rattle.counting.specs.Counts.{size_any}
use Rattle.columns.specs.Columns.{width, members}
use Rattle.columns.specs.ColumnSets.{whole}
use Rattle.columns.proofs.ColumnSet.touches.Goals as goal

pub returns : goal.returns
returns c =
    let a = c.args in
    ap not (c.is_empty.ensures ∙ ap (λ (S : Set). eqb (# width S) 0) c.intersection.ensures)
    ∙ size_any width (members (whole a.set) ∩ members (whole a.self))
