-- `area::changed` meets its contract, by what a column put in and one taken out ensure. Assumes nothing.
use Rattle.std.proofs.Common.{◌∙◌, sym, ap, rules}
use Rattle.columns.specs.ColumnSets.{whole, Fits}
use Rattle.columns.specs.Words.Sets.{whole_below}
use Rattle.editing.specs.Edits.{place_done}
use Rattle.editing.proofs.EditLaws.{with_column, without_column}
use Rattle.editing.proofs.area.changed.Goals as goal

pub returns-then-value : goal.returns-then-value
returns-then-value c =
    let a = c.args in
    let fits : Fits c.with.result = search (rules, c.with.type_inv) in
    with_column (whole a.set) (whole c.with.result) a.c (whole_below c.with.result fits) c.with.ensures ∙ ap (place_done (whole a.set) a.c) (sym c.if-value.true)

pub returns-else-value : goal.returns-else-value
returns-else-value c =
    let a = c.args in
    let fits : Fits c.without.result = search (rules, c.without.type_inv) in
    without_column (whole a.set) (whole c.without.result) a.c (whole_below c.without.result fits) c.without.ensures ∙ ap (place_done (whole a.set) a.c) (sym c.if-value.false)
