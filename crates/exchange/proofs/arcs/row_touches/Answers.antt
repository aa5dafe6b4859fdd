-- `exchange::arcs::row_touches` meets its contract, by what its callees ensure. Assumes nothing.
use Rattle.std.proofs.Common.{ℕ, sym, ap, ◌∙◌}
use Rattle.counting.specs.Bools.{iff_eq}
use Rattle.columns.specs.Columns.{members}
use Rattle.columns.specs.ColumnSets.{row_numbers}
use Rattle.exchange.proofs.ScanningLaws.{touched_parameter, touched_nonzero, not_touched_zero}
use Rattle.exchange.proofs.arcs.row_touches.Goals as goal

pub returns-then-q-model : goal.returns-then-q-model
returns-then-q-model c =
    let a = c.args in
    let ws = row_numbers a.model.now.parameters.now in
    let l = c.if-q-model.true in
    λ x lx. iff_eq _ _
    (λ e. touched_nonzero a.model.now.a a.state.now.cells ws a.q x l ((c.support.ensures x).0 e).1)
    (λ e. (c.support.ensures x).1 (lx, λ z. not_touched_zero a.model.now.a a.state.now.cells ws a.q x l z e))

pub returns : goal.returns
returns c =
    let a = c.args in
    λ x lx. ap (λ (w : ℕ). members w x) c.row.ensures ∙ sym (touched_parameter a.model.now.a a.state.now.cells (row_numbers a.model.now.parameters.now) a.q x c.if-q-model.false)
