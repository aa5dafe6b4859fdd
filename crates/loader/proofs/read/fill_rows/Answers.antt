-- `read::fill_rows` meets its contract. Assumes nothing.
use Rattle.std.specs.Prelude.{ℕ, List, ◌≤◌, length}
use Rattle.std.proofs.Common.{rules, sym, ap, ap₂, ◌∙◌, subst}
use Rattle.columns.specs.ColumnSets.{row_numbers}
use Rattle.format.specs.Lists.{over}
use Rattle.format.specs.File.Piece.{said_rests}
use Rattle.format.specs.File.Steps.{constants_said, parameters_said}
use Rattle.format.proofs.Walking.{rows_said}
use Rattle.loader.proofs.Reading.{constants_fit, constants_short, parameters_short, reading_done}
use Rattle.loader.proofs.read.fill_rows.Goals.{then-constants-sizes-via-then-constants-sizes, then-constants-sizes-via-else-constants-sizes+then-rows-sizes}
use Rattle.loader.proofs.read.fill_rows.Goals as goal

pub returns-then-constants-sizes : goal.returns-then-constants-sizes
returns-then-constants-sizes c =
    elim c.then-constants-sizes.branch [
      | then-constants-sizes-via-then-constants-sizes w ↦ constants_short _ _ _ c.requires w.if-constants-sizes.true
      | then-constants-sizes-via-else-constants-sizes+then-rows-sizes w ↦ parameters_short _ _ _ c.requires w.if-constants-sizes.false (rw w.rows.ensures at w.if-rows-sizes.true)
    ]

pub read_constants-requires : goal.read_constants-requires
read_constants-requires c =
    let t = c.after_fields-rows.ensures ∙ rows_said _ c.requires.is_accepted in
    subst (λ (u : List ℕ). length (constants_said c.args.sizes.a u) ≤ length c.args.constants.now) (sym t) (constants_fit (λ i. search (rules, c.type_inv.file i)) c.requires _ c.if-constants-sizes.false)

pub returns : goal.returns
returns c =
    let z = c.args.sizes in
    let t = c.after_fields-rows.ensures ∙ rows_said _ c.requires.is_accepted in
    let constants = c.read_constants.ensures ∙ ap (λ (u : List ℕ). over (constants_said z.a u) c.args.constants.now) t in
    let left = c.after_fields-rest.ensures ∙ ap (said_rests z.a) t in
    let parameters = c.read_parameters.ensures ∙ ap₂ (λ (k : ℕ) (u : List ℕ). over (parameters_said k z.b u) (row_numbers c.args.parameters.now)) c.fields_of_row.ensures left in
    reading_done _ _ _ c.requires c.if-constants-sizes.false (rw c.rows.ensures at c.if-rows-sizes.false) _ _ constants parameters
