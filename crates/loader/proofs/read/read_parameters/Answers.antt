-- `read::read_parameters` meets its contract. Assumes nothing.
use Rattle.std.specs.Prelude.{ℕ, List, ◌-◌, ◌≡◌, take}
use Rattle.std.proofs.Common.{arith, refl, sym, ap, ◌∙◌}
use Rattle.columns.specs.Bytes.{number}
use Rattle.columns.specs.ColumnSets.{whole, row_numbers}
use Rattle.columns.specs.Words.Rows.{rows_with_row}
use Rattle.columns.specs.Columns.{room_bytes}
use Rattle.format.specs.File.Piece.{said_body}
use Rattle.format.specs.OverLaws.{wrote_none, wrote_set, wrote_all}
use Rattle.loader.proofs.Reading.{parameters_next, parameters_done, parameters_length}
use Rattle.loader.proofs.read.read_parameters.Goals as goal

pub loop-r-init : goal.loop-r-init
loop-r-init c = let all : c.args.b - 0 ≡ c.args.b = omega arith in rw all (wrote_none _ _ (omega (arith, parameters_length c.args.step c.args.b c.args.file.now, c.requires)))

pub loop-r-preserved : goal.loop-r-preserved
loop-r-preserved c =
    let l = c.loop-r in
    let r = l.rest.now in
    let w = whole c.of_bytes.result in
    let is_row : number (take room_bytes (said_body r)) ≡ w = ap (λ (t : List ℕ). number (take room_bytes t)) (sym c.said_body.ensures.bytes_are) ∙ sym c.of_bytes.ensures.is_number in
    let written = ap row_numbers c.put_row.ensures ∙ rows_with_row l.out l.r w in
    rw written (wrote_set w _ l.invariant (parameters_next c.args.b l.r r c.args.step c.loop-r-test.true ∙ rw (is_row, ← c.after_fields-rest.ensures) refl))

pub returns : goal.returns
returns c = wrote_all c.loop-r.invariant (parameters_done c.args.b c.loop-r.r c.loop-r.rest.now c.args.step c.loop-r-test.false)
