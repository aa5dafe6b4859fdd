-- `area::answer_area`: the answer over the columns present, and what the solver is not asked is refused.
use Rattle.std.proofs.Common.{rules, arith, refl, sym}
use Rattle.std.proofs.lemmas.Result.{err_from_is_err_and}
use lib.Seq.{length-take-le}
use borrow.Author.Tests.{not-true, not-false}
use Rattle.columns.specs.Words.Bytes.{AreBytes}
use Rattle.format.proofs.Refused.{refusal_some}
use Rattle.format.proofs.Unnumbered.{unnumbered_read_accepted, unnumbered_read_refused}
use Rattle.editing.proofs.AreaLaws.{area_long}
use Rattle.editing.proofs.AnswerAreaLaws.{answer_refused, read_refused, numbered_refused, read_accepted, answer_given}
use Rattle.std.specs.Prelude.{◌≢◌}
use Rattle.format.specs.File.Unnumbered.{unnumbered_judge}
use Rattle.editing.specs.Areas.{area_file}
use Rattle.editing.proofs.area.answer_area.Goals.{After-read_unnumbered_header, in-Ok+else-not-sizes, in_default}
use Rattle.editing.proofs.area.answer_area.Goals as goal

pub slice_bounds-of_bytes-end : goal.slice_bounds-of_bytes-end
slice_bounds-of_bytes-end c =
    let bytes : AreBytes c.args.area.now = λ i. search (rules, c.type_inv.area i) in
    let rows = rw c.file_in-file.ensures at c.in-Ok.ensures in
    sym (length-take-le _ c.args.area.now (omega (arith, area_long c.args.area.now bytes (read_accepted c.args.area.now bytes rows refl (not-true _ c.if-not-sizes.true)))))

pub returns-then-not-sizes : goal.returns-then-not-sizes
returns-then-not-sizes c =
    let bytes : AreBytes c.args.area.now = λ i. search (rules, c.type_inv.area i) in
    let rows = rw c.file_in-file.ensures at c.in-Ok.ensures in
    answer_given c.args.area.now bytes rows refl (not-true _ c.if-not-sizes.true) c.of_bytes-present.ensures.is_number (rw c.model.ensures at c.offered_rank.ensures)

-- the area's file is refused as an unnumbered one
refused : (c : After-read_unnumbered_header) → unnumbered_judge (area_file c.args.area.now) ≢ 0
refused c =
    let bytes : AreBytes c.args.area.now = λ i. search (rules, c.type_inv.area i) in
    elim c.match-read_rows.branch [
      | in-Ok+else-not-sizes w ↦ numbered_refused c.args.area.now bytes (rw c.file_in-file.ensures at w.in-Ok.ensures) refl (not-false _ w.if-not-sizes.false)
      | in_default w ↦ read_refused c.args.area.now bytes (rw c.file_in-file.ensures at w.in_default.ensures) (refusal_some _)
    ]

pub returns-in_err-read_unnumbered_header : goal.returns-in_err-read_unnumbered_header
returns-in_err-read_unnumbered_header c =
    let p = err_from_is_err_and c.from_residual.result c.from_residual.ensures.1 in
    rw (p.1, p.2)
    (answer_refused c.args.area.now (unnumbered_read_refused _ (rw c.file_in-file.ensures at c.in_err-read_unnumbered_header.ensures)) (refused (goal.at.returns-in_err-read_unnumbered_header c).After-read_unnumbered_header)
    (refl, record { no_verdict = refl; no_rank = refl; none_placed = refl; none_on_the_side = refl; none_short = refl; no_columns = refl }))

pub unreachable-requires : goal.unreachable-requires
unreachable-requires c =
    refused (goal.at.unreachable-requires c).After-read_unnumbered_header (unnumbered_read_accepted _ (rw c.file_in-file.ensures at c.in_ok-read_unnumbered_header.ensures))
