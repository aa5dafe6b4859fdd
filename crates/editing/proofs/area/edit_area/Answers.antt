-- `area::edit_area`: the area's file is judged, then the bytes of the edit, then the edit, and then it is made.
use Rattle.std.proofs.Common.{rules, arith, ◌≡◌, sym, refl, ◌∙◌}
use Rattle.std.proofs.lemmas.Result.{err_from_is_err_and}
use lib.Seq.{length-take-le}
use Rattle.columns.specs.Words.Bytes.{AreBytes}
use Rattle.format.specs.File.Unnumbered.{unnumbered_judge}
use Rattle.format.proofs.Refused.{refusal_some}
use Rattle.format.proofs.Unnumbered.{unnumbered_read_accepted, unnumbered_read_sizes, unnumbered_read_refused}
use Rattle.editing.specs.Areas.{area_file}
use Rattle.editing.proofs.AreaLaws.{area_long}
use Rattle.editing.proofs.EditAreaLaws.{refused_file, refused_bytes, refused_own, edit_room, edit_made}
use Rattle.editing.proofs.area.edit_area.Goals.{In_ok-header}
use Rattle.editing.proofs.area.edit_area.Goals as goal

pub returns-in_err-header : goal.returns-in_err-header
returns-in_err-header c =
    let p = err_from_is_err_and c.from_residual.result c.from_residual.ensures.1 in
    rw (p.1, p.2) (refused_file c.args.area.now c.args.bytes.now _ (unnumbered_read_refused _ (rw c.file_in.ensures at c.in_err-header.ensures)) (refusal_some _))

-- the file is accepted
accepted : (c : In_ok-header) → unnumbered_judge (area_file c.args.area.now) ≡ 0
accepted c = unnumbered_read_accepted _ (rw c.file_in.ensures at c.in_ok-header.ensures)

pub returns-in_err-made : goal.returns-in_err-made
returns-in_err-made c =
    let h = unnumbered_read_sizes _ (rw c.file_in.ensures at c.in_ok-header.ensures) in
    let p = err_from_is_err_and c.from_residual-in_err-made.result c.from_residual-in_err-made.ensures.1 in
    rw (p.1, p.2) (refused_bytes c.args.area.now c.args.bytes.now (accepted (goal.at.returns-in_err-made c).In_ok-header) h.n_is h.a_is h.b_is c.in_err-made.ensures (refusal_some _))

pub slice_bounds-of_bytes-end : goal.slice_bounds-of_bytes-end
slice_bounds-of_bytes-end c =
    let bytes : AreBytes c.args.area.now = λ i. search (rules, c.slice_known-1.given i) in
    omega (arith, area_long c.args.area.now bytes (accepted (goal.at.slice_bounds-of_bytes-end c).In_ok-header))

pub slice_bounds-of_bytes-end-2 : goal.slice_bounds-of_bytes-end-2
slice_bounds-of_bytes-end-2 c = sym (length-take-le _ c.args.area.now (slice_bounds-of_bytes-end c))

pub returns-in_err-judge_edit : goal.returns-in_err-judge_edit
returns-in_err-judge_edit c =
    let h = unnumbered_read_sizes _ (rw c.file_in.ensures at c.in_ok-header.ensures) in
    let p = err_from_is_err_and c.from_residual-in_err-judge_edit.result c.from_residual-in_err-judge_edit.ensures.1 in
    rw (p.1, p.2)
    (refused_own c.args.area.now c.args.bytes.now (accepted (goal.at.returns-in_err-judge_edit c).In_ok-header) (c.from-n.ensures ∙ h.n_is) h.a_is (c.from.ensures ∙ h.b_is)
    c.in_ok-made.ensures refl c.of_bytes-present.ensures.is_number c.in_err-judge_edit.ensures (refusal_some _))

pub change_bytes-requires : goal.change_bytes-requires
change_bytes-requires c =
    let h = unnumbered_read_sizes _ (rw c.file_in.ensures at c.in_ok-header.ensures) in
    let bytes : AreBytes c.args.area.now = λ i. search (rules, c.slice_known-1.given i) in
    edit_room c.args.area.now c.args.bytes.now (accepted (goal.at.change_bytes-requires c).In_ok-header) (c.from-n.ensures ∙ h.n_is) (c.from-2.ensures ∙ h.a_is) (c.from.ensures ∙ h.b_is)
    c.in_ok-made.ensures refl c.of_bytes-present.ensures.is_number c.in_ok-judge_edit.ensures bytes refl

pub returns : goal.returns
returns c =
    let h = unnumbered_read_sizes _ (rw c.file_in.ensures at c.in_ok-header.ensures) in
    let bytes : AreBytes c.args.area.now = λ i. search (rules, c.type_inv.area i) in
    edit_made c.args.area.now c.args.bytes.now (accepted (goal.at.returns c).In_ok-header) (c.from-n.ensures ∙ h.n_is) (c.from-2.ensures ∙ h.a_is) (c.from.ensures ∙ h.b_is)
    c.in_ok-made.ensures refl c.of_bytes-present.ensures.is_number c.in_ok-judge_edit.ensures bytes refl c.change_bytes.ensures
