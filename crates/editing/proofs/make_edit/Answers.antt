-- `editing::make_edit`: the model is judged, then the edit, and then it is made.
use Rattle.std.proofs.Common.{rules, sym}
use Rattle.std.proofs.lemmas.Result.{err_from_is_err_and}
use Rattle.columns.specs.ColumnSets.{Fits}
use Rattle.format.proofs.Refused.{refusal_some}
use Rattle.editing.proofs.EditLaws.{model_refused, own_refused, edit_refused, edit_made}
use Rattle.editing.proofs.make_edit.Goals as goal

pub returns-in_err-judge_model : goal.returns-in_err-judge_model
returns-in_err-judge_model c =
    let a = c.args in
    let fits : Fits a.present = search (rules, c.well_formed) in
    let p = err_from_is_err_and c.from_residual.result c.from_residual.ensures.1 in
    rw (p.1, p.2)
    (edit_refused a.p a.n a.a a.b _ _ _ fits a.edit _ (model_refused a.p a.n a.a a.b _ _ _ fits a.edit _ (rw c.unnumbered.ensures at c.in_err-judge_model.ensures) (refusal_some _)) (refusal_some _))

pub returns-in_err-judge_edit : goal.returns-in_err-judge_edit
returns-in_err-judge_edit c =
    let a = c.args in
    let fits : Fits a.present = search (rules, c.well_formed) in
    let p = err_from_is_err_and c.from_residual-in_err-judge_edit.result c.from_residual-in_err-judge_edit.ensures.1 in
    rw (p.1, p.2)
    (edit_refused a.p a.n a.a a.b _ _ _ fits a.edit _ (own_refused a.p a.n a.a a.b _ _ _ fits a.edit (sym (rw c.unnumbered.ensures at c.in_ok-judge_model.ensures)) _ c.in_err-judge_edit.ensures) (refusal_some _))

pub returns : goal.returns
returns c =
    let a = c.args in
    let fits : Fits a.present = search (rules, c.well_formed) in
    edit_made a.p a.n a.a a.b _ _ _ fits a.edit (sym (own_refused a.p a.n a.a a.b _ _ _ fits a.edit (sym (rw c.unnumbered.ensures at c.in_ok-judge_model.ensures)) _ c.in_ok-judge_edit.ensures)) _
    (search (rules, c.changed_columns.type_inv)) c.changed_columns.ensures _ c.change_rows.ensures
