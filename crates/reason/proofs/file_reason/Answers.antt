-- `reason::file_reason`: the file's own refusal comes before the question. Assumes nothing.
use Rattle.std.proofs.Common.{rules, refl, ◌∙◌}
use Rattle.std.proofs.lemmas.Result.{err_from_is_err_and}
use Rattle.columns.specs.Words.Bytes.{AreBytes}
use Rattle.format.specs.RefusalLaws.{then_refused, then_passed}
use Rattle.format.specs.TestLaws.{model_accepted}
use Rattle.format.specs.File.Piece.{closed}
use Rattle.format.specs.File.Format.{fields, judge}
use Rattle.format.proofs.Refused.{refusal_some}
use Rattle.layered.proofs.FileLaws.{own_refusal, own_accepted, judged, call_refused, call_as}
use Rattle.layered.specs.FileModel.{file_model}
use Rattle.reason.specs.Answers.{reason_question}
use Rattle.reason.proofs.FileLaws.{own_question, own_shown}
use Rattle.reason.proofs.file_reason.Goals as goal

pub returns-in_err-sizes : goal.returns-in_err-sizes
unfolding judge
returns-in_err-sizes c =
    let bytes : AreBytes c.args.file.now = λ i. search (rules, c.type_inv.file i) in
    let p = err_from_is_err_and c.from_residual.result c.from_residual.ensures.1 in
    rw (p.1, p.2) (call_refused (then_refused (closed fields c.args.file.now) _ _ (own_refusal bytes c.in_err-sizes.ensures) (refusal_some _)) (refusal_some _)
    (record { no_set = refl; not_given = refl; no_multipliers = refl }))

pub ask-requires : goal.ask-requires
ask-requires c =
    let bytes : AreBytes c.args.file.now = λ i. search (rules, c.type_inv.file i) in
    rw c.model.ensures (model_accepted _ _ _ _ _ _ _ (own_accepted bytes c.in_ok-sizes.ensures refl))

pub returns : goal.returns
unfolding judge
returns c =
    let a = c.args in
    let bytes : AreBytes a.file.now = λ i. search (rules, c.type_inv.file i) in
    let call = c.in_ok-sizes.ensures in
    call_as
    (own_question bytes call refl a.column ∙ then_passed (closed fields a.file.now) (reason_question (file_model a.file.now) a.column) _ (judged bytes call refl) refl)
    (own_shown bytes call refl a.column _) (rw c.model.ensures at c.ask.ensures)
