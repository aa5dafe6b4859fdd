-- `multipliers::file_multipliers`: the answer about what was read is the answer about the file.
use Rattle.std.proofs.Common.{rules, refl, ap, ◌∙◌, ℕ}
use Rattle.std.proofs.lemmas.Result.{err_from_is_err_and}
use Rattle.columns.specs.ColumnSets.{whole}
use Rattle.columns.specs.Words.Bytes.{AreBytes}
use Rattle.format.proofs.Refused.{refusal_some}
use Rattle.format.specs.Refusals.{first_refusal}
use Rattle.format.specs.RefusalLaws.{then_refused, then_passed}
use Rattle.format.specs.TestLaws.{model_accepted, constants_accepted}
use Rattle.format.specs.File.Piece.{closed}
use Rattle.format.specs.File.Format.{fields, judge, decode}
use Rattle.layered.proofs.FileLaws.{own_refusal, own_accepted, own_sizes, judged, call_refused, call_as}
use Rattle.multipliers.specs.Answers.{column_question}
use Rattle.multipliers.specs.Shown.{multipliers_shown}
use Rattle.multipliers.proofs.AskLaws.{own_shown, multipliers_refused}
use Rattle.multipliers.proofs.file_multipliers.Goals as goal

pub returns-in_err-sizes : goal.returns-in_err-sizes
unfolding judge
returns-in_err-sizes c =
    let bytes : AreBytes c.args.file.now = λ i. search (rules, c.type_inv.file i) in
    let p = err_from_is_err_and c.from_residual.result c.from_residual.ensures.1 in
    rw (p.1, p.2) (call_refused (then_refused (closed fields c.args.file.now) _ _ (own_refusal bytes c.in_err-sizes.ensures) (refusal_some _)) (refusal_some _) (multipliers_refused _))

pub ask-requires : goal.ask-requires
ask-requires c =
    let bytes : AreBytes c.args.file.now = λ i. search (rules, c.type_inv.file i) in
    rw c.model.ensures (constants_accepted (model_accepted _ _ _ _ _ _ _ (own_accepted bytes c.in_ok-sizes.ensures refl)))

pub returns : goal.returns
unfolding judge
returns c =
    let bytes : AreBytes c.args.file.now = λ i. search (rules, c.type_inv.file i) in
    let a = c.args in
    let call = c.in_ok-sizes.ensures in
    let r = multipliers_shown c.ask.result in
    call_as
    (ap (λ (k : ℕ). first_refusal (column_question k (whole a.held) a.column)) (own_sizes bytes call refl).0 ∙ then_passed (closed fields a.file.now) (column_question (decode a.file.now).n (whole a.held) a.column) _ (judged bytes call refl) refl)
    (own_shown bytes call refl _ a.column r.outcome r.multipliers) (rw c.model.ensures at c.ask.ensures)
