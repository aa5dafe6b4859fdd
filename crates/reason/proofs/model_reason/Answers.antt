-- `reason::model_reason`: the model's own refusal comes before the question. Assumes nothing.
use Rattle.std.proofs.Common.{refl, sym, ℕ}
use Rattle.std.proofs.lemmas.Result.{err_from_is_err_and}
use Rattle.listed_models.specs.ListedModel.{listed_model}
use Rattle.models.specs.declared.LentModel.{LentModel}
use Rattle.models.specs.Lent.{constants_lent, rows_lent, numbers_lent}
use Rattle.format.specs.Refusals.{Tests, model_tests, refusal}
use Rattle.format.specs.RefusalLaws.{then_refused, then_passed}
use Rattle.format.specs.TestLaws.{model_accepted, unnumbered_accepted}
use Rattle.format.proofs.Refused.{refusal_some}
use Rattle.layered.proofs.FileLaws.{call_refused, call_as}
use Rattle.reason.specs.Answers.{reason_question}
use Rattle.reason.proofs.model_reason.Goals as goal

abbrev judged : LentModel → Tests
judged m = model_tests m.p m.n m.a m.b (constants_lent m) (rows_lent m) (numbers_lent m)

abbrev asked : LentModel → ℕ → Tests
asked m x = reason_question (listed_model m.p m.n m.a m.b (constants_lent m) (rows_lent m)) x

pub returns-in_err-judge_model : goal.returns-in_err-judge_model
unfolding refusal
returns-in_err-judge_model c =
    let m = c.args.model.now in
    let p = err_from_is_err_and c.from_residual.result c.from_residual.ensures.1 in
    rw (p.1, p.2) (call_refused (then_refused (judged m) (asked m c.args.column) _ c.in_err-judge_model.ensures (refusal_some _)) (refusal_some _)
    (record { no_set = refl; not_given = refl; no_multipliers = refl }))

pub ask-requires : goal.ask-requires
ask-requires c = unnumbered_accepted (model_accepted _ _ _ _ _ _ _ (sym c.in_ok-judge_model.ensures))

pub returns : goal.returns
unfolding refusal
returns c =
    let m = c.args.model.now in
    call_as (then_passed (judged m) (asked m c.args.column) _ (sym c.in_ok-judge_model.ensures) refl) (λ x. x) c.ask.ensures
