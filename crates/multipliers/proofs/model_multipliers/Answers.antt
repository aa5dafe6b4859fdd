-- `multipliers::model_multipliers`: the model's own refusal comes first.
use Rattle.std.proofs.Common.{refl, sym}
use Rattle.std.proofs.lemmas.Result.{err_from_is_err_and}
use Rattle.columns.specs.ColumnSets.{whole}
use Rattle.models.specs.Lent.{constants_lent, rows_lent, numbers_lent}
use Rattle.format.proofs.Refused.{refusal_some}
use Rattle.format.specs.Refusals.{model_tests, refusal}
use Rattle.format.specs.RefusalLaws.{then_refused, then_passed}
use Rattle.format.specs.TestLaws.{model_accepted, constants_accepted}
use Rattle.layered.proofs.FileLaws.{call_refused, call_as}
use Rattle.multipliers.specs.Answers.{column_question}
use Rattle.multipliers.proofs.AskLaws.{multipliers_refused}
use Rattle.multipliers.proofs.model_multipliers.Goals as goal

pub returns-in_err-judge_model : goal.returns-in_err-judge_model
unfolding refusal
returns-in_err-judge_model c =
    let m = c.args.model.now in
    let p = err_from_is_err_and c.from_residual.result c.from_residual.ensures.1 in
    rw (p.1, p.2)
    (call_refused (then_refused (model_tests m.p m.n m.a m.b (constants_lent m) (rows_lent m) (numbers_lent m)) (column_question m.n (whole c.args.held) c.args.column) _ c.in_err-judge_model.ensures (refusal_some _)) (refusal_some _) (multipliers_refused _))

pub ask-requires : goal.ask-requires
ask-requires c = constants_accepted (model_accepted _ _ _ _ _ _ _ (sym c.in_ok-judge_model.ensures))

pub returns : goal.returns
unfolding refusal
returns c =
    let m = c.args.model.now in
    call_as (then_passed (model_tests m.p m.n m.a m.b (constants_lent m) (rows_lent m) (numbers_lent m)) (column_question m.n (whole c.args.held) c.args.column) _ (sym c.in_ok-judge_model.ensures) refl) (λ x. x) c.ask.ensures
