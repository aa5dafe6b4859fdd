-- `layered::judge_offered`: the model's own refusal comes first.
use Rattle.std.proofs.Common.{sym, ◌∙◌}
use Rattle.std.proofs.lemmas.Result.{err_from_is_err_and}
use Rattle.format.proofs.Refused.{refusal_some}
use Rattle.layered.proofs.AnswerLaws.{offered_refused, offered_beyond, offered_passed}
use Rattle.layered.proofs.judge_offered.Goals as goal

pub returns-in_err-judge_model : goal.returns-in_err-judge_model
returns-in_err-judge_model c =
    let p = err_from_is_err_and c.from_residual.result c.from_residual.ensures.1 in
    rw (p.1, p.2) (offered_refused _ _ _ _ _ _ _ _ c.in_err-judge_model.ensures (refusal_some _))

pub returns-then-not-within : goal.returns-then-not-within
returns-then-not-within c = offered_beyond _ _ _ _ _ _ _ (sym c.in_ok-judge_model.ensures) (sym c.within.ensures ∙ c.if-not-within.true)

pub returns : goal.returns
returns c = offered_passed _ _ _ _ _ _ _ (sym c.in_ok-judge_model.ensures) (sym c.within.ensures ∙ c.if-not-within.false)
