-- `editing::open_model`: all columns of an accepted model are present.
use Rattle.std.proofs.Common.{rules, arith, refl, sym}
use Rattle.std.proofs.lemmas.Result.{err_from_is_err_and}
use Rattle.format.proofs.Refused.{refusal_some}
use Rattle.format.specs.TestLaws.{model_accepted}
use Rattle.layered.proofs.FileLaws.{call_refused, call_answered}
use Rattle.editing.proofs.EditLaws.{below_shown}
use Rattle.editing.proofs.open_model.Goals as goal

pub returns-in_err-judge_model : goal.returns-in_err-judge_model
returns-in_err-judge_model c =
    let p = err_from_is_err_and c.from_residual.result c.from_residual.ensures.1 in
    rw (p.1, p.2) (call_refused c.in_err-judge_model.ensures (refusal_some _) refl)

pub returns : goal.returns
returns c =
    let ok = sym c.in_ok-judge_model.ensures in
    call_answered ok refl (below_shown _ _ (search (rules, c.below.type_inv)) (omega (arith, (model_accepted _ _ _ _ _ _ _ ok).n_most)) c.below.ensures)
