-- `acceptance::model_acceptance`: a model that is not refused has its answer. Assumes nothing.
use Rattle.std.proofs.Common.{refl, sym}
use Rattle.std.proofs.lemmas.Result.{err_from_is_err_and}
use Rattle.format.specs.TestLaws.{model_accepted, unnumbered_accepted}
use Rattle.format.proofs.Refused.{refusal_some}
use Rattle.layered.proofs.FileLaws.{call_refused, call_answered}
use Rattle.acceptance.proofs.model_acceptance.Goals as goal

pub returns-in_err-judge_model : goal.returns-in_err-judge_model
returns-in_err-judge_model c =
    let p = err_from_is_err_and c.from_residual.result c.from_residual.ensures.1 in
    rw (p.1, p.2) (call_refused c.in_err-judge_model.ensures (refusal_some _) refl)

pub holds-requires : goal.holds-requires
holds-requires c = unnumbered_accepted (model_accepted _ _ _ _ _ _ _ (sym c.in_ok-judge_model.ensures))

pub returns : goal.returns
returns c = call_answered (sym c.in_ok-judge_model.ensures) refl c.holds.ensures
