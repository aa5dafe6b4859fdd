-- `layered::layered_rank`: a numbered model that is accepted has the answer of the model without numbers.
use Rattle.std.proofs.Common.{sym, ◌∙◌}
use Rattle.std.proofs.Math.Option.{none}
use Rattle.format.specs.TestLaws.{model_accepted, accepted_model, unnumbered_accepted}
use Rattle.layered.proofs.FileLaws.{call_as}
use Rattle.layered.proofs.layered_rank.Goals as goal

pub returns-in_ok-judge_model-in-Some : goal.returns-in_ok-judge_model-in-Some
returns-in_ok-judge_model-in-Some c =
    let ok = sym c.in_ok-judge_model-in-Some.ensures in
    call_as (accepted_model _ _ _ _ _ _ none (unnumbered_accepted (model_accepted _ _ _ _ _ _ _ ok)) ∙ sym ok) (λ x. x) c.unnumbered_rank-in-Some.ensures
