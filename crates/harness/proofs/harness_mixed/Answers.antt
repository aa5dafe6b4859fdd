-- `harness::harness_mixed` meets its contract, by what the call and the writing of its answer ensure. Assumes nothing.
use Rattle.std.specs.Prelude.{Ok, Err}
use Rattle.format.specs.Refusals.{mixed_refusal}
use Rattle.mixed.specs.Shown.{mixed_shown}
use Rattle.mixed.specs.MixedAnswers.{MixedCall}
use Rattle.host.specs.AnswerBytes.{mixed_bytes}
use Rattle.format.proofs.Refused.{refusal_some}
use Rattle.host.proofs.AreaLaws.{put_same}
use Rattle.harness.proofs.CallLaws.{of_handed, rank_refused, rank_put}
use Rattle.harness.proofs.harness_mixed.Goals as goal

pub returns-in-Ok : goal.returns-in-Ok
unfolding mixed_refusal
returns-in-Ok c =
    let h = of_handed (λ p n a b cs ws ns. MixedCall p n a b cs ws ns (mixed_shown (Ok c.in-Ok.found))) c.args.numbered c.args.numbers c.lent_model-model.ensures c.in-Ok.ensures in
    rw c.number.ensures (rank_put mixed_bytes _ (mixed_shown (Ok c.in-Ok.found)) h (put_same mixed_bytes c.of.ensures c.put_mixed.ensures))

pub returns-in-Err : goal.returns-in-Err
unfolding mixed_refusal
returns-in-Err c =
    let h = of_handed (λ p n a b cs ws ns. MixedCall p n a b cs ws ns (mixed_shown (Err c.in-Err.refusal))) c.args.numbered c.args.numbers c.lent_model-model.ensures c.in-Err.ensures in
    rw c.from.ensures (rank_refused _ _ _ h (refusal_some c.in-Err.refusal))
