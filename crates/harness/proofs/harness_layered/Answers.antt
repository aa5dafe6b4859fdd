-- `harness::harness_layered` meets its contract, by what the call and the writing of its answer ensure. Assumes nothing.
use Rattle.std.specs.Prelude.{Ok, Err}
use Rattle.format.specs.Refusals.{refusal}
use Rattle.layered.specs.Shown.{answer_shown}
use Rattle.layered.specs.Answers.{LayeredCall}
use Rattle.host.specs.AnswerBytes.{answer_bytes}
use Rattle.format.proofs.Refused.{refusal_some}
use Rattle.host.proofs.AreaLaws.{put_same}
use Rattle.harness.proofs.CallLaws.{of_handed, rank_refused, rank_put}
use Rattle.harness.proofs.harness_layered.Goals as goal

pub returns-in-Ok : goal.returns-in-Ok
unfolding refusal
returns-in-Ok c =
    let h = of_handed (λ p n a b cs ws ns. LayeredCall p n a b cs ws ns (answer_shown (Ok c.in-Ok.found))) c.args.numbered c.args.numbers c.lent_model-model.ensures c.in-Ok.ensures in
    rw c.number.ensures (rank_put answer_bytes _ (answer_shown (Ok c.in-Ok.found)) h (put_same answer_bytes c.of.ensures c.put_answer.ensures))

pub returns-in-Err : goal.returns-in-Err
unfolding refusal
returns-in-Err c =
    let h = of_handed (λ p n a b cs ws ns. LayeredCall p n a b cs ws ns (answer_shown (Err c.in-Err.refusal))) c.args.numbered c.args.numbers c.lent_model-model.ensures c.in-Err.ensures in
    rw c.from.ensures (rank_refused _ _ _ h (refusal_some c.in-Err.refusal))
