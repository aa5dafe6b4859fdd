-- `harness::harness_reason` meets its contract, by what the call and the writing of its answer ensure. Assumes nothing.
use Rattle.std.specs.Prelude.{Ok, Err}
use Rattle.reason.specs.Shown.{reason_shown}
use Rattle.reason.specs.Answers.{ReasonCall}
use Rattle.reason.specs.Bytes.{reason_bytes}
use Rattle.format.proofs.Refused.{refusal_some}
use Rattle.host.proofs.AreaLaws.{put_same}
use Rattle.harness.proofs.CallLaws.{of_handed, rank_refused, rank_put}
use Rattle.harness.proofs.harness_reason.Goals as goal

pub returns-in-Ok : goal.returns-in-Ok
returns-in-Ok c =
    let h = of_handed (λ p n a b cs ws ns. ReasonCall p n a b cs ws ns c.args.column (reason_shown (Ok c.in-Ok.found))) c.args.numbered c.args.numbers c.lent_model-model.ensures c.in-Ok.ensures in
    rw c.number.ensures (rank_put reason_bytes _ (reason_shown (Ok c.in-Ok.found)) h (put_same reason_bytes c.of.ensures c.put_reason.ensures))

pub returns-in-Err : goal.returns-in-Err
returns-in-Err c =
    let h = of_handed (λ p n a b cs ws ns. ReasonCall p n a b cs ws ns c.args.column (reason_shown (Err c.in-Err.refusal))) c.args.numbered c.args.numbers c.lent_model-model.ensures c.in-Err.ensures in
    rw c.from.ensures (rank_refused _ _ _ h (refusal_some c.in-Err.refusal))
