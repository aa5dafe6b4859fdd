-- `harness::harness_blocks` meets its contract, by what the call and the writing of its answer ensure. Assumes nothing.
use Rattle.std.specs.Prelude.{Ok, Err}
use Rattle.format.specs.Refusals.{refusal}
use Rattle.blocks.specs.Shown.{blocks_shown}
use Rattle.blocks.specs.Answers.{BlocksCall}
use Rattle.blocks.specs.Bytes.{blocks_bytes}
use Rattle.format.proofs.Refused.{refusal_some}
use Rattle.harness.proofs.CallLaws.{of_handed, rank_refused, rank_put}
use Rattle.harness.proofs.harness_blocks.Goals as goal

pub returns-in-Ok : goal.returns-in-Ok
unfolding refusal
returns-in-Ok c =
    let h = of_handed (λ p n a b cs ws ns. BlocksCall p n a b cs ws ns (blocks_shown (Ok c.in-Ok.found))) c.args.numbered c.args.numbers c.lent_model-model.ensures c.in-Ok.ensures in
    rw c.number.ensures (rank_put blocks_bytes _ (blocks_shown (Ok c.in-Ok.found)) h c.put_blocks.ensures)

pub returns-in-Err : goal.returns-in-Err
unfolding refusal
returns-in-Err c =
    let h = of_handed (λ p n a b cs ws ns. BlocksCall p n a b cs ws ns (blocks_shown (Err c.in-Err.refusal))) c.args.numbered c.args.numbers c.lent_model-model.ensures c.in-Err.ensures in
    rw c.from.ensures (rank_refused _ _ _ h (refusal_some c.in-Err.refusal))
