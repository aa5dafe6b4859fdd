-- `harness::harness_open` meets its contract, by what the call and the writing of its answer ensure. Assumes nothing.
use Rattle.std.specs.Prelude.{Ok, Err}
use Rattle.limits.specs.Limits.{set_bytes}
use Rattle.columns.specs.Bytes.{bytes_of}
use Rattle.columns.specs.ColumnSets.{whole}
use Rattle.format.specs.Refusals.{refusal}
use Rattle.format.proofs.Refused.{refusal_some}
use Rattle.editing.specs.Shown.{opened_shown}
use Rattle.editing.specs.Calls.{OpenCall}
use Rattle.harness.proofs.CallLaws.{of_handed, rank_refused, rank_put}
use Rattle.harness.proofs.OpenLaws.{set_put}
use Rattle.harness.proofs.harness_open.Goals as goal

pub returns-in-Ok : goal.returns-in-Ok
unfolding refusal
returns-in-Ok c =
    let h = of_handed (λ p n a b cs ws ns. OpenCall p n a b cs ws ns (opened_shown (Ok c.in-Ok.set))) c.args.numbered c.args.numbers c.lent_model-model.ensures c.in-Ok.ensures in
    rw c.number.ensures (rank_put (λ s. bytes_of set_bytes (whole s)) _ c.in-Ok.set h (set_put _ c.put_set.ensures))

pub returns-in-Err : goal.returns-in-Err
unfolding refusal
returns-in-Err c =
    let h = of_handed (λ p n a b cs ws ns. OpenCall p n a b cs ws ns (opened_shown (Err c.in-Err.refusal))) c.args.numbered c.args.numbers c.lent_model-model.ensures c.in-Err.ensures in
    rw c.from.ensures (rank_refused _ _ _ h (refusal_some c.in-Err.refusal))
