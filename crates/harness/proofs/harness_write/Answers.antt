-- `harness::harness_write` meets its contract, by what the writing ensures. Assumes nothing.
use Rattle.format.specs.Refused.{refusal_number}
use Rattle.format.specs.File.Format.{WriteCall}
use Rattle.harness.proofs.CallLaws.{of_handed}
use Rattle.harness.proofs.harness_write.Goals as goal

pub returns-in-Ok : goal.returns-in-Ok
returns-in-Ok c =
    (_, of_handed (λ p n a b cs ws ns. WriteCall p n a b cs ws ns c.args.out.now 0 c.in-Ok.field-0 c.write_file.new.out) c.args.numbered c.args.numbers c.lent_model-model.ensures c.in-Ok.ensures)

pub returns-in-Err : goal.returns-in-Err
returns-in-Err c =
    rw c.from.ensures (_, of_handed (λ p n a b cs ws ns. WriteCall p n a b cs ws ns c.args.out.now (refusal_number c.in-Err.refusal) 0 c.write_file.new.out) c.args.numbered c.args.numbers c.lent_model-model.ensures c.in-Err.ensures)
