-- `harness::harness_accepts` meets its contract, by what the call and the writing of its answer ensure. Assumes nothing.
use Prim.Native.Nat.{ℕ}
use mathlib.Core.Path.{◌≡◌, refl, sym}
use mathlib.Core.Bool.{false}
use mathlib.Core.List.{List, []}
use native.Mathlib.Omega.{arith}
use native.Mathlib.Decide.{dec_lt}
use lib.ListN.{length}
use borrow.Author.Tests.{lt-leb}
use Rattle.std.specs.Prelude.{Ok, Err}
use Rattle.format.specs.Refusals.{Tests, unless, ◌then◌, first_refusal, area_short, area_test, refusal}
use Rattle.format.specs.RefusalLaws.{then_passed, zero_unless}
use Rattle.format.specs.TestLaws.{area_reads}
use Rattle.format.proofs.Refused.{refusal_some}
use Rattle.host.specs.AreaCall.{AreaCall}
use Rattle.host.proofs.AreaLaws.{refused_before, refused_short, refused_beside, answer_put}
use Rattle.acceptance.specs.Shown.{acceptance_shown}
use Rattle.acceptance.specs.Answers.{AcceptanceCall}
use Rattle.acceptance.specs.Bytes.{claim_length, claim_question, acceptance_length, acceptance_bytes}
use Rattle.acceptance.proofs.ByteLaws.{answered_of_bytes}
use Rattle.harness.proofs.CallLaws.{of_handed}
use Rattle.harness.proofs.harness_accepts.Goals as goal

-- the claim's area is too short, whatever the answer's
short : (tests : Tests) (claim answer : List ℕ) (Written : List ℕ → List ℕ → Type 0) → first_refusal tests ≡ 0 → area_test claim_length (length claim) ≡ false → AreaCall tests (claim_question claim) acceptance_length Written answer 8 answer
unfolding first_refusal
short tests claim answer Written ok e =
    let eight : 8 ≡ first_refusal (tests then unless false area_short) = then_passed tests (unless false area_short) 8 ok refl in
    elim (dec_lt (length answer) acceptance_length) [
      | yes l ↦ refused_short tests (claim_question claim) acceptance_length Written answer l 8 eight
      | no nl ↦ refused_beside tests [] (area_test claim_length (length claim)) acceptance_length Written answer (omega arith) e 8 eight
    ]

pub returns-in-Ok : goal.returns-in-Ok
unfolding area_test refusal
returns-in-Ok c =
    let h = of_handed (λ p n a b cs ws ns. AcceptanceCall p n a b cs ws ns c.read_claim-read.result (acceptance_shown (Ok c.in-Ok.field-0))) c.args.numbered c.args.numbers c.lent_model-model.ensures c.in-Ok.ensures in
    rw c.from.ensures (short _ _ _ _ (sym h.is_refusal) (lt-leb _ _ c.if-claim-lt-CLAIM_LENGTH.true))

pub returns-in-Ok-2 : goal.returns-in-Ok-2
unfolding refusal
returns-in-Ok-2 c =
    let r = acceptance_shown (Ok c.in-Ok.field-0) in
    let h = of_handed (λ p n a b cs ws ns. AcceptanceCall p n a b cs ws ns c.read_claim-read.result (acceptance_shown (Ok c.in-Ok.field-0))) c.args.numbered c.args.numbers c.lent_model-model.ensures c.in-Ok.ensures in
    let long = c.if-claim-lt-CLAIM_LENGTH.false in
    rw c.number.ensures
    (answer_put acceptance_bytes _ (claim_question c.args.claim.now) r (answered_of_bytes r (c.read_claim-read.ensures.if_long long) (h.if_accepted (sym h.is_refusal))) (sym h.is_refusal)
    (zero_unless _ area_short ((area_reads _ _).1 long)) c.put_acceptance.ensures)

pub returns-in-Err : goal.returns-in-Err
unfolding refusal
returns-in-Err c =
    let h = of_handed (λ p n a b cs ws ns. AcceptanceCall p n a b cs ws ns c.read_claim-read.result (acceptance_shown (Err c.in-Err.refusal))) c.args.numbered c.args.numbers c.lent_model-model.ensures c.in-Err.ensures in
    rw c.from-in-Err.ensures (refused_before _ _ _ _ _ _ h.is_refusal (refusal_some c.in-Err.refusal))
