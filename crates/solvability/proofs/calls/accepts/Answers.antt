-- `calls::accepts`: both areas are tested, the file answered, and then its answer written.
use Rattle.std.specs.Prelude.{[], Ok}
use Rattle.std.proofs.Common.{sym, length}
use Rattle.std.proofs.lemmas.Result.{err_from_is_err_and}
use Rattle.format.proofs.Refused.{refusal_some}
use borrow.Author.Tests.{lt-leb}
use Rattle.format.specs.Refusals.{area_short, area_test}
use Rattle.format.specs.RefusalLaws.{zero_unless}
use Rattle.format.specs.TestLaws.{area_reads}
use Rattle.format.specs.File.Piece.{closed}
use Rattle.format.specs.File.Format.{fields, judge}
use Rattle.layered.specs.FileModel.{file_model}
use Rattle.host.specs.AreaCall.{WrittenOver}
use Rattle.host.proofs.AreaLaws.{refused_before, refused_short, refused_beside, answer_put}
use Rattle.acceptance.specs.Shown.{acceptance_shown}
use Rattle.acceptance.specs.Bytes.{claim_length, claim_question, AcceptanceOf, acceptance_length, acceptance_bytes}
use Rattle.acceptance.proofs.ByteLaws.{answered_of_bytes}
use Rattle.solvability.proofs.calls.accepts.Goals as goal

pub returns-then-answer-lt-ACCEPTANCE_LENGTH : goal.returns-then-answer-lt-ACCEPTANCE_LENGTH
returns-then-answer-lt-ACCEPTANCE_LENGTH c =
    let a = c.args in
    refused_short (closed fields a.file.now) (claim_question a.claim.now) acceptance_length (WrittenOver (AcceptanceOf (file_model a.file.now) a.claim.now) acceptance_bytes) a.answer.now c.if-answer-lt-ACCEPTANCE_LENGTH.true _ c.refuse_area.ensures

pub returns-then-claim-lt-CLAIM_LENGTH : goal.returns-then-claim-lt-CLAIM_LENGTH
unfolding area_test
returns-then-claim-lt-CLAIM_LENGTH c =
    let a = c.args in
    refused_beside (closed fields a.file.now) [] (area_test claim_length (length a.claim.now)) acceptance_length (WrittenOver (AcceptanceOf (file_model a.file.now) a.claim.now) acceptance_bytes) a.answer.now c.if-answer-lt-ACCEPTANCE_LENGTH.false (lt-leb _ _ c.if-claim-lt-CLAIM_LENGTH.true) _ c.refuse_area-then-claim-lt-CLAIM_LENGTH.ensures

pub returns-in_err-r : goal.returns-in_err-r
unfolding judge
returns-in_err-r c =
    let a = c.args in
    let p = err_from_is_err_and c.from_residual.result c.from_residual.ensures.1 in
    rw (p.1, p.2) (refused_before (closed fields a.file.now) (claim_question a.claim.now) acceptance_length (WrittenOver (AcceptanceOf (file_model a.file.now) a.claim.now) acceptance_bytes) a.answer.now _ c.in_err-r.ensures.is_refusal (refusal_some _))

pub returns : goal.returns
unfolding judge
returns c =
    let a = c.args in
    let told = c.in_ok-r.ensures in
    let ok = sym told.is_refusal in
    let enough = c.if-claim-lt-CLAIM_LENGTH.false in
    let r = acceptance_shown (Ok c.in_ok-r.r) in
    answer_put acceptance_bytes (closed fields a.file.now) (claim_question a.claim.now) r (answered_of_bytes r (c.read_claim.ensures.if_long enough) (told.if_accepted ok)) ok
    (zero_unless _ area_short ((area_reads _ _).1 enough)) c.put_acceptance.ensures
