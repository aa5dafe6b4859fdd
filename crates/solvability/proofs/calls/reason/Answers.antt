-- `calls::reason`: the area is tested, the file answered, and then its answer written.
use Rattle.std.specs.Prelude.{Ok}
use Rattle.std.proofs.Common.{sym}
use Rattle.std.proofs.lemmas.Result.{err_from_is_err_and}
use Rattle.format.proofs.Refused.{refusal_some}
use Rattle.format.specs.File.Format.{fields}
use Rattle.layered.specs.FileModel.{file_model}
use Rattle.host.specs.AreaCall.{WrittenOver}
use Rattle.reason.specs.Shown.{reason_shown}
use Rattle.reason.specs.Answers.{reason_question, FileReason}
use Rattle.reason.specs.Bytes.{reason_length, reason_bytes}
use Rattle.format.specs.RefusalLaws.{then_zero}
use Rattle.format.specs.File.Piece.{closed}
use Rattle.host.proofs.AreaLaws.{refused_short, refused_around, answer_put, put_same}
use Rattle.solvability.proofs.calls.reason.Goals as goal

pub returns-then-answer-lt-REASON_LENGTH : goal.returns-then-answer-lt-REASON_LENGTH
returns-then-answer-lt-REASON_LENGTH c =
    let a = c.args in
    refused_short (closed fields a.file.now) (reason_question (file_model a.file.now) a.column) reason_length (WrittenOver (FileReason a.file.now a.column) reason_bytes) a.answer.now c.if-answer-lt-REASON_LENGTH.true _ c.refuse_area.ensures

pub returns-in_err-r : goal.returns-in_err-r
returns-in_err-r c =
    let a = c.args in
    let p = err_from_is_err_and c.from_residual.result c.from_residual.ensures.1 in
    rw (p.1, p.2) (refused_around (closed fields a.file.now) (reason_question (file_model a.file.now) a.column) reason_length (WrittenOver (FileReason a.file.now a.column) reason_bytes) a.answer.now c.if-answer-lt-REASON_LENGTH.false _ c.in_err-r.ensures.is_refusal (refusal_some _))

pub returns : goal.returns
returns c =
    let a = c.args in
    let told = c.in_ok-r.ensures in
    let ok = sym told.is_refusal in
    let each = then_zero (closed fields a.file.now) (reason_question (file_model a.file.now) a.column) ok in
    answer_put reason_bytes (closed fields a.file.now) (reason_question (file_model a.file.now) a.column) (reason_shown (Ok c.in_ok-r.r)) (told.if_accepted ok) each.0 each.1 (put_same reason_bytes c.of.ensures c.put_reason.ensures)
