-- `calls::open_answer`: the area is tested, the file answered, and then its answer written.
use Rattle.std.specs.Prelude.{Ok}
use Rattle.std.proofs.Common.{sym}
use Rattle.std.proofs.lemmas.Result.{err_from_is_err_and}
use Rattle.format.proofs.Refused.{refusal_some}
use Rattle.format.specs.Refusals.{unless, column_beyond}
use Rattle.format.specs.File.Unnumbered.{unnumbered_fields}
use Rattle.layered.specs.Shown.{answer_shown}
use Rattle.open_models.specs.Open.{present_test, open_model}
use Rattle.editing.specs.Areas.{area_file, area_open}
use Rattle.host.specs.AnswerBytes.{answer_length, answer_bytes, AnswerWritten}
use Rattle.format.specs.RefusalLaws.{then_zero}
use Rattle.format.specs.File.Piece.{closed}
use Rattle.host.proofs.AreaLaws.{refused_short, refused_around, answer_put, put_same}
use Rattle.solvability.proofs.calls.open_answer.Goals as goal

pub returns-then-answer-lt-ANSWER_LENGTH : goal.returns-then-answer-lt-ANSWER_LENGTH
returns-then-answer-lt-ANSWER_LENGTH c =
    let a = c.args in
    refused_short (closed unnumbered_fields (area_file a.area.now)) (unless (present_test (area_open a.area.now)) column_beyond) answer_length (AnswerWritten (open_model (area_open a.area.now))) a.answer.now c.if-answer-lt-ANSWER_LENGTH.true _ c.refuse_answer.ensures

pub returns-in_err-r : goal.returns-in_err-r
returns-in_err-r c =
    let a = c.args in
    let p = err_from_is_err_and c.from_residual.result c.from_residual.ensures.1 in
    rw (p.1, p.2) (refused_around (closed unnumbered_fields (area_file a.area.now)) (unless (present_test (area_open a.area.now)) column_beyond) answer_length (AnswerWritten (open_model (area_open a.area.now))) a.answer.now c.if-answer-lt-ANSWER_LENGTH.false _ c.in_err-r.ensures.is_refusal (refusal_some _))

pub returns : goal.returns
returns c =
    let a = c.args in
    let told = c.in_ok-r.ensures in
    let ok = sym told.is_refusal in
    let each = then_zero (closed unnumbered_fields (area_file a.area.now)) (unless (present_test (area_open a.area.now)) column_beyond) ok in
    answer_put answer_bytes (closed unnumbered_fields (area_file a.area.now)) (unless (present_test (area_open a.area.now)) column_beyond) (answer_shown (Ok c.in_ok-r.r)) (told.if_accepted ok) each.0 each.1 (put_same answer_bytes c.of.ensures c.put_answer.ensures)
