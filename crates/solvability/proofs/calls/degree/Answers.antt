-- `calls::degree`: the area is tested, the file answered, and then its answer written.
use Rattle.std.specs.Prelude.{Ok}
use Rattle.std.proofs.Common.{sym}
use Rattle.std.proofs.lemmas.Result.{err_from_is_err_and}
use Rattle.format.proofs.Refused.{refusal_some}
use Rattle.format.specs.File.Format.{fields, decode}
use Rattle.layered.specs.FileModel.{file_model}
use Rattle.host.specs.AreaCall.{WrittenOver}
use Rattle.degrees.specs.Degrees.{listed_powers}
use Rattle.degree.specs.Shown.{degree_shown}
use Rattle.degree.specs.Answers.{file_question, DegreeAnswered}
use Rattle.degree.specs.Bytes.{degree_length, degree_bytes}
use Rattle.format.specs.RefusalLaws.{then_zero}
use Rattle.format.specs.File.Piece.{closed}
use Rattle.host.proofs.AreaLaws.{refused_short, refused_around, answer_put}
use Rattle.solvability.proofs.calls.degree.Goals as goal

pub returns-then-answer-lt-DEGREE_LENGTH : goal.returns-then-answer-lt-DEGREE_LENGTH
returns-then-answer-lt-DEGREE_LENGTH c =
    let a = c.args in
    refused_short (closed fields a.file.now) (file_question a.file.now a.powers.now.rows.now a.powers.now.columns.now a.powers.now.parameters.now) degree_length (WrittenOver (DegreeAnswered (file_model a.file.now) (listed_powers (decode a.file.now).n a.powers.now.rows.now a.powers.now.columns.now a.powers.now.parameters.now)) degree_bytes) a.answer.now c.if-answer-lt-DEGREE_LENGTH.true _ c.refuse_area.ensures

pub returns-in_err-r : goal.returns-in_err-r
returns-in_err-r c =
    let a = c.args in
    let p = err_from_is_err_and c.from_residual.result c.from_residual.ensures.1 in
    rw (p.1, p.2) (refused_around (closed fields a.file.now) (file_question a.file.now a.powers.now.rows.now a.powers.now.columns.now a.powers.now.parameters.now) degree_length (WrittenOver (DegreeAnswered (file_model a.file.now) (listed_powers (decode a.file.now).n a.powers.now.rows.now a.powers.now.columns.now a.powers.now.parameters.now)) degree_bytes) a.answer.now c.if-answer-lt-DEGREE_LENGTH.false _ c.in_err-r.ensures.is_refusal (refusal_some _))

pub returns : goal.returns
returns c =
    let a = c.args in
    let told = c.in_ok-r.ensures in
    let ok = sym told.is_refusal in
    let each = then_zero (closed fields a.file.now) (file_question a.file.now a.powers.now.rows.now a.powers.now.columns.now a.powers.now.parameters.now) ok in
    answer_put degree_bytes (closed fields a.file.now) (file_question a.file.now a.powers.now.rows.now a.powers.now.columns.now a.powers.now.parameters.now) (degree_shown (Ok c.in_ok-r.r)) (told.if_accepted ok) each.0 each.1 c.put_degree.ensures
