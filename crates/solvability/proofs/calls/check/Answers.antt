-- `calls::check`: the file is answered, and then its answer written.
use Rattle.std.specs.Prelude.{[], Ok}
use Rattle.std.proofs.Common.{refl, sym}
use Rattle.std.proofs.lemmas.Result.{err_from_is_err_and}
use Rattle.format.proofs.Refused.{refusal_some}
use Rattle.layered.specs.FileModel.{file_model}
use Rattle.host.specs.AnswerBytes.{answer_length, answer_bytes, AnswerWritten}
use Rattle.format.specs.Refusals.{first_refusal}
use Rattle.format.specs.File.Piece.{closed}
use Rattle.format.specs.File.Format.{fields, judge}
use Rattle.host.proofs.AreaLaws.{refused_before, answer_put, put_same}
use Rattle.layered.specs.Shown.{answer_shown}
use Rattle.solvability.proofs.calls.check.Goals as goal

pub returns-in_err-r : goal.returns-in_err-r
unfolding judge
returns-in_err-r c =
    let p = err_from_is_err_and c.from_residual.result c.from_residual.ensures.1 in
    rw (p.1, p.2) (refused_before (closed fields c.args.file.now) [] answer_length (AnswerWritten (file_model c.args.file.now)) c.args.answer.now _ c.in_err-r.ensures.is_refusal (refusal_some _))

pub returns : goal.returns
unfolding judge first_refusal
returns c =
    let told = c.in_ok-r.ensures in
    let ok = sym told.is_refusal in
    answer_put answer_bytes (closed fields c.args.file.now) [] (answer_shown (Ok c.in_ok-r.r)) (told.if_accepted ok) ok refl (put_same answer_bytes c.of.ensures c.put_answer.ensures)
