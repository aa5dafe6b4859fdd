-- `write_file` meets its contract. Assumes nothing.
use Rattle.std.proofs.Common.{sym}
use Rattle.std.proofs.lemmas.Result.{err_from_is_err_and}
use Rattle.format.specs.TestLaws.{model_accepted}
use Rattle.writer.proofs.Writing.{writing_refused, writing_short, writing_done}
use Rattle.writer.proofs.write_file.Goals as goal

pub returns-in_err-judge_model : goal.returns-in_err-judge_model
returns-in_err-judge_model c = let p = err_from_is_err_and c.from_residual.result c.from_residual.ensures.1 in rw (p.1, p.2) (writing_refused _ _ _ _ _ _ _ _ _ c.in_err-judge_model.ensures)

pub file_length-requires : goal.file_length-requires
file_length-requires c = model_accepted _ _ _ _ _ _ _ (sym c.in_ok-judge_model.ensures)

pub returns-then-out-file_length : goal.returns-then-out-file_length
returns-then-out-file_length c = writing_short _ _ _ _ _ _ _ _ (sym c.in_ok-judge_model.ensures) (rw c.file_length.ensures at c.if-out-file_length.true)

pub put_file-requires : goal.put_file-requires
put_file-requires c = (model_accepted _ _ _ _ _ _ _ (sym c.in_ok-judge_model.ensures), rw c.file_length.ensures at c.if-out-file_length.false)

pub returns : goal.returns
returns c =
    let put = c.put_file.ensures in
    writing_done _ _ _ _ _ _ _ _ (sym c.in_ok-judge_model.ensures) (rw c.file_length.ensures at c.if-out-file_length.false) put.many_is put.bytes_are
