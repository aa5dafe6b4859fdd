-- `area::judge_area`: the header of the area's file says it.
use Rattle.std.proofs.Common.{sym}
use Rattle.std.proofs.lemmas.Result.{err_from_is_err_and}
use Rattle.format.proofs.Unnumbered.{unnumbered_read_accepted, unnumbered_read_refused}
use Rattle.editing.proofs.area.judge_area.Goals as goal

pub returns-in_err-read_unnumbered_header : goal.returns-in_err-read_unnumbered_header
returns-in_err-read_unnumbered_header c =
    let p = err_from_is_err_and c.from_residual.result c.from_residual.ensures.1 in
    rw (p.1, p.2) (unnumbered_read_refused _ (rw c.file_in.ensures at c.in_err-read_unnumbered_header.ensures))

pub returns : goal.returns
returns c = sym (unnumbered_read_accepted _ (rw c.file_in.ensures at c.in_ok-read_unnumbered_header.ensures))
