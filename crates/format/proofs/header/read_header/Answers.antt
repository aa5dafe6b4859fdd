-- `header::read_header` meets its contract: what the three calls say together is what the file says before its rows. Assumes nothing.
use Rattle.format.specs.File.Piece.{said_rest}
use Rattle.format.proofs.Headers.{all_three, none_due, sizes_due, rows_due, refused_given, known_given}
use Rattle.format.proofs.header.read_header.Goals as goal

pub returns-in_err-p : goal.returns-in_err-p
returns-in_err-p c =
    let s = c.args.file.now in
    let i = rw c.open.ensures at c.in_err-p.ensures in
    refused_given _ c.from_residual.ensures.1 (all_three s i.said (none_due (said_rest s) _) (none_due (said_rest (said_rest s)) _))

pub returns-in_err-header : goal.returns-in_err-header
returns-in_err-header c =
    let s = c.args.file.now in
    let i = rw c.open.ensures at c.in_ok-p.ensures in
    refused_given _ c.from_residual-in_err-header.ensures.1 (all_three s i.said (sizes_due c.args.file i.judged c.in_err-header.ensures.said) (none_due (said_rest (said_rest s)) _))

pub returns-in_err-rows : goal.returns-in_err-rows
returns-in_err-rows c =
    let s = c.args.file.now in
    let i = rw c.open.ensures at c.in_ok-p.ensures in
    let j = c.in_ok-header.ensures in
    refused_given _ c.from_residual-in_err-rows.ensures.1
    (all_three s i.said (sizes_due c.args.file i.judged j.said) (rows_due c.args.file i.judged j.judged c.in_err-rows.ensures.said))

pub returns : goal.returns
returns c =
    let s = c.args.file.now in
    let i = rw c.open.ensures at c.in_ok-p.ensures in
    let j = c.in_ok-header.ensures in
    known_given (all_three s i.said (sizes_due c.args.file i.judged j.said) (rows_due c.args.file i.judged j.judged c.in_ok-rows.ensures.said))
