-- `header::read_unnumbered_header` meets its contract: what the calls say one after another is what the file says before its rows. Assumes nothing.
use Rattle.std.proofs.Common.{refl}
use Rattle.format.specs.File.Format.{refused_header}
use Rattle.format.proofs.Judging.{refused_some}
use Rattle.format.proofs.Headers.{sizes_at, rows_at, refused_given, known_given}
use Rattle.format.proofs.Unnumbered.{prime_stops, sizes_stop, rows_stop, rows_end}
use Rattle.format.proofs.header.read_unnumbered_header.Goals as goal

pub returns-in_err-p : goal.returns-in_err-p
unfolding refused_header
returns-in_err-p c =
    let s = c.args.file.now in
    let i = rw c.open.ensures at c.in_err-p.ensures in
    refused_given _ c.from_residual.ensures.1 (prime_stops s i.said (refused_some _))

pub returns-in_err-header : goal.returns-in_err-header
unfolding refused_header
returns-in_err-header c =
    let s = c.args.file.now in
    let i = rw c.open.ensures at c.in_ok-p.ensures in
    refused_given _ c.from_residual-in_err-header.ensures.1 (sizes_stop s i.said refl (sizes_at c.args.file i.judged) c.in_err-header.ensures.said (refused_some _))

pub returns-in_err-unnumbered_rows : goal.returns-in_err-unnumbered_rows
returns-in_err-unnumbered_rows c =
    let s = c.args.file.now in
    let i = rw c.open.ensures at c.in_ok-p.ensures in
    let j = c.in_ok-header.ensures in
    refused_given _ c.from_residual-in_err-unnumbered_rows.ensures.1
    (rows_stop s i.said refl (sizes_at c.args.file i.judged) j.said refl (rows_at c.args.file i.judged j.judged) c.in_err-unnumbered_rows.ensures (refused_some _))

pub returns : goal.returns
returns c =
    let s = c.args.file.now in
    let i = rw c.open.ensures at c.in_ok-p.ensures in
    let j = c.in_ok-header.ensures in
    known_given (rows_end s i.said refl (sizes_at c.args.file i.judged) j.said refl (rows_at c.args.file i.judged j.judged) c.in_ok-unnumbered_rows.ensures refl)
