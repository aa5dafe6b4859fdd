-- `judge::judge_constant_row` meets its contract. Assumes nothing.
use Rattle.std.proofs.Common.{sym}
use Rattle.format.specs.RefusalLaws.{first_fails, zero_unless}
use Rattle.format.specs.File.Format.{constant_tag, constant_body, constant_row}
use Rattle.format.proofs.Judging.{handed, refused_then, refuses, gives, content_refused, content_passed}
use Rattle.format.proofs.judge.judge_constant_row.Goals as goal

pub returns-in_err-body : goal.returns-in_err-body
unfolding constant_row
returns-in_err-body c =
    let j = rw c.from.ensures at c.in_err-body.ensures in
    handed _ c.from_residual.ensures.1 (refused_then _ _ _ j.refusal_is)

pub returns-then-not-entries_below : goal.returns-then-not-entries_below
unfolding constant_row
returns-then-not-entries_below c =
    let j = rw c.from.ensures at c.in_ok-body.ensures in
    refuses (content_refused constant_tag (constant_body c.args.p c.args.n) j _ (first_fails _ _ _ (sym c.if-not-entries_below.ensures)))

pub returns : goal.returns
unfolding constant_row
returns c =
    let j = rw c.from.ensures at c.in_ok-body.ensures in
    gives (content_passed constant_tag (constant_body c.args.p c.args.n) j (zero_unless _ _ (sym c.if-not-entries_below.ensures))) j.given.rest_is.bytes_are
