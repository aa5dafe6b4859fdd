-- `host::put_answer` meets its contract: the rows stand behind what every answer begins with. Assumes nothing.
use Rattle.std.proofs.Common.{[], append-nil, refl, sym, arith, rules, length-append, length, ◌≡◌}
use Rattle.limits.specs.Limits.{most_rows}
use Rattle.columns.specs.ColumnSets.{whole}
use Rattle.format.specs.OverLaws.{wrote_first, wrote_all}
use Rattle.host.specs.AnswerBytes.{front_length, front_bytes, answer_length, answer_bytes, answer_numbers}
use Rattle.host.proofs.AreaLaws.{put_refused, put_done, wrote_copied}
use Rattle.host.proofs.put_answer.Goals as goal

pub returns-then-out-lt-ANSWER_LENGTH : goal.returns-then-out-lt-ANSWER_LENGTH
returns-then-out-lt-ANSWER_LENGTH c = put_refused answer_length _ _ c.if-out-lt-ANSWER_LENGTH.true

pub returns : goal.returns
unfolding front_bytes
returns c =
    let r = answer_numbers c.args.answer.now in
    let room = c.if-out-lt-ANSWER_LENGTH.false in
    let long : length c.args.answer.now.rows ≡ most_rows = search rules in
    let front = front_bytes r.verdict r.rank (whole r.placed) (whole r.constants) (whole r.short) in
    let w = wrote_first (answer_bytes r) front r.rows front_length refl (omega (arith, length-append front r.rows)) c.put_front.ensures refl in
    put_done answer_length (answer_bytes r) _ room (wrote_all (wrote_copied r.rows [] _ most_rows w (sym (append-nil r.rows)) c.copy_from_slice.ensures.after long) refl)
