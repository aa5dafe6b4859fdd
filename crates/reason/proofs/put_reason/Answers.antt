-- `reason::put_reason`: the set, behind it whether multipliers are given, and the multipliers. Assumes nothing.
use Rattle.std.proofs.Common.{rules, arith, ◌≡◌, ◌≤◌, ℕ, ◌*◌, [], ◌∷◌, ◌++◌, append-nil, length, length-append, refl, sym, ap, ◌∙◌}
use Rattle.limits.specs.Limits.{most_columns, set_bytes}
use Rattle.counting.specs.Sets.{indicator}
use Rattle.columns.specs.Bytes.{bytes_of}
use Rattle.columns.specs.ColumnSets.{whole}
use Rattle.columns.specs.Words.Bytes.{bytes_of_length}
use Rattle.format.specs.OverLaws.{over_room_fits, wrote_first, wrote_set, wrote_room, wrote_all}
use Rattle.format.specs.File.Format.{entry_bytes}
use Rattle.format.specs.File.BodyLaws.{entries_back}
use Rattle.format.proofs.Puts.{room_left, room_accepts}
use Rattle.format.proofs.Refused.{refusal_some}
use Rattle.host.proofs.AreaLaws.{put_refused, put_done}
use Rattle.reason.specs.Bytes.{reason_length, reason_bytes, reason_numbers}
use Rattle.reason.proofs.put_reason.Goals as goal

pub returns-then-out-lt-REASON_LENGTH : goal.returns-then-out-lt-REASON_LENGTH
returns-then-out-lt-REASON_LENGTH c = put_refused reason_length _ _ c.if-out-lt-REASON_LENGTH.true

-- there is room for the set
pub returns-in_err-put_set : goal.returns-in_err-put_set
returns-in_err-put_set c = absurd (refusal_some _ (room_accepts c.in_err-put_set.ensures
    (omega (arith, bytes_of_length set_bytes (whole c.args.answer.now.set), c.if-out-lt-REASON_LENGTH.false))))

pub returns : goal.returns
unfolding indicator
returns c =
    let r = reason_numbers c.args.answer.now in
    let room = c.if-out-lt-REASON_LENGTH.false in
    let many : length r.multipliers ≡ most_columns = search rules in
    let entries = entry_bytes r.multipliers in
    let set = bytes_of set_bytes (whole r.set) in
    let long : length entries ≡ 2 * most_columns = omega (arith, (entries_back r.multipliers).0, many) in
    let set_long = bytes_of_length set_bytes (whole r.set) in
    let fits : length (set ++ (indicator r.given ∷ entries)) ≤ length c.args.out.now = omega (arith, length-append set (indicator r.given ∷ entries), set_long, long, room) in
    let w = wrote_first (reason_bytes r) set (indicator r.given ∷ entries) set_bytes refl fits (c.in_ok-put_set.ensures.bytes_are ∙ over_room_fits set c.args.out.now (omega (arith, set_long, room))) set_long in
    let w' = wrote_set c.from.result entries w (ap (λ (v : ℕ). v ∷ entries) (sym c.from.ensures)) in
    rw (room_accepts c.put_each.ensures (room_left entries [] w' (sym (append-nil entries))).1)
    (put_done reason_length (reason_bytes r) _ room (wrote_all (wrote_room entries [] _ (2 * most_columns) w' (sym (append-nil entries)) c.put_each.ensures.bytes_are long) refl))
