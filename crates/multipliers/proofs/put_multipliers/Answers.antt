-- `multipliers::put_multipliers`: the multipliers stand behind the outcome.
use Rattle.std.proofs.Common.{rules, arith, ◌≡◌, ◌*◌, [], ◌∷◌, append-nil, refl, sym, length}
use Rattle.limits.specs.Limits.{most_columns}
use Rattle.format.specs.OverLaws.{wrote_none, wrote_set, wrote_room, wrote_all}
use Rattle.format.specs.File.Format.{entry_bytes}
use Rattle.format.specs.File.BodyLaws.{entries_back}
use Rattle.format.proofs.Puts.{room_left, room_accepts}
use Rattle.host.proofs.AreaLaws.{put_refused, put_done}
use Rattle.multipliers.specs.Bytes.{multipliers_length, multipliers_bytes, multipliers_numbers}
use Rattle.multipliers.proofs.put_multipliers.Goals as goal

pub returns-then-out-lt-MULTIPLIERS_LENGTH : goal.returns-then-out-lt-MULTIPLIERS_LENGTH
returns-then-out-lt-MULTIPLIERS_LENGTH c = put_refused multipliers_length _ _ c.if-out-lt-MULTIPLIERS_LENGTH.true

pub returns : goal.returns
returns c =
    let r = multipliers_numbers c.args.answer.now in
    let m = entry_bytes r.multipliers in
    let many : length r.multipliers ≡ most_columns = search rules in
    let long : length m ≡ 2 * most_columns = omega (arith, many, (entries_back r.multipliers).0) in
    let w = wrote_set r.outcome m (wrote_none (r.outcome ∷ m) c.args.out.now (omega (arith, long))) refl in
    rw (room_accepts c.put_each.ensures (room_left m [] w (sym (append-nil m))).1)
    (put_done multipliers_length (multipliers_bytes r) _ c.if-out-lt-MULTIPLIERS_LENGTH.false
    (wrote_all (wrote_room m [] _ (2 * most_columns) w (sym (append-nil m)) c.put_each.ensures.bytes_are long) refl))
