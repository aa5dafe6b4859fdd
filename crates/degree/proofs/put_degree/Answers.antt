-- `degree::put_degree` meets its contract: the degree, behind it the set, and behind that the rows. Assumes nothing.
use Rattle.std.proofs.Common.{◌≡◌, [], ◌++◌, append-nil, refl, sym, ◌∙◌, arith, rules, length, length-append}
use Rattle.limits.specs.Limits.{most_rows, set_bytes}
use Rattle.columns.specs.Bytes.{bytes_of}
use Rattle.columns.specs.ColumnSets.{whole}
use Rattle.columns.specs.Words.Bytes.{bytes_of_length}
use Rattle.format.specs.OverLaws.{Wrote, wrote_none, wrote_room, wrote_all}
use Rattle.format.proofs.Puts.{room_left, room_accepts}
use Rattle.format.proofs.Refused.{refusal_some}
use Rattle.host.proofs.AreaLaws.{put_refused, put_done, wrote_copied}
use Rattle.std.specs.Prelude.{ℕ, ◌≤◌, List, Ok}
use borrow.Rule.Slice.PartMut.{put_mid}
use Rattle.degree.specs.Shown.{Degree, degree_shown}
use Rattle.degree.specs.Bytes.{degree_length, degree_bytes}
use Rattle.degree.proofs.put_degree.Goals as goal

pub returns-then-out-lt-DEGREE_LENGTH : goal.returns-then-out-lt-DEGREE_LENGTH
returns-then-out-lt-DEGREE_LENGTH c = put_refused degree_length _ _ c.if-out-lt-DEGREE_LENGTH.true

-- the degree is written
begun : (a : Degree) {out e : List ℕ} → degree_length ≤ length out → length a.rows ≡ most_rows → e ≡ bytes_of 2 a.degree
    → Wrote (degree_bytes a) (bytes_of set_bytes (whole a.constants) ++ a.rows) out (put_mid 0 2 out e) 2
begun a {out} {e} room long q =
    let side = bytes_of set_bytes (whole a.constants) in
    let w = wrote_none (degree_bytes a) out (omega (arith, length-append side a.rows, bytes_of_length set_bytes (whole a.constants))) in
    wrote_copied (bytes_of 2 a.degree) (side ++ a.rows) e 2 w refl q refl

-- there is room for the set
pub returns-in_err-put_set : goal.returns-in_err-put_set
returns-in_err-put_set c =
    let a = degree_shown (Ok c.args.answer.now) in
    let long : length a.rows ≡ most_rows = search rules in
    let side = bytes_of set_bytes (whole a.constants) in
    let w = begun a c.if-out-lt-DEGREE_LENGTH.false long (c.copy_from_slice.ensures.after ∙ c.to_le_bytes.ensures) in
    absurd (refusal_some _ (room_accepts c.in_err-put_set.ensures (room_left side a.rows w refl).1))

pub returns : goal.returns
returns c =
    let a = degree_shown (Ok c.args.answer.now) in
    let room = c.if-out-lt-DEGREE_LENGTH.false in
    let long : length c.args.answer.now.rows ≡ most_rows = search rules in
    let side = bytes_of set_bytes (whole a.constants) in
    let w₁ = begun a room long (c.copy_from_slice.ensures.after ∙ c.to_le_bytes.ensures) in
    let w₂ = wrote_room side a.rows _ set_bytes w₁ refl c.in_ok-put_set.ensures.bytes_are (bytes_of_length set_bytes (whole a.constants)) in
    put_done degree_length (degree_bytes a) _ room (wrote_all (wrote_copied a.rows [] _ most_rows w₂ (sym (append-nil a.rows)) c.copy_from_slice-2.ensures.after long) refl)
