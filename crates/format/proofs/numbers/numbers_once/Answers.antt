-- `numbers::numbers_once` meets its contract. Assumes nothing.
use Rattle.std.proofs.Common.{ℕ, ◌≡◌, ◌+◌, ◌-◌, ◌<◌, List, ◌++◌, arith, refl, ap, ◌∙◌, length, get_or, take, drop, length-drop, drop_of_length-le}
use mathlib.Core.List.{flatten}
use lib.Seq.{length-take-le}
use Rattle.columns.specs.Columns.{members}
use Rattle.columns.specs.ColumnSets.{row_numbers}
use Rattle.format.specs.ListLaws.{first_left}
use Rattle.format.specs.Numbers.{picked, numbers_in}
use Rattle.format.specs.NumberLaws.{zeros, keeps_none}
use Rattle.format.proofs.Rows.{rows_room}
use Rattle.format.proofs.Meeting.{met_all, met_stops, met_next, met_done}
use Rattle.format.proofs.numbers.numbers_once.Goals as goal

-- the numbers of row r are the first of those that are left
next : (n b r : ℕ) (ws rest : List ℕ) → r < b → r < length ws
    → flatten (numbers_in n (drop r (take b ws)) rest) ≡ picked (members (get_or ws r 0)) 0 (take n rest) ++ flatten (numbers_in n (drop (r + 1) (take b ws)) (drop n rest))
unfolding numbers_in flatten
next n b r ws rest l h = ap (λ (vs : List ℕ). flatten (numbers_in n vs rest)) (first_left b r ws l h)

pub loop-r-init : goal.loop-r-init
loop-r-init c =
    let all : c.args.b - 0 ≡ c.args.b = omega arith in
    (met_all (keeps_none _ (λ i. zeros 1024 i)), rw all c.requires.1, refl)

pub split_at-requires : goal.split_at-requires
split_at-requires c = (rows_room c.args.n c.args.b c.loop-r.r (length c.loop-r.rest.now) c.loop-r-test.true c.loop-r.invariant.1).0

pub returns-then-not-meet_row : goal.returns-then-not-meet_row
returns-then-not-meet_row c =
    let i = c.loop-r.invariant in
    let m = rw (c.row.ensures, c.split_at.ensures.front, c.if-not-meet_row.true) at c.meet_row.ensures in
    met_stops i.0 _ _ (next c.args.n c.args.b c.loop-r.r (row_numbers c.args.parameters.now) c.loop-r.rest.now c.loop-r-test.true (omega arith)) m

pub loop-r-preserved : goal.loop-r-preserved
loop-r-preserved c =
    let i = c.loop-r.invariant in
    let m = rw (c.row.ensures, c.split_at.ensures.front, c.if-not-meet_row.false) at c.meet_row.ensures in
    let room = rows_room c.args.n c.args.b c.loop-r.r (length c.loop-r.rest.now) c.loop-r-test.true i.1 in
    let step = next c.args.n c.args.b c.loop-r.r (row_numbers c.args.parameters.now) c.loop-r.rest.now c.loop-r-test.true (omega arith) in
    rw c.split_at.ensures.back (met_next i.0 _ _ step m, rw length-drop room.1, c.meet_row.ensures.same_length ∙ i.2)

pub returns : goal.returns
unfolding numbers_in flatten
returns c =
    let l = c.loop-r in
    let ws = row_numbers c.args.parameters.now in
    met_done l.invariant.0 (ap (λ (vs : List ℕ). flatten (numbers_in c.args.n vs l.rest.now)) (drop_of_length-le (take c.args.b ws) {i = l.r} (omega (arith, length-take-le c.args.b ws c.requires.0, c.loop-r-test.false))))
