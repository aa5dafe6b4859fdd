-- `fields::put_parameter_rows` meets its contract. Assumes nothing.
use Rattle.std.specs.Prelude.{ℕ, List, ◌+◌, ◌-◌, ◌*◌, ◌≤◌, ◌<◌, ◌≡◌, ◌++◌, length, get_or, take, drop}
use mathlib.Core.Option.{Option}
use Rattle.std.proofs.Common.{arith, ap}
use Rattle.columns.specs.ColumnSets.{row_numbers}
use Rattle.models.specs.Lent.{lent_numbers}
use Rattle.format.specs.Refusals.{numbers_room}
use Rattle.format.specs.TestLaws.{area_reads}
use Rattle.format.specs.File.Steps.{parameter_bytes, number_bytes, rows_bytes, Put}
use Rattle.format.specs.OverLaws.{Wrote, wrote_none}
use Rattle.format.proofs.Puts.{wrote_put, put_all, room_left}
use Rattle.writer.proofs.Rows.{numbers_from, own_numbers, own_none, own_row, row_end, row_within, rows_first, rows_next, rows_done}
use Rattle.writer.proofs.fields.put_parameter_rows.Goals.{in-Some, in_default}
use Rattle.writer.proofs.fields.put_parameter_rows.Goals as goal

-- behind row r its numbers are due, and then the rows that follow
row_put : (n b r : ℕ) (ws : List ℕ) (ns : Option (List ℕ)) {all out d e : List ℕ} {at k : ℕ} → r < b → b ≤ length ws
    → Wrote all (rows_bytes n (drop r (take b ws)) (numbers_from (r * n) ns)) out d at → Put (parameter_bytes n (get_or ws r 0)) (take (length d - at) (drop at d)) e k
    → Wrote all (own_numbers n (get_or ws r 0) r ns ++ rows_bytes n (drop (r + 1) (take b ws)) (numbers_from ((r + 1) * n) ns)) out (take at d ++ (e ++ drop (length d - at) (drop at d))) (at + k)
row_put n b r ws ns h l i p = wrote_put _ _ _ i (rows_next n b r ws ns h l) p

pub loop-r-init : goal.loop-r-init
loop-r-init c = rw (rows_first c.args.n (take c.args.b (row_numbers c.args.parameters.now)) (lent_numbers c.args.numbers)) (wrote_none _ _ c.requires.5)

pub put_parameter_row-at-requires : goal.put_parameter_row-at-requires
put_parameter_row-at-requires c =
    let l = c.loop-r in
    rw c.row-set.ensures (room_left _ _ l.invariant (rows_next c.args.n c.args.b l.r (row_numbers c.args.parameters.now) (lent_numbers c.args.numbers) c.loop-r-test.true c.requires.2)).1

pub overflow_add-at : goal.overflow_add-at
overflow_add-at c =
    let w = row_put c.args.n c.args.b c.loop-r.r (row_numbers c.args.parameters.now) (lent_numbers c.args.numbers) c.loop-r-test.true c.requires.2 c.loop-r.invariant (rw c.row-set.ensures at c.put_parameter_row-at.ensures) in
    omega (arith, w.room, w.same, c.well_formed)

pub slice_bounds-put_number_row-count : goal.slice_bounds-put_number_row-count
slice_bounds-put_number_row-count c = omega (arith, (row_put c.args.n c.args.b c.loop-r.r (row_numbers c.args.parameters.now) (lent_numbers c.args.numbers) c.loop-r-test.true c.requires.2 c.loop-r.invariant (rw c.row-set.ensures at c.put_parameter_row-at.ensures)).room)

pub slice_bounds-put_number_row-start : goal.slice_bounds-put_number_row-start
slice_bounds-put_number_row-start c = omega (arith, (row_put c.args.n c.args.b c.loop-r.r (row_numbers c.args.parameters.now) (lent_numbers c.args.numbers) c.loop-r-test.true c.requires.2 c.loop-r.invariant (rw c.row-set.ensures at c.put_parameter_row-at.ensures)).room)

pub slice_bounds-put_number_row-end-in-Some : goal.slice_bounds-put_number_row-end-in-Some
unfolding numbers_room
slice_bounds-put_number_row-end-in-Some c =
    let held : c.args.b * c.args.n ≤ length c.in-Some.lent.now = (area_reads _ _).0 (rw c.in-Some.is at c.requires.4) in
    omega (arith, row_end c.args.n c.args.b c.loop-r.r c.loop-r-test.true)

pub put_number_row-at-requires : goal.put_number_row-at-requires
unfolding numbers_room
put_number_row-at-requires c =
    let l = c.loop-r in
    let n = c.args.n in
    let ws = row_numbers c.args.parameters.now in
    let w = get_or ws l.r 0 in
    let rest = rows_bytes n (drop (l.r + 1) (take c.args.b ws)) (numbers_from ((l.r + 1) * n) (lent_numbers c.args.numbers)) in
    let behind = row_put n c.args.b l.r ws (lent_numbers c.args.numbers) c.loop-r-test.true c.requires.2 l.invariant (rw c.row-set.ensures at c.put_parameter_row-at.ensures) in
    let held : c.args.b * c.args.n ≤ length c.in-Some.lent.now = (area_reads _ _).0 (rw c.in-Some.is at c.requires.4) in
    let row = own_row n c.args.b l.r c.in-Some.lent.now c.loop-r-test.true held in
    let own : own_numbers n w l.r (lent_numbers c.args.numbers) ≡ number_bytes n w (take n (drop (l.r * n) c.in-Some.lent.now)) = ap (λ x. own_numbers n w l.r (lent_numbers x)) c.in-Some.is in
    rw (row.0, row.1, c.row-set.ensures) (c.requires.0, row_within n c.args.b l.r ws c.loop-r-test.true c.requires.2 c.requires.3, (room_left _ rest behind (ap (λ (t : List ℕ). t ++ rest) own)).1)

pub overflow_add-at-in-Some : goal.overflow_add-at-in-Some
unfolding numbers_room
overflow_add-at-in-Some c =
    let l = c.loop-r in
    let n = c.args.n in
    let ws = row_numbers c.args.parameters.now in
    let w = get_or ws l.r 0 in
    let rest = rows_bytes n (drop (l.r + 1) (take c.args.b ws)) (numbers_from ((l.r + 1) * n) (lent_numbers c.args.numbers)) in
    let behind = row_put n c.args.b l.r ws (lent_numbers c.args.numbers) c.loop-r-test.true c.requires.2 l.invariant (rw c.row-set.ensures at c.put_parameter_row-at.ensures) in
    let held : c.args.b * c.args.n ≤ length c.in-Some.lent.now = (area_reads _ _).0 (rw c.in-Some.is at c.requires.4) in
    let row = own_row n c.args.b l.r c.in-Some.lent.now c.loop-r-test.true held in
    let own : own_numbers n w l.r (lent_numbers c.args.numbers) ≡ number_bytes n w (take n (drop (l.r * n) c.in-Some.lent.now)) = ap (λ x. own_numbers n w l.r (lent_numbers x)) c.in-Some.is in
    let after = wrote_put _ rest _ behind (ap (λ (t : List ℕ). t ++ rest) own) (rw (row.0, row.1, c.row-set.ensures) at c.put_number_row-at.ensures) in
    omega (arith, after.room, after.same, c.well_formed)

pub loop-r-preserved : goal.loop-r-preserved
unfolding numbers_room
loop-r-preserved c =
    let l = c.loop-r in
    let n = c.args.n in
    let ws = row_numbers c.args.parameters.now in
    let w = get_or ws l.r 0 in
    let rest = rows_bytes n (drop (l.r + 1) (take c.args.b ws)) (numbers_from ((l.r + 1) * n) (lent_numbers c.args.numbers)) in
    let behind = row_put n c.args.b l.r ws (lent_numbers c.args.numbers) c.loop-r-test.true c.requires.2 l.invariant (rw c.row-set.ensures at c.put_parameter_row-at.ensures) in
    elim c.match-numbers.branch [
      | in-Some v ↦
          let held : c.args.b * c.args.n ≤ length v.in-Some.lent.now = (area_reads _ _).0 (rw v.in-Some.is at c.requires.4) in
          let row = own_row n c.args.b l.r v.in-Some.lent.now c.loop-r-test.true held in
          let own : own_numbers n w l.r (lent_numbers c.args.numbers) ≡ number_bytes n w (take n (drop (l.r * n) v.in-Some.lent.now)) = ap (λ x. own_numbers n w l.r (lent_numbers x)) v.in-Some.is in
          rw (v.out-is, v.at-is) (wrote_put _ rest _ behind (ap (λ (t : List ℕ). t ++ rest) own) (rw (row.0, row.1, c.row-set.ensures) at v.put_number_row-at.ensures))
      | in_default v ↦ let own = own_none n w l.r c.args.numbers v.in_default.not-Some in rw (v.out-is, v.at-is) (rw own at behind)
    ]

pub returns : goal.returns
returns c = put_all c.loop-r.invariant (rows_done c.args.n c.args.b c.loop-r.r (row_numbers c.args.parameters.now) (lent_numbers c.args.numbers) c.loop-r-test.false)
