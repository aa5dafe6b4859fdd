-- `acceptance::seat_rows`: row after row, each beside those that have their seats. Assumes nothing.
use Rattle.std.proofs.Common.{rules, arith, ◌≡◌, ◌∙◌, length}
use Rattle.limits.specs.Limits.{most_rows, no_column}
use Rattle.columns.specs.ColumnSets.{Fits}
use Rattle.columns.specs.Words.Sets.{whole_below}
use Rattle.claims.proofs.ClaimLaws.{read_below}
use Rattle.acceptance.proofs.SeatLaws.{one_more_seated, row_unfit, all_serve, all_seated}
use Rattle.acceptance.proofs.seat_rows.Goals as goal

pub returns-in_err-seated : goal.returns-in_err-seated
returns-in_err-seated c =
    let here = c.from.ensures ∙ read_below c.args.rows.now c.loop-r.r 0 no_column (omega (arith, c.loop-r-test.true)) in
    rw c.from_residual.ensures (row_unfit _ _ _ _ _ _ _ c.loop-r.invariant (rw here at c.in_err-seated.ensures))

pub loop-r-preserved : goal.loop-r-preserved
loop-r-preserved c =
    let here = c.from.ensures ∙ read_below c.args.rows.now c.loop-r.r 0 no_column (omega (arith, c.loop-r-test.true)) in
    one_more_seated _ _ _ _ _ _ _ c.loop-r.invariant _ (rw here at c.in_ok-seated.ensures)

pub returns : goal.returns
returns c =
    let rows = c.args.rows.now in
    let long : length rows ≡ most_rows = search (rules, c.fits-rows) in
    let at : c.loop-r.r ≡ most_rows = omega (arith, c.loop-r.auto.r-end, c.loop-r-test.false, long) in
    let all = rw at at c.loop-r.invariant in
    let fits : Fits c.args.side = search rules in
    record { side_small = whole_below c.args.side fits; serve = all_serve _ _ _ _ rows long _ all; columns_are = all_seated _ _ _ _ rows long _ all }
