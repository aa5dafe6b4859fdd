-- `exchange::answer` meets its contract, by what its callees ensure. Assumes nothing.
use Rattle.std.proofs.Common.{rules, arith}
use Rattle.columns.specs.Columns.{members}
use Rattle.columns.specs.ColumnSets.{whole}
use Rattle.columns.specs.Words.Sets.{whole_below}
use Rattle.exchange.specs.Code.Offering.{Offers}
use Rattle.exchange.specs.Code.State.{rows_of, Completed}
use Rattle.exchange.proofs.HeldLaws.{held_shows}
use Rattle.exchange.proofs.AnswerLaws.{missing_below, no_free_row, solved}
use Rattle.exchange.proofs.StateLaws.{fresh_some, fresh_offers}
use Rattle.exchange.proofs.answer.Goals.{Start}
use Rattle.exchange.proofs.answer.Goals as goal

-- the model that the arrays themselves show
shown : (c : Start) → let m = c.args.model.now in let s = c.args.state.now in (G : Completed m) × Offers m.p m.n m.a m.b (rows_of m) (members (whole c.args.offered)) s.cells s.owner G
shown c = fresh_some c.requires.0 (whole c.args.offered) (whole_below c.args.offered (search (rules, c.well_formed))) c.requires.1

pub offer_all-placed-requires : goal.offer_all-placed-requires
offer_all-placed-requires c = (c.requires.0.ready, c.requires.0.inverses, shown (goal.at.offer_all-placed-requires c).Start)

pub unreachable-requires : goal.unreachable-requires
unreachable-requires c =
    let m = c.args.model.now in
    let ws = rows_of m in
    let given = shown (goal.at.unreachable-requires c).Start in
    let offers = c.offer_all-placed in
    let t = offers.new.state.cells in
    let o = offers.new.state.owner in
    let in_set = members (whole offers.result) in
    let all = members (whole c.args.offered) in
    let d = offers.ensures.1 given.0 given.1 in
    no_free_row m.p m.n m.a m.b ws given.0 t o in_set d all given.1.columns _ _ _
    (rw c.difference-missing.ensures at (c.in_default.ensures given.0.E d.held.s (held_shows m.p m.n m.a m.b ws given.0 t o offers.ensures.0 d.held)
    (rw c.difference-missing.ensures (missing_below m.p m.n m.a m.b ws given.0 t o in_set d all given.1.columns))))

pub row_columns-rows-requires : goal.row_columns-rows-requires
row_columns-rows-requires c = (c.offer_all-placed.ensures.0.lengths, c.requires.0.parameter_rows)

pub returns : goal.returns
returns c =
    let m = c.args.model.now in
    let ws = rows_of m in
    let offers = c.offer_all-placed in
    let t = offers.new.state.cells in
    let o = offers.new.state.owner in
    let in_set = members (whole offers.result) in
    let all = members (whole c.args.offered) in
    λ G sh k.
    let d = offers.ensures.1 G (fresh_offers c.requires.0 all G sh k) in
    let final = c.in-Reached.ensures G.E d.held.s (held_shows m.p m.n m.a m.b ws G t o offers.ensures.0 d.held) (rw c.difference-missing.ensures (missing_below m.p m.n m.a m.b ws G t o in_set d all k)) in
    rw c.size-rank.ensures
    (solved m.p m.n m.a m.b ws G t o in_set d all k (members (whole c.constant_side-side.result)) c.row_columns-rows.result (omega (arith, c.requires.0.ready.lengths.columns))
    c.constant_side-side.ensures c.row_columns-rows.ensures.1 _ (rw c.difference-missing.ensures at final))
