-- `exchange::reach_rows` meets its contract, by what its callees ensure. Assumes nothing.
use Rattle.std.proofs.Common.{rules}
use Rattle.columns.specs.Columns.{members}
use Rattle.columns.specs.ColumnSets.{whole}
use Rattle.columns.specs.Words.Sets.{whole_below}
use Rattle.exchange.specs.Code.State.{rows_of}
use Rattle.exchange.proofs.HeldLaws.{held_shows}
use Rattle.exchange.proofs.ReachLaws.{reach_shown}
use Rattle.exchange.proofs.StateLaws.{fresh_some, fresh_offers}
use Rattle.exchange.proofs.reach_rows.Goals as goal

pub offer_all-placed-requires : goal.offer_all-placed-requires
offer_all-placed-requires c = (c.requires.0.ready, c.requires.0.inverses, fresh_some c.requires.0 (whole c.args.offered) (whole_below c.args.offered (search (rules, c.well_formed))) c.requires.1)

pub returns : goal.returns
returns c =
    let m = c.args.model.now in
    let ws = rows_of m in
    let offers = c.offer_all-placed in
    let t = offers.new.state.cells in
    let o = offers.new.state.owner in
    let all = members (whole c.args.offered) in
    λ G sh k.
    let d = offers.ensures.1 G (fresh_offers c.requires.0 all G sh k) in
    reach_shown m.p m.n m.a m.b ws G t o (members (whole offers.result)) d all k c.requires.0.ready.lengths.columns
    (held_shows m.p m.n m.a m.b ws G t o offers.ensures.0 d.held) (members (whole c.link-ends.result))
    c.join.new.rows c.link-ends.new.into c.join-2.new.rows c.close.new.rows
    (rw c.difference-missing.ensures at c.join.ensures) c.link-ends.ensures c.join-2.ensures c.close.ensures
