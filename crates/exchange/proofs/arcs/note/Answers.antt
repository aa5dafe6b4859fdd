-- `exchange::arcs::note` meets its contract, by what its callees ensure. Assumes nothing.
use Rattle.std.proofs.Common.{ℕ, ap, ◌∙◌}
use Rattle.counting.specs.Sets.{◌∪◌}
use Rattle.columns.specs.Columns.{members}
use Rattle.columns.specs.ColumnSets.{whole}
use Rattle.exchange.proofs.ArcLaws.{noted_owned, noted_free}
use Rattle.exchange.proofs.arcs.note.Goals as goal

pub returns-then-y-n : goal.returns-then-y-n
returns-then-y-n c =
    let a = c.args in
    rw c.put_row.ensures
    (noted_owned a.n a.y (members (whole a.touching)) a.into.now (members (whole a.ends)) (whole c.union.result) c.if-y-n.true
    (c.union.ensures ∙ ap (λ (w : ℕ). members w ∪ members (whole a.touching)) c.row.ensures))

pub returns : goal.returns
returns c =
    let a = c.args in
    rw c.union-2.ensures (noted_free a.n a.y (members (whole a.touching)) a.into.now (members (whole a.ends)) c.if-y-n.false)
