-- Each turn closes the row of one column, and after the last none is left. Assumes nothing.
use Rattle.std.proofs.Common.{rules, ◌≡◌, sym, ◌∙◌, eqb-true}
use Rattle.counting.specs.Sets.{#}
use Rattle.columns.specs.Columns.{width, members}
use Rattle.columns.specs.ColumnSets.{whole}
use Rattle.columns.specs.Words.Sets.{columns_below, empty_none}
use Rattle.columns.specs.Words.SetLaws.{removed_less, nothing_in}
use Rattle.relation.specs.Relations.{row_of}
use Rattle.relation.proofs.TurnLaws.{closing_start, closing_more, closing_done}
use Rattle.relation.proofs.close.Goals as goal

pub loop-rest-init : goal.loop-rest-init
loop-rest-init c = closing_start _ _ _ (empty_none c.empty-done.ensures)

pub reached-all-requires : goal.reached-all-requires
reached-all-requires c = let x = c.pick_spread-x.ensures in (x.0, c.loop-rest.invariant.apart _ x.1)

pub loop-rest-smaller : goal.loop-rest-smaller
loop-rest-smaller c = let x = c.pick_spread-x.ensures in rw c.without-rest.ensures (removed_less width _ _ x.0 x.1)

pub loop-rest-preserved : goal.loop-rest-preserved
loop-rest-preserved c = let x = c.pick_spread-x.ensures in
    rw (c.without-rest.ensures, c.with-done.ensures, c.put_row.ensures)
    (closing_more _ _ _ _ _ c.loop-rest.invariant _ x.0 x.1 _ (c.reached-all.ensures (row_of c.args.rows.now) c.loop-rest.invariant.partly)
    (λ y e. columns_below c.reached-all.result y (search (rules, c.reached-all.type_inv)) e))

pub returns : goal.returns
returns c =
    let gone : # width (members (whole c.loop-rest.rest)) ≡ 0 = eqb-true _ 0 (sym c.is_empty.ensures ∙ c.loop-rest-test.false) in
    closing_done _ _ _ _ _ c.loop-rest.invariant
    (λ x e. nothing_in width _ gone x (columns_below c.args.over x (search rules) (c.loop-rest.invariant.inside x e)) e)
