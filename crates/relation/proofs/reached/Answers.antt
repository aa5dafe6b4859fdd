-- A turn reads the row of one column of the front. Assumes nothing.
use Rattle.std.proofs.Common.{rules, ◌≡◌, sym, ◌∙◌, ap, true≢false, eqb-true}
use Rattle.counting.specs.Sets.{Set, ◌∪◌, #}
use Rattle.columns.specs.Columns.{width, members, removed}
use Rattle.columns.specs.ColumnSets.{whole}
use Rattle.columns.specs.Words.Sets.{columns_below}
use Rattle.columns.specs.Words.SetLaws.{nothing_in}
use Rattle.relation.proofs.ReachLaws.{Ahead, reaching_start, reaching_done, reaching_more, inside_start, inside_more, unread_less}
use Rattle.relation.proofs.reached.Goals as goal
use Rattle.relation.proofs.reached.Goals.{then-contains, else-contains}

-- what is left of the front
left : (c : goal.After-union-found) → Ahead (members (whole c.loop-done.front)) (members (whole c.loop-done.found)) (members (whole c.row-row.result)) c.pick_done-y.result c.contains.result
    (members (whole c.without-front-in-loop-done.result))
left c = let y = c.pick_done-y.result in elim c.if-contains.branch [
  | then-contains w ↦ record {
    if_done = λ e. c.without-front-in-loop-done.ensures ∙ ap (λ (S : Set). removed S y) (rw w.ahead-is w.difference-ahead.ensures);
    if_not = λ e. absurd (true≢false (sym w.if-contains.true ∙ e));
  }
  | else-contains w ↦ record {
    if_done = λ e. absurd (true≢false (sym e ∙ w.if-contains.false));
    if_not = λ e. c.without-front-in-loop-done.ensures ∙ ap (λ (S : Set). removed S y)
        (rw w.ahead-is (w.union-ahead.ensures ∙ ap (λ (S : Set). members (whole c.loop-done.front) ∪ S) w.difference.ensures));
  }
]

pub loop-done-init : goal.loop-done-init
loop-done-init c = rw (c.without-front.ensures, c.with-found.ensures) (record {
  fits = search rules;
  inside = inside_start _ _;
  reaching = λ R p. reaching_start R c.args.x c.requires.0 _ (λ y. ap (λ w. members w y) c.row-direct.ensures ∙ p.left c.args.x c.requires.1 y);
})

pub loop-done-smaller : goal.loop-done-smaller
loop-done-smaller c = let y = c.pick_done-y.ensures in
    rw c.union-found.ensures (unread_less _ _ _ _ _ _ y.0 y.1 c.loop-done.invariant.inside (left c))

pub loop-done-preserved : goal.loop-done-preserved
loop-done-preserved c =
    let row = ap members c.row-row.ensures in
    let y = c.pick_done-y.result in
    rw c.union-found.ensures (record {
      fits = search (rules, c.without-front-in-loop-done.type_inv);
      inside = inside_more _ _ _ _ _ _ c.loop-done.invariant.inside (left c);
      reaching = λ R p. reaching_more R _ _ _ _ _ _ _ (c.loop-done.invariant.reaching R p) c.pick_done-y.ensures.1
          (λ e. rw row (p.finished y (sym c.contains.ensures ∙ e)))
          (λ e v. ap (λ (S : Set). S v) row ∙ p.left y (sym c.contains.ensures ∙ e) v)
          (left c);
    })

pub returns : goal.returns
returns c =
    let gone : # width (members (whole c.loop-done.front)) ≡ 0 = eqb-true _ 0 (sym c.is_empty.ensures ∙ c.loop-done-test.false) in
    λ R p. reaching_done R c.args.x _ _ (c.loop-done.invariant.reaching R p)
    (λ z e. nothing_in width _ gone z (columns_below c.loop-done.front z c.loop-done.invariant.fits e) e)
