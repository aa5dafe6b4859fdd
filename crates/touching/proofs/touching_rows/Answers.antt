-- The rows that touch the set are counted one by one. Assumes nothing.
use Rattle.std.proofs.Common.{rules, arith, ℕ, min, true, false, length, ◌≡◌, refl, ap, ◌∙◌}
use Rattle.counting.specs.Sets.{Set, ◌∩◌, indicator, #}
use Rattle.counting.specs.Counts.{#-next, #-le}
use Rattle.columns.specs.Columns.{members, upto}
use Rattle.columns.specs.ColumnSets.{whole, row_numbers, rows_touching}
use Rattle.columns.specs.Words.Rows.{row_touches}
use Rattle.columns.specs.Words.Sets.{columns_below}
use Rattle.touching.specs.RowCountLaws.{count_touching}
use Rattle.touching.proofs.touching_rows.Goals.{then-touches, else-touches}
use Rattle.touching.proofs.touching_rows.Goals as goal

pub loop-r-init : goal.loop-r-init
unfolding #
loop-r-init c = refl

pub overflow_add-many : goal.overflow_add-many
overflow_add-many c = omega (arith, c.loop-r.invariant, #-le c.loop-r.r (rows_touching (row_numbers c.args.parameters.now) (members (whole c.intersection-inside.result))))

pub loop-r-preserved : goal.loop-r-preserved
unfolding indicator
loop-r-preserved c =
    let l = c.loop-r in
    let S = rows_touching (row_numbers c.args.parameters.now) (members (whole c.intersection-inside.result)) in
    let met : S l.r ≡ c.touches.result = row_touches _ _ _ _ _ c.row.ensures c.touches.ensures in
    elim c.if-touches.branch [
      | then-touches w ↦ omega (arith, w.many-is, l.invariant, #-next l.r S true (met ∙ w.if-touches.true))
      | else-touches w ↦ omega (arith, w.many-is, l.invariant, #-next l.r S false (met ∙ w.if-touches.false))
    ]

pub returns : goal.returns
returns c =
    let ws = row_numbers c.args.parameters.now in
    let S = rows_touching ws (members (whole c.intersection-inside.result)) in
    let done : c.loop-r.r ≡ min c.args.b (length ws) = omega (arith, c.rows_below-end.ensures, c.loop-r.auto.r-end, c.loop-r-test.false) in
    let inside : members (whole c.intersection-inside.result) ≡ members (whole c.args.set) ∩ upto c.args.n = c.intersection-inside.ensures ∙ ap (λ (J : Set). members (whole c.args.set) ∩ J) c.below.ensures in
    c.loop-r.invariant
    ∙ ap (λ (k : ℕ). # k S) done
    ∙ ap (λ (J : Set). # (min c.args.b (length ws)) (rows_touching ws J)) inside
    ∙ count_touching c.args.n c.args.b ws (members (whole c.args.set)) (λ x e. columns_below c.args.set x (search rules) e)
