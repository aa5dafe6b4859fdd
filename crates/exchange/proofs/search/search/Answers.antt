-- `exchange::search::search` meets its contract. Assumes nothing.
use Rattle.std.proofs.Common.{◌≡◌, ◌≢◌, ◌<◌, sym, ap, ◌∙◌, arith}
use borrow.Author.Tests.{eqb-true, eqb-false}
use Rattle.counting.specs.Sets.{#}
use Rattle.counting.specs.Counts.{#-le}
use Rattle.columns.specs.Columns.{width, members}
use Rattle.columns.specs.ColumnSets.{whole}
use Rattle.columns.specs.Words.SetLaws.{union_more}
use Rattle.exchange.proofs.SearchingLaws.{reaching_start, reaching_more, ended, final}
use Rattle.exchange.proofs.search.search.Goals.{After-union-reached}
use Rattle.exchange.proofs.search.search.Goals as goal

-- the columns that a turn brings
grown : (c : After-union-reached) → # width (members (whole c.loop-column.reached)) < # width (members (whole c.union-reached.result))
grown c =
    let some : # width (members (whole c.difference-front.result)) ≢ 0 = eqb-false _ 0 (sym c.is_empty.ensures ∙ c.if-is_empty.false) in
    rw c.union-reached.ensures (union_more width _ _ (λ z. some (ap (# width) c.difference-front.ensures ∙ z)))

pub loop-column-init : goal.loop-column-init
loop-column-init c = record { brought = omega arith; reaching = λ E s h b. reaching_start s (members (whole c.args.start)) E b }

pub returns-in-Free : goal.returns-in-Free
returns-in-Free c = λ E s h b. ended s _ E h (c.loop-column.invariant.reaching E s h b) _ _ c.in-Free.ensures

pub returns-then-is_empty : goal.returns-then-is_empty
returns-then-is_empty c =
    let none_new : # width (members (whole c.difference-front.result)) ≡ 0 = eqb-true _ 0 (sym c.is_empty.ensures ∙ c.if-is_empty.true) in
    λ E s h b. final s _ E h (c.loop-column.invariant.reaching E s h b) c.in-OwnedBy.ensures (omega arith) (rw c.difference-front.ensures at none_new)

pub overflow_add-depth : goal.overflow_add-depth
overflow_add-depth c = omega (arith, grown (goal.at.overflow_add-depth c).After-union-reached, #-le width (members (whole c.union-reached.result)), c.loop-column.invariant.brought)

pub loop-column-smaller : goal.loop-column-smaller
loop-column-smaller c = omega (arith, grown (goal.at.loop-column-smaller c).After-union-reached, #-le width (members (whole c.union-reached.result)))

pub loop-column-preserved : goal.loop-column-preserved
loop-column-preserved c = record {
  brought = omega (arith, grown (goal.at.loop-column-preserved c).After-union-reached, c.loop-column.invariant.brought);
  reaching = λ E s h b. rw (c.union-reached.ensures, c.difference-front.ensures) (reaching_more s _ E h (c.loop-column.invariant.reaching E s h b) c.in-OwnedBy.ensures);
}
