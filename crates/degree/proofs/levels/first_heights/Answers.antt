-- `degree::levels::first_heights` meets its contract: each turn lowers the heights for one row, and then the columns' powers do. Assumes nothing.
use Rattle.std.proofs.Common.{ℕ, ◌≡◌, ◌<◌, ◌+◌, rules, arith, sym, ap, ◌∙◌}
use Rattle.limits.specs.Limits.{most_columns}
use Rattle.counting.specs.Sets.{Set, ◌∈◌}
use Rattle.columns.specs.Columns.{members}
use Rattle.columns.specs.ColumnSets.{whole}
use Rattle.columns.specs.Words.Operations.{within_iff}
use Rattle.columns.specs.Words.Sets.{columns_below}
use Rattle.columns.specs.Words.SetLaws.{upto_iff}
use Rattle.exchange.proofs.CellLaws.{row_within}
use Rattle.degree.proofs.LevelLaws.{low_start}
use Rattle.degree.proofs.levels.first_heights.Goals as goal

pub loop-r-init : goal.loop-r-init
loop-r-init c = record { same_length = search rules; low = low_start most_columns (omega arith) }

pub lower_row-requires : goal.lower_row-requires
lower_row-requires c =
    let m = c.args.model.now in
    let d = c.requires.1 in
    let r = c.loop-r.r in
    let l : r < m.b = omega arith in
    let below : (x : ℕ) → x ∈ members (whole c.row.result) → x < m.n =
    λ x e. (within_iff m.n (whole c.row.result)).0 (rw c.row.ensures (d.rows_within r l)) x (columns_below c.row.result x (search (rules, c.row.type_inv)) e) e in (
      c.loop-r.invariant.same_length,
      (λ x e. (omega (arith, below x e, d.columns), omega (arith, below x e, row_within r m.b m.n l, d.powers_lent), d.powers_low r x l (below x e) (rw c.row.ensures at e))),
      c.loop-r.invariant.low,
    )

pub lower_row-requires-2 : goal.lower_row-requires-2
lower_row-requires-2 c =
    let m = c.args.model.now in
    let d = c.requires.1 in
    let below : (x : ℕ) → x ∈ members (whole c.below.result) → x < m.n =
    λ x e. (upto_iff m.n x (omega (arith, d.columns))).0 (sym (ap (λ (S : Set). S x) c.below.ensures) ∙ e) in (
      c.loop-r.invariant.same_length,
      (λ x e. let z : 0 + x ≡ x = omega arith in (omega (arith, below x e, d.columns), omega (arith, below x e, d.column_powers_lent), rw z (d.column_powers_low x (below x e)))),
      c.loop-r.invariant.low,
    )
