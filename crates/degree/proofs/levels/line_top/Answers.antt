-- `degree::levels::line_top` meets its contract, by what the tops of both kinds ensure. Assumes nothing.
use Rattle.std.proofs.Common.{ℕ, ◌≡◌, ◌≤◌, ◌<◌, ◌+◌, ◌*◌, ◌-◌, arith, sym, ap, ◌∙◌, subst, get_or}
use Rattle.counting.specs.Bools.{and_in, and_left, and_right}
use Rattle.counting.specs.Sets.{Set, ◌∩◌, ◌∈◌}
use Rattle.columns.specs.Columns.{members}
use Rattle.columns.specs.ColumnSets.{whole, row_numbers}
use Rattle.exchange.proofs.CellLaws.{row_within}
use Rattle.degree.specs.Code.{Top, ParameterRow}
use Rattle.degree.proofs.TopLaws.{top_as, within_part}
use Rattle.degree.proofs.levels.line_top.Goals.{After-intersection-row}
use Rattle.degree.proofs.levels.line_top.Goals as goal

-- the columns of the row in the set
met : (c : After-intersection-row) (x : ℕ) → let m = c.args.model.now in
    members (whole c.intersection-row.result) x ≡ (members (get_or (row_numbers m.parameters.now) (c.args.q - m.a) 0) ∩ members (whole c.args.set)) x
met c x = ap (λ (S : Set). S x) (c.intersection-row.ensures ∙ ap (λ (w : ℕ). members w ∩ members (whole c.args.set)) c.row.ensures)

-- which is a row of parameters
row_lent : (c : After-intersection-row) → c.args.model.now.a ≤ c.args.q → let m = c.args.model.now in
    ParameterRow m.n (whole c.intersection-row.result) ((c.args.q - m.a) * m.n) m.powers.parameters.now c.args.heights.now
row_lent c l =
    let m = c.args.model.now in
    let lines = c.requires.0 in
    let there : c.args.q - m.a < m.b = omega (arith, c.requires.1) in
    record {
      columns = lines.columns;
      row_within = within_part _ _ _ (λ x e. and_left _ _ (sym (met c x) ∙ e)) (lines.rows_within (c.args.q - m.a) there);
      powers_lent = omega (arith, row_within (c.args.q - m.a) m.b m.n there, lines.powers_lent);
      heights_lent = lines.heights_lent;
      heights_low = lines.heights_low;
    }

pub parameter_top-requires : goal.parameter_top-requires
parameter_top-requires c = (c.args.model.now.n, row_lent (goal.at.parameter_top-requires c).After-intersection-row c.if-q-model.false)

pub returns : goal.returns
returns c =
    let i = (goal.at.returns c).After-intersection-row in
    let m = c.args.model.now in
    let ws = row_numbers m.parameters.now in
    let row = members (get_or ws (c.args.q - m.a) 0) in
    let set = members (whole c.args.set) in (
      (λ l. absurd (omega arith)),
      λ r e. subst (λ (r : ℕ). Top m.n (λ x. (x ∈ members (get_or ws r 0)) × (x ∈ set)) (λ x. get_or m.powers.parameters.now (r * m.n + x) 0 + get_or c.args.heights.now x 0) c.parameter_top.result) (omega arith)
          (top_as (λ x m. (and_left (row x) (set x) (sym (met i x) ∙ m), and_right (row x) (set x) (sym (met i x) ∙ m))) (λ x m. met i x ∙ and_in m.0 m.1) (c.parameter_top.ensures m.n (row_lent i c.if-q-model.false))),
    )
