-- `degree::descent::solve_tight`: the tight part is a model, and the solver's answer is its.
use Rattle.std.proofs.Common.{rules, arith, ◌≡◌, ℕ, ◌<◌, ◌≤◌, length, get_or, true, sym, ap, ◌∙◌}
use mathlib.Core.Bool.{true≢false}
use Rattle.limits.specs.Limits.{most_rows, most_constants}
use Rattle.counting.specs.Sets.{Set}
use Rattle.columns.specs.ColumnSets.{row_numbers}
use Rattle.columns.specs.Words.Rows.{most_words_rows}
use Rattle.columns.specs.Words.SetLaws.{upto_iff}
use Rattle.exchange.specs.Solve.{admits}
use Rattle.degree.proofs.TightLaws.{tight_taken, tight_shown}
use Rattle.degree.proofs.RoundLaws.{heights_small}
use Rattle.degree.proofs.descent.solve_tight.Goals.{Start, After-solve}
use Rattle.degree.proofs.descent.solve_tight.Goals as goal

-- the heights are small
low : (c : Start) → (x : ℕ) → x < c.args.model.now.n → get_or c.args.bounds.now.heights x 0 ≤ 60000
low c x l = omega (arith, heights_small _ _ _ _ _ _ _ _ _ _ _ _ _ c.requires.2 x l)

pub weights-weights-requires : goal.weights-weights-requires
weights-weights-requires c =
    let n = c.args.model.now.n in
    let d = c.requires.2 in
    λ x e.
    let l : x < n = (upto_iff n x (omega (arith, d.ready.columns))).0 (sym (ap (λ (S : Set). S x) c.below-all.ensures) ∙ e) in
    (omega (arith, l, d.ready.columns), omega (arith, l, d.ready.column_powers_lent), omega (arith, l, d.height_count, d.ready.columns), low (goal.at.weights-weights-requires c).Start x l)

pub tight_parameters-rows-requires : goal.tight_parameters-rows-requires
tight_parameters-rows-requires c =
    let d = c.requires.2 in (
      d.ready.columns,
      omega (arith, d.ready.square, d.ready.columns),
      omega (arith, d.ready.square, d.ready.columns),
      d.ready.rows_within,
      d.ready.powers_lent,
      low (goal.at.tight_parameters-rows-requires c).Start,
    )

admitted : (c : After-solve) → admits c.unnumbered-part.result c.below-all.result ≡ true
admitted c =
    let m = c.args.model.now in
    let d = c.requires.2 in
    let long : length c.tight_constants.new.out ≡ most_constants = search (rules, c.tight_constants.ensures.0) in
    let many : length (row_numbers c.tight_parameters-rows.result) ≡ most_rows = most_words_rows _ (search (rules, c.tight_parameters-rows.type_inv)) in
    rw c.unnumbered-part.ensures
    (tight_taken m.p m.n m.a m.b c.requires.0 c.args.constants.now (row_numbers m.parameters.now) m.powers.rows.now m.powers.columns.now m.powers.parameters.now d.ready
    c.args.bounds.now.levels c.args.bounds.now.heights c.weights-weights.result _ c.below-all.ensures (c.weights-weights.ensures m.n) _ _ c.tight_constants.ensures.1 c.tight_parameters-rows.ensures long many)

pub unreachable-requires : goal.unreachable-requires
unreachable-requires c = true≢false (sym (admitted (goal.at.unreachable-requires c).After-solve) ∙ c.in_default.ensures)

pub returns : goal.returns
returns c =
    let m = c.args.model.now in
    λ Q k d.
    (rw c.unnumbered-part.ensures at c.in-Some.ensures).for_each _ _ _
    (tight_shown m.p m.n m.a m.b Q c.args.constants.now (row_numbers m.parameters.now) m.powers.rows.now m.powers.columns.now m.powers.parameters.now d.ready
    c.args.bounds.now.levels c.args.bounds.now.heights c.weights-weights.result _ c.below-all.ensures (c.weights-weights.ensures m.n) _ _ c.tight_constants.ensures.1 c.tight_parameters-rows.ensures)
