-- `degree::descent::first_bounds` meets its contract: the tops over all columns are levels over the first heights. Assumes nothing.
use Rattle.std.proofs.Common.{◌≡◌, ◌<◌, length, rules, arith, sym, ap, ◌∙◌}
use Rattle.limits.specs.Limits.{most_columns}
use Rattle.counting.specs.Sets.{Set}
use Rattle.columns.specs.Words.SetLaws.{upto_iff}
use Rattle.degree.proofs.RoundLaws.{descending_starts}
use Rattle.degree.proofs.descent.first_bounds.Goals as goal

pub weights-weights-requires : goal.weights-weights-requires
weights-weights-requires c =
    let n = c.args.model.now.n in
    let r = c.requires in
    let many : length c.first_heights-heights.result ≡ most_columns = search (rules, c.first_heights-heights.type_inv) in
    λ x e.
    let l : x < n = (upto_iff n x (omega (arith, r.columns))).0 (sym (ap (λ (S : Set). S x) c.below-all.ensures) ∙ e) in
    (omega (arith, r.columns), omega (arith, r.column_powers_lent), omega (arith, many, r.columns), omega (arith, (c.first_heights-heights.ensures x l).1))

pub returns : goal.returns
returns c = λ Q shown full.
    descending_starts _ _ _ _ Q _ _ _ _ _ c.requires shown full _ c.below-all.ensures _ _ c.weights-weights.result c.first_heights-heights.ensures (c.weights-weights.ensures c.args.model.now.n) c.tops-levels.ensures
    (search (rules, c.tops-levels.type_inv)) (search (rules, c.first_heights-heights.type_inv))
