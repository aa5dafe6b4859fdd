-- `degree::levels::sum_powers` meets its contract. Assumes nothing.
use Rattle.std.proofs.Common.{ℕ, ◌∙◌, rules, tests, arith, take, get_or}
use Rattle.std.proofs.lemmas.Iterator.{YieldsList-from_slice, YieldsList-from_map}
use Rattle.std.proofs.lemmas.Iterator.Consumers.{sum_by_from_yields_List, fits_by_from_yields_list}
use Rattle.degrees.specs.Totals.{total_below}
use Rattle.degree.proofs.ListLaws.{sum_is_total}
use Rattle.degree.proofs.levels.sum_powers.Goals as goal

pub sum-requires-clause-fits : goal.sum-requires-clause-fits
sum-requires-clause-fits c =
    let a = c.args in
    let xs = a.powers.now in
    let e = sum_is_total xs a.k (omega (arith, c.requires)) in
    let few = total_below a.k 15 (λ i. get_or xs i 0) c.requires.2 in
    fits_by_from_yields_list (λ (x : ℕ). x) (take a.k xs) c.map.result _ (YieldsList-from_map _ (λ (x : ℕ). x) (YieldsList-from_slice (take a.k xs) cc) c.map.ensures.closure (λ x r q k. search (rules, tests))) (omega (arith, e, few, c.requires))

pub returns : goal.returns
returns c =
    let a = c.args in
    let xs = a.powers.now in
    sum_by_from_yields_List (λ (x : ℕ). x) (take a.k xs) c.map.result _ c.sum.ensures.ran (YieldsList-from_map _ (λ (x : ℕ). x) (YieldsList-from_slice (take a.k xs) cc) c.map.ensures.closure (λ x r q k. search (rules, tests)))
    ∙ sum_is_total xs a.k (omega (arith, c.requires))
