-- `degree::powers::first_low` meets its contract. Assumes nothing.
use Rattle.std.proofs.Common.{ℕ, ◌∙◌, rules, tests, take, leb}
use Rattle.std.proofs.lemmas.Iterator.{YieldsList-from_slice}
use Rattle.std.proofs.lemmas.Iterator.Search.{all_from_yields_List}
use Rattle.degree.specs.Answers.{most_power}
use Rattle.degree.proofs.ListLaws.{first_pass}
use Rattle.degree.proofs.powers.first_low.Goals as goal

pub returns : goal.returns
returns c =
    let a = c.args in
    let xs = a.powers.now in
    all_from_yields_List (λ (x : ℕ). leb x most_power) _ _ _ c.all.ensures.ran (YieldsList-from_slice (take a.k xs) cc) (λ x b q k. search (rules, tests))
    ∙ first_pass (λ (x : ℕ). leb x most_power) xs a.k c.requires
