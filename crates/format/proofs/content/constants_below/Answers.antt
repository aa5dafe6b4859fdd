-- `content::constants_below` meets its contract. Assumes nothing.
use Rattle.std.proofs.Common.{arith, rules, tests, ltb, ap, ◌∙◌}
use Rattle.format.specs.Refusals.{constant_test}
use Rattle.format.specs.ListLaws.{largest_below}
use Rattle.format.proofs.Entries.{all_from_parts}
use Rattle.format.proofs.content.constants_below.Goals as goal

pub returns : goal.returns
unfolding constant_test
returns c =
    let cut = c.chunks.ensures in
    all_from_parts (λ x. ltb x c.args.p) _ _ (λ x b q l k. search (rules, tests, largest_below)) _ _ (omega (arith, cut.size)) c.all.ensures.ran ∙ ap (constant_test c.args.p) cut.rest
