-- `content::parameters_within` meets its contract. Assumes nothing.
use Rattle.std.proofs.Common.{arith, rules, tests, refl, ◌∙◌, length, get_or, min}
use Rattle.std.proofs.lemmas.Iterator.{YieldsList-from_range}
use Rattle.std.proofs.lemmas.Iterator.Search.{all_from_yields_List}
use Rattle.columns.specs.Columns.{within}
use Rattle.columns.specs.ColumnSets.{row_numbers}
use Rattle.format.specs.Refusals.{parameter_test}
use Rattle.format.specs.ListLaws.{front_passes}
use Rattle.format.proofs.content.parameters_within.Goals as goal

pub returns : goal.returns
unfolding parameter_test
returns c =
    let rows = row_numbers c.args.parameters.now in
    all_from_yields_List (λ r. within c.args.n (get_or rows r 0)) _ _ _ c.all.ensures.ran (YieldsList-from_range 0 c.rows_below.result (min c.args.b (length rows)) refl (omega (arith, c.rows_below.ensures))) (λ x b q k. search (rules, tests))
    ∙ front_passes (within c.args.n) c.args.b rows
