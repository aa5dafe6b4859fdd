-- `acceptance::set_sum`: the three terms of the sum, each by what its call ensures. Assumes nothing.
use Rattle.std.proofs.Common.{rules, arith, ◌≤◌}
use Rattle.counting.specs.Sets.{touching}
use Rattle.counting.specs.Counts.{#-le}
use Rattle.columns.specs.Columns.{members}
use Rattle.rank.specs.ListedModel.{parameter_at}
use Rattle.columns.specs.ColumnSets.{whole, Fits}
use Rattle.columns.specs.Words.Sets.{whole_below}
use Rattle.models.specs.Lent.{constants_lent, rows_lent}
use Rattle.format.specs.TestLaws.{constants_accepted}
use Rattle.acceptance.proofs.SumLaws.{size_most, rank_most, sum_added}
use Rattle.acceptance.proofs.set_sum.Goals.{After-touching_rows-touched}
use Rattle.acceptance.proofs.set_sum.Goals as goal

two_terms : (c : After-touching_rows-touched) → let m = c.args.model.now in (c.constant_rank-rank.result ≤ m.n) × (c.touching_rows-touched.result ≤ m.b)
two_terms c =
    let m = c.args.model.now in
    let fits : Fits c.args.set = search rules in (
      omega (arith, c.constant_rank-rank.ensures, rank_most m.n (whole c.args.set) (whole_below c.args.set fits) c.requires.1 m.p m.a (constants_lent m)),
      omega (arith, c.touching_rows-touched.ensures, #-le m.b (touching m.n (parameter_at (rows_lent m)) (members (whole c.args.set)))),
    )

pub constant_rank-rank-requires : goal.constant_rank-rank-requires
constant_rank-rank-requires c = (constants_accepted c.requires.0, c.requires.1)

pub overflow_add-result : goal.overflow_add-result
overflow_add-result c = omega (arith, two_terms (goal.at.overflow_add-result c).After-touching_rows-touched, c.requires.0.n_most, c.requires.0.b_most)

pub overflow_sub-result : goal.overflow_sub-result
overflow_sub-result c =
    let fits : Fits c.args.set = search rules in
    omega (arith, c.size.ensures, size_most c.args.model.now.n (whole c.args.set) (whole_below c.args.set fits) c.requires.1)

pub overflow_add-result-2 : goal.overflow_add-result-2
overflow_add-result-2 c = omega (arith, two_terms (goal.at.overflow_add-result-2 c).After-touching_rows-touched, c.requires.0.n_most, c.requires.0.b_most)

pub returns : goal.returns
returns c =
    let m = c.args.model.now in
    let fits : Fits c.args.set = search rules in
    let w = sum_added m.n (whole c.args.set) (whole_below c.args.set fits) c.requires.1 m.p m.a (constants_lent m) m.b (rows_lent m) c.constant_rank-rank.ensures c.touching_rows-touched.ensures in
    (omega (arith, c.size.ensures, w), whole_below c.args.set fits)
