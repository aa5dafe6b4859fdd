-- `acceptance::constant_rank`: the rank of the model without parameter rows. Assumes nothing.
use Rattle.std.proofs.Common.{rules, sym, ◌∙◌, ◌≡◌, true}
use mathlib.Core.Bool.{true≢false}
use Rattle.columns.specs.ColumnSets.{whole, Fits, row_numbers}
use Rattle.columns.specs.Words.Sets.{whole_below}
use Rattle.models.specs.Lent.{constants_lent}
use Rattle.exchange.specs.Solve.{admits}
use Rattle.layered.proofs.AnswerLaws.{accepted_admissible}
use Rattle.acceptance.proofs.SumLaws.{constants_shown, rank_shown}
use Rattle.acceptance.proofs.constant_rank.Goals.{After-solve}
use Rattle.acceptance.proofs.constant_rank.Goals as goal

admitted : (c : After-solve) → admits c.unnumbered-alone.result c.args.set ≡ true
unfolding row_numbers
admitted c = rw c.unnumbered-alone.ensures (accepted_admissible c.requires.0 (whole c.args.set) c.requires.1)

pub unreachable-requires : goal.unreachable-requires
unreachable-requires c = true≢false (sym (admitted (goal.at.unreachable-requires c).After-solve) ∙ c.in_default.ensures)

pub returns : goal.returns
unfolding row_numbers
returns c =
    let m = c.args.model.now in
    let fits : Fits c.args.set = search rules in
    let small = whole_below c.args.set fits in
    let inside = c.requires.1 in
    rank_shown m.n (whole c.args.set) small inside m.p m.a (constants_lent m) c.in-Some.s
    ((rw c.unnumbered-alone.ensures at c.in-Some.ensures).for_each _ _ _ (constants_shown m.n (whole c.args.set) small inside m.p m.a (constants_lent m)))
