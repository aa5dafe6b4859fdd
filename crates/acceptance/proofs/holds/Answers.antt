-- `acceptance::holds` meets its contract, test by test. Assumes nothing.
use Rattle.std.proofs.Common.{rules, arith, sym, ◌∙◌, ◌≡◌, ◌<◌, ◌^◌, true}
use mathlib.Core.Bool.{true≢false}
use borrow.Author.Tests.{eqb-true, eq-eqb}
use Rattle.columns.specs.Columns.{width, within}
use Rattle.columns.specs.ColumnSets.{whole, Fits}
use Rattle.columns.specs.Words.Sets.{whole_below}
use Rattle.models.specs.Lent.{constants_lent, rows_lent}
use Rattle.format.specs.TestLaws.{constants_accepted}
use Rattle.acceptance.proofs.HoldLaws.{not_accepted, side_inside, set_inside, rows_fit, as_many, independent, summed, accepted}
use Rattle.acceptance.proofs.holds.Goals.{In-Some}
use Rattle.acceptance.proofs.holds.Goals as goal

-- the number of the columns that have a seat fits its type
seats_small : (c : In-Some) → whole c.in-Some.seated < 2 ^ width
seats_small c = let fits : Fits c.in-Some.seated = search (rules, c.seat_rows.type_inv) in whole_below c.in-Some.seated fits

-- they have no column that the model lacks
side_in : (c : In-Some) → within c.args.model.now.n (whole c.args.claim.now.constants) ≡ true
side_in c = sym c.within.ensures ∙ c.if-not-within.false

set_in : (c : In-Some) → within c.args.model.now.n (whole c.args.claim.now.set) ≡ true
set_in c = sym c.within-2.ensures ∙ c.if-not-within-2.false

pub returns-then-not-within : goal.returns-then-not-within
returns-then-not-within c =
    let m = c.args.model.now in
    not_accepted (λ h. true≢false (sym (side_inside _ _ _ _ (constants_lent m) (rows_lent m) _ _ _ _ h) ∙ sym c.within.ensures ∙ c.if-not-within.true))

pub returns-then-not-within-2 : goal.returns-then-not-within-2
returns-then-not-within-2 c =
    let m = c.args.model.now in
    not_accepted (λ h. true≢false (sym (set_inside _ _ _ _ (constants_lent m) (rows_lent m) _ _ _ _ h) ∙ sym c.within-2.ensures ∙ c.if-not-within-2.true))

pub returns-in_default : goal.returns-in_default
returns-in_default c =
    let m = c.args.model.now in
    not_accepted (λ h. c.in_default.ensures (rows_fit _ _ _ _ (constants_lent m) (rows_lent m) _ _ _ _ h))

pub returns-then-size-rank : goal.returns-then-size-rank
returns-then-size-rank c =
    let m = c.args.model.now in
    let s = (goal.at.returns-then-size-rank c).In-Some in
    let fit = c.in-Some.ensures in
    not_accepted (λ h. omega (
      arith,
      c.if-size-rank.true,
      c.size.ensures,
      c.from-rank.ensures,
      as_many _ _ _ _ (constants_lent m) (rows_lent m) _ _ _ _ fit.side_small (side_in s) fit.serve _ (seats_small s) fit.columns_are h,
    ))

pub constant_rank-requires : goal.constant_rank-requires
constant_rank-requires c = (constants_accepted c.requires, side_in (goal.at.constant_rank-requires c).In-Some)

pub returns-then-constant_rank-size : goal.returns-then-constant_rank-size
returns-then-constant_rank-size c =
    let m = c.args.model.now in
    let s = (goal.at.returns-then-constant_rank-size c).In-Some in
    let fit = c.in-Some.ensures in
    not_accepted (λ h. omega (
      arith,
      c.if-constant_rank-size.true,
      c.constant_rank.ensures,
      c.size-2.ensures,
      independent _ _ _ _ (constants_lent m) (rows_lent m) _ _ _ _ fit.side_small (side_in s) fit.serve _ (seats_small s) fit.columns_are h,
    ))

pub returns : goal.returns
returns c =
    let m = c.args.model.now in
    let k = c.args.claim.now in
    let s = (goal.at.returns c).In-Some in
    let fit = c.in-Some.ensures in (
      λ e. accepted m.p m.n m.a m.b (constants_lent m) (rows_lent m) k.rank (whole k.constants) k.rows (whole k.set) fit.side_small (side_in s) fit.serve
          (whole c.in-Some.seated) (seats_small s) fit.columns_are (set_in s) c.set_sum.ensures.1
          (omega (arith, c.size.ensures, c.from-rank.ensures, c.if-size-rank.false))
          (omega (arith, c.constant_rank.ensures, c.size-2.ensures, c.if-constant_rank-size.false))
          (omega (arith, c.set_sum.ensures.0, c.from-rank.ensures, eqb-true _ _ e)),
      λ h. eq-eqb _ _ (omega (
        arith,
        c.set_sum.ensures.0,
        c.from-rank.ensures,
        summed m.p m.n m.a m.b (constants_lent m) (rows_lent m) k.rank (whole k.constants) k.rows (whole k.set) fit.side_small (side_in s) fit.serve (whole c.in-Some.seated) (seats_small s) fit.columns_are h,
      )),
    )
