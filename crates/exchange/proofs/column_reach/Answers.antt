-- `exchange::column_reach` meets its contract: the tableau shows the constants, and `reach_rows` does the rest. Assumes nothing.
use Rattle.std.proofs.Common.{◌≡◌, true, refl, sym, ◌∙◌, rules, arith}
use Rattle.columns.specs.ColumnSets.{whole}
use Rattle.columns.specs.Words.Sets.{whole_below}
use Rattle.models.specs.Lent.{constants_lent, rows_lent}
use Rattle.exchange.specs.ReachCall.{ReachShown}
use Rattle.exchange.specs.Solve.{admits}
use Rattle.exchange.specs.SolveLaws.{Admissible}
use Rattle.exchange.proofs.AdmissionLaws.{fresh, admitted, of_shown}
use Rattle.exchange.proofs.column_reach.Goals.{Else-not-is_admissible}
use Rattle.exchange.proofs.column_reach.Goals as goal

taken : (c : Else-not-is_admissible) → admits c.args.model.now c.args.offered ≡ true
taken c = sym c.is_admissible.ensures ∙ c.if-not-is_admissible.false

good : (c : Else-not-is_admissible) → let m = c.args.model.now in Admissible m.p m.n m.a m.b (whole c.args.offered) (constants_lent m) (rows_lent m)
good c = admitted _ _ _ _ _ _ _ (taken c)

pub fill-requires : goal.fill-requires
fill-requires c =
    let f = (good (goal.at.fill-requires c).Else-not-is_admissible).fits in
    (refl, f.columns, f.constant_rows, f.constants_lent)

pub overflow_cast-admitted : goal.overflow_cast-admitted
overflow_cast-admitted c = omega (arith, (good (goal.at.overflow_cast-admitted c).Else-not-is_admissible).short_prime)

pub overflow_cast-state : goal.overflow_cast-state
overflow_cast-state c = omega (arith, (good (goal.at.overflow_cast-state c).Else-not-is_admissible).fits.columns)

pub reach_rows-requires : goal.reach_rows-requires
reach_rows-requires c =
    let g = good (goal.at.reach_rows-requires c).Else-not-is_admissible in
    (fresh _ _ g c.fill.ensures.0 c.fill.ensures.1 refl c.inverses_of.ensures, g.inside)

pub returns : goal.returns
returns c =
    let m = c.args.model.now in
    let e = taken (goal.at.returns c).Else-not-is_admissible in
    record {
      is_admissible = e;
      for_each = of_shown m.p m.n m.a m.b (whole c.args.offered) (constants_lent m) (rows_lent m) e c.fill.new.t c.fill.ensures.1 (whole_below c.args.offered (search (rules, c.well_formed)))
          (λ M. ReachShown M c.reach_rows.result) c.reach_rows.ensures;
    }
