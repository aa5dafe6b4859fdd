-- `reason::explain`: the short set of the second call is the reason, and where no row touches it, the column depends on the others. Assumes nothing.
use Rattle.std.proofs.Common.{rules, arith, refl, sym, ◌∙◌, ◌≡◌, ℕ, List, true}
use mathlib.Core.Bool.{true≢false}
use Rattle.columns.specs.ColumnSets.{Fits}
use Rattle.listed_models.specs.ListedModel.{listed_model}
use Rattle.models.specs.Lent.{constants_lent, rows_lent}
use Rattle.blocking.specs.ReasonLaws.{second_call}
use Rattle.exchange.specs.Solve.{SolvedBy, admits}
use Rattle.exchange.specs.DependenceCall.{outcome_of}
use Rattle.exchange.specs.declared.Dependence.{Dependence}
use Rattle.exchange.specs.declared.Dependence.TheVariants.{Independent, DependsOn, HeldDependent}
use Rattle.format.specs.TestLaws.{constants_accepted}
use Rattle.layered.proofs.AnswerLaws.{accepted_askable}
use Rattle.reason.proofs.AnswerLaws.{drawn_taken, drawn_shown, reason_number, reason_is, touched, not_touched, no_multipliers, others_below, depends_on_them, their_multipliers}
use Rattle.reason.proofs.explain.Goals.{After-solve, In-Some}
use Rattle.reason.proofs.explain.Goals as goal

-- outcome 1 is that of a column that depends on the others
depends_on : (d : Dependence) → outcome_of d ≡ 1 → ((ms : List ℕ) → d ≡ DependsOn ms → ⊥) → ⊥
depends_on Independent e other = omega (arith, e)
depends_on (DependsOn ms) e other = other ms refl
depends_on HeldDependent e other = omega (arith, e)

admitted : (c : After-solve) → admits c.args.model.now c.with.result ≡ true
admitted c = drawn_taken c.requires _ c.with.ensures

pub unreachable-requires : goal.unreachable-requires
unreachable-requires c = true≢false (sym (admitted (goal.at.unreachable-requires c).After-solve) ∙ c.in_default.ensures)

short_fits : (c : In-Some) → Fits c.in-Some.s.short
short_fits c = search (rules, c.solve.type_inv)

-- the answer of the solver
solved_by : (c : In-Some) → let m = c.args.model.now in SolvedBy (second_call (listed_model m.p m.n m.a m.b (constants_lent m) (rows_lent m)) c.args.column) c.in-Some.s
solved_by c = c.in-Some.ensures.for_each _ _ _ (drawn_shown c.requires _ c.with.ensures)

pub returns-then-rows-ne0 : goal.returns-then-rows-ne0
returns-then-rows-ne0 c =
    let s = (goal.at.returns-then-rows-ne0 c).In-Some in
    let u = c.requires in
    let e = touched u _ (short_fits s) (solved_by s) _ c.touching_rows-rows.ensures (λ z. omega (arith, z, c.if-rows-ne0.true)) in
    record {
      no_refusal = refl;
      answer = record {
        set_number = reason_number u _ (short_fits s) (solved_by s);
        set_is = reason_is u _ (short_fits s) (solved_by s);
        is_given = e;
        multipliers_are = no_multipliers u _ (short_fits s) (solved_by s) e;
      };
    }

pub unreachable-requires-in_default-column_dependence : goal.unreachable-requires-in_default-column_dependence
unreachable-requires-in_default-column_dependence c =
    let s = (goal.at.unreachable-requires-in_default-column_dependence c).In-Some in
    let inside = others_below c.requires _ (short_fits s) (solved_by s) _ c.without-others.ensures in
    true≢false (sym (accepted_askable (constants_accepted c.requires.accepted) _ _ inside c.requires.below) ∙ c.in_default-column_dependence.ensures)

pub unreachable-requires-in_default-dependence : goal.unreachable-requires-in_default-dependence
unreachable-requires-in_default-dependence c =
    let s = (goal.at.unreachable-requires-in_default-dependence c).In-Some in
    let u = c.requires in
    let e = not_touched u _ (short_fits s) (solved_by s) _ c.touching_rows-rows.ensures c.if-rows-ne0.false in
    depends_on _ (depends_on_them u _ (short_fits s) (solved_by s) _ c.without-others.ensures e c.in-Some-column_dependence.ensures.is_shown) c.in_default-dependence.not-DependsOn

pub returns : goal.returns
returns c =
    let s = (goal.at.returns c).In-Some in
    let u = c.requires in
    let e = not_touched u _ (short_fits s) (solved_by s) _ c.touching_rows-rows.ensures c.if-rows-ne0.false in
    record {
      no_refusal = refl;
      answer = record {
        set_number = reason_number u _ (short_fits s) (solved_by s);
        set_is = reason_is u _ (short_fits s) (solved_by s);
        is_given = e;
        multipliers_are = their_multipliers u _ (short_fits s) (solved_by s) _ c.without-others.ensures e (rw c.in-DependsOn.is at c.in-Some-column_dependence.ensures.is_shown);
      };
    }
