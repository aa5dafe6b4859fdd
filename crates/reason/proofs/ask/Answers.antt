-- `reason::ask`: the column is refused, or it is unplaced and explained. Assumes nothing.
use Rattle.std.proofs.Common.{arith, refl, sym, ◌∙◌, ◌≡◌, true}
use Rattle.std.proofs.Math.Option.{none}
use mathlib.Core.Bool.{true≢false}
use Rattle.listed_models.specs.ListedModel.{listed_model}
use Rattle.models.specs.Lent.{constants_lent, rows_lent}
use Rattle.rank.specs.Layered.Model.{Model}
use Rattle.rank.specs.Layered.Rank.{placed}
use Rattle.exchange.specs.Solve.{SolvedBy, admits}
use Rattle.format.specs.TestLaws.{accepted_model}
use Rattle.layered.proofs.AnswerLaws.{shows_model, accepted_taken}
use Rattle.layered.proofs.FileLaws.{call_refused, call_answered}
use Rattle.reason.proofs.QuestionLaws.{beyond_refused, placed_refused, unplaced_passes}
use Rattle.reason.proofs.ask.Goals.{After-solve, After-contains}
use Rattle.reason.proofs.ask.Goals as goal

admitted : (c : After-solve) → admits c.args.model.now c.below-all.result ≡ true
admitted c = accepted_taken _ _ _ _ _ _ _ c.below-all.ensures (accepted_model _ _ _ _ _ _ none c.requires)

abbrev asked : After-contains → Model
asked c = let m = c.args.model.now in listed_model m.p m.n m.a m.b (constants_lent m) (rows_lent m)

-- the answer of the solver
solved_by : (c : After-contains) → SolvedBy (asked c) c.in-Some.s
solved_by c =
    let m = c.args.model.now in
    c.in-Some.ensures.for_each _ _ _ (shows_model m.p m.n m.a m.b (constants_lent m) (rows_lent m) _ c.below-all.ensures (omega (arith, c.requires.n_most)))

-- whether the column was found there is whether it is placed
found : (c : After-contains) → c.contains.result ≡ placed (asked c) c.args.column
found c = c.contains.ensures ∙ (solved_by c).is_placed c.args.column

pub returns-then-column-n : goal.returns-then-column-n
returns-then-column-n c =
    let m = c.args.model.now in
    call_refused (beyond_refused (listed_model m.p m.n m.a m.b (constants_lent m) (rows_lent m)) c.args.column c.if-column-n.true) (λ z. omega (arith, z))
    (record { no_set = refl; not_given = refl; no_multipliers = refl })

pub unreachable-requires : goal.unreachable-requires
unreachable-requires c = true≢false (sym (admitted (goal.at.unreachable-requires c).After-solve) ∙ c.in_default.ensures)

pub returns-then-contains : goal.returns-then-contains
returns-then-contains c =
    let k = (goal.at.returns-then-contains c).After-contains in
    call_refused (placed_refused (asked k) c.args.column c.if-column-n.false (sym (found k) ∙ c.if-contains.true)) (λ z. omega (arith, z))
    (record { no_set = refl; not_given = refl; no_multipliers = refl })

pub explain-requires : goal.explain-requires
explain-requires c =
    let k = (goal.at.explain-requires c).After-contains in
    record { accepted = c.requires; below = c.if-column-n.false; are_placed = (solved_by k).is_placed; unplaced = sym (found k) ∙ c.if-contains.false }

pub returns : goal.returns
returns c =
    let k = (goal.at.returns c).After-contains in
    let zero = unplaced_passes (asked k) c.args.column c.if-column-n.false (sym (found k) ∙ c.if-contains.false) in
    call_answered (sym zero) refl c.explain.ensures.answer
