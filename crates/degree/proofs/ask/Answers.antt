-- `degree::ask`: the tests one after another, and then what the descent finds.
use Rattle.std.proofs.Common.{arith, ◌≡◌, ℕ, true, refl, sym, ◌∙◌}
use Rattle.std.proofs.Math.Option.{none}
use mathlib.Core.Bool.{true≢false}
use Rattle.columns.specs.ColumnSets.{row_numbers}
use Rattle.rank.specs.Modulus.{field_of}
use Rattle.rank.specs.Layered.Rank.{rank}
use Rattle.degrees.specs.Dynamics.{layered}
use Rattle.exchange.specs.Solve.{SolvedBy, admits}
use Rattle.format.specs.TestLaws.{accepted_model}
use Rattle.layered.proofs.AnswerLaws.{accepted_taken}
use Rattle.layered.proofs.FileLaws.{call_refused, call_answered}
use Rattle.degree.specs.Code.{model_with, Ready, ConstantsShown, tableau_of}
use Rattle.degree.proofs.TightLaws.{all_in}
use Rattle.degree.proofs.AnswerLaws.{accepted_ready, accepted_within, rows_refused, rank_refused, powers_refused, question_passes}
use Rattle.degree.proofs.FileLaws.{degree_refused}
use Rattle.format.specs.declared.refusals.Refusal.TheVariants.{NoDegree}
use Rattle.degree.proofs.ask.Goals.{After-solve, In-Some, Else-s-model}
use Rattle.degree.proofs.ask.Goals as goal

pub returns-then-model : goal.returns-then-model
returns-then-model c =
    let m = c.args.model.now in
    λ Q shown. call_refused (rows_refused m.p m.n m.a m.b Q (row_numbers m.parameters.now) m.powers.rows.now m.powers.columns.now m.powers.parameters.now (λ e. absurd (omega arith))) (λ z. omega arith) (degree_refused NoDegree)

pub are_low-requires : goal.are_low-requires
are_low-requires c = let h = c.requires.0 in (c.requires.1, c.requires.2, h.n_most, c.requires.3, accepted_within h)

pub returns-then-not-are_low : goal.returns-then-not-are_low
returns-then-not-are_low c =
    let m = c.args.model.now in
    λ Q shown. call_refused (powers_refused m.p m.n m.a m.b Q (row_numbers m.parameters.now) m.powers.rows.now m.powers.columns.now m.powers.parameters.now (sym c.are_low.ensures ∙ c.if-not-are_low.true)) (λ z. omega arith) (degree_refused NoDegree)

admitted : (c : After-solve) → admits c.unnumbered-lent.result c.below-all.result ≡ true
admitted c = rw c.unnumbered-lent.ensures (accepted_taken _ _ _ _ _ _ _ c.below-all.ensures (accepted_model _ _ _ _ _ _ none c.requires.0))

pub unreachable-requires : goal.unreachable-requires
unreachable-requires c = true≢false (sym (admitted (goal.at.unreachable-requires c).After-solve) ∙ c.in_default.ensures)

-- the solver's answer
solved_by : (c : In-Some) → let m = c.args.model.now in (Q : ℕ → ℕ → (field_of m.p).F) → ConstantsShown m.p m.n m.a Q c.args.constants.now
    → SolvedBy (layered (model_with m.p m.n m.a m.b Q (row_numbers m.parameters.now) m.powers.rows.now m.powers.columns.now m.powers.parameters.now)) c.in-Some.s
solved_by c Q shown =
    (rw c.unnumbered-lent.ensures at c.in-Some.ensures).for_each Q _ (λ x. true)
    (record { constants = shown; parameters = λ r x lr lx. refl; columns = λ x l. sym (all_in c.below-all.ensures c.requires.0.n_most x l) })

pub returns-then-s-model : goal.returns-then-s-model
returns-then-s-model c =
    let m = c.args.model.now in
    λ Q shown. call_refused (rank_refused m.p m.n m.a m.b Q (row_numbers m.parameters.now) m.powers.rows.now m.powers.columns.now m.powers.parameters.now (λ r. c.if-s-model.true ((solved_by (goal.at.returns-then-s-model c).In-Some Q shown).is_rank ∙ r))) (λ z. omega arith) (degree_refused NoDegree)

-- where the descent begins: what it needs
ready : (c : Else-s-model) → let m = c.args.model.now in Ready m.p m.n m.a m.b c.args.constants.now (row_numbers m.parameters.now) m.powers.rows.now m.powers.columns.now m.powers.parameters.now
ready c = accepted_ready c.requires.0 c.requires.1 c.requires.2 c.requires.3 c.if-model.false (sym c.are_low.ensures ∙ c.if-not-are_low.false)

-- the rank is n
full : (c : In-Some) → c.in-Some.s.rank ≡ c.args.model.now.n → let m = c.args.model.now in (Q : ℕ → ℕ → (field_of m.p).F) → ConstantsShown m.p m.n m.a Q c.args.constants.now
    → rank (layered (model_with m.p m.n m.a m.b Q (row_numbers m.parameters.now) m.powers.rows.now m.powers.columns.now m.powers.parameters.now)) ≡ m.n
full c e Q shown = sym (solved_by c Q shown).is_rank ∙ e

pub descend-requires : goal.descend-requires
descend-requires c =
    let e = (goal.at.descend-requires c).Else-s-model in
    let m = c.args.model.now in
    let Q = tableau_of m.p m.n c.args.constants.now in
    (ready e, (Q, λ i x li lx. refl, full (goal.at.descend-requires c).In-Some c.if-s-model.false Q (λ i x li lx. refl)))

pub returns : goal.returns
returns c =
    let m = c.args.model.now in
    λ Q shown.
    let r = full (goal.at.returns c).In-Some c.if-s-model.false Q shown in
    call_answered (sym (question_passes m.p m.n m.a m.b Q (row_numbers m.parameters.now) m.powers.rows.now m.powers.columns.now m.powers.parameters.now c.if-model.false (sym c.are_low.ensures ∙ c.if-not-are_low.false) r)) refl (c.descend.ensures Q shown r)
