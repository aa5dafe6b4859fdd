-- `layered::solution_of`: a model that fails a test beforehand, or that the solver does not take, is refused.
use Rattle.std.specs.Prelude.{◌≡◌, ◌≢◌, true, Option, None, Some, MatchOption}
use Rattle.std.proofs.Common.{sym, ◌∙◌}
use Rattle.std.proofs.Math.Option.{none}
use mathlib.Core.Bool.{true≢false}
use Rattle.columns.specs.ColumnSets.{whole}
use Rattle.columns.specs.declared.ColumnSet.{ColumnSet}
use Rattle.models.specs.Lent.{rows_lent}
use Rattle.models.specs.declared.LentModel.{LentModel}
use Rattle.exchange.specs.declared.Solution.{Solution}
use Rattle.exchange.specs.Solve.{Solves}
use Rattle.format.specs.TestLaws.{model_accepted}
use Rattle.layered.specs.Answers.{offered_model_refusal}
use Rattle.layered.specs.Beforehand.{beforehand, SolutionGiven}
use Rattle.layered.proofs.AnswerLaws.{accepted_beforehand, accepted_admissible, offered_accepted}
use Rattle.layered.proofs.solution_of.Goals as goal

solution_given : (m : LentModel) (offered : ColumnSet) (o : Option Solution) → beforehand m.p m.n m.b (rows_lent m) ≡ true → Solves m offered o
    → MatchOption o (offered_model_refusal m (whole offered) ≢ 0) (λ s. SolutionGiven m offered s)
solution_given m offered None b h = λ z. let ok = offered_accepted _ _ _ _ _ _ _ z in
    absurd (true≢false (sym (accepted_admissible (model_accepted _ _ _ _ _ _ none ok.0) _ ok.1) ∙ h))
solution_given m offered (Some s) b h = record { passes = b; is_answer = h }

pub returns-then-not-passes_beforehand : goal.returns-then-not-passes_beforehand
returns-then-not-passes_beforehand c = λ z.
    absurd (true≢false (sym (accepted_beforehand _ _ _ _ _ _ (offered_accepted _ _ _ _ _ _ _ z).0) ∙ sym c.passes_beforehand.ensures ∙ c.if-not-passes_beforehand.true))

pub returns : goal.returns
returns c = solution_given _ _ _ (sym c.passes_beforehand.ensures ∙ c.if-not-passes_beforehand.false) c.solve.ensures
