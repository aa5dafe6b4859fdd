-- `mixed::mixed_rank`: the answer to the layered form, read as one to the mixed model.
use Rattle.std.proofs.Common.{rules, arith, ◌≡◌, ◌≤◌, ◌+◌, true, refl, sym, ap, ◌∙◌}
use mathlib.Core.Bool.{true≢false}
use lib.ListN.{replicate}
use Rattle.limits.specs.Limits.{most_columns}
use Rattle.counting.specs.Sets.{Set}
use Rattle.columns.specs.Columns.{moved_down}
use Rattle.columns.specs.ColumnSets.{Fits, most_words}
use Rattle.columns.specs.Words.Rows.{most_words_rows}
use Rattle.models.specs.declared.LentModel.{LentModel}
use Rattle.mixed.specs.MixedAnswers.{mixed_model_refusal}
use Rattle.models.specs.Lent.{constants_lent, rows_lent, numbers_lent}
use Rattle.exchange.specs.Solve.{SolvedBy, admits}
use Rattle.format.specs.TestLaws.{Accepted}
use Rattle.mixed_models.specs.Mixed.{layered_form, mixed}
use Rattle.layered.proofs.AnswerLaws.{rank_small}
use Rattle.mixed.proofs.MixedAnswerLaws.{form_admissible, shows_form, rank_of_form, mixed_answered, mixed_accepted}
use Rattle.mixed.proofs.mixed_rank.Goals.{After-solve, In-Some}
use Rattle.mixed.proofs.mixed_rank.Goals as goal

-- a question that is not refused
accepted : (m : LentModel) → 0 ≡ mixed_model_refusal m → Accepted m.p m.n m.a m.a (constants_lent m) (rows_lent m) (numbers_lent m) × (m.a + m.n ≤ most_columns)
accepted m e = mixed_accepted m.p m.n m.a m.b (constants_lent m) (rows_lent m) (numbers_lent m) (sym e)

pub fill_constants-requires : goal.fill_constants-requires
fill_constants-requires c = let h = accepted c.args.model.now c.in_ok-judge_mixed.ensures in (refl, h.0.constants_lent, h.0.a_most, h.1)

pub fill_parameters-requires : goal.fill_parameters-requires
fill_parameters-requires c =
    rw (most_words_rows (replicate most_words 0) refl) (accepted c.args.model.now c.in_ok-judge_mixed.ensures).0.a_most

pub overflow_add-a : goal.overflow_add-a
overflow_add-a c = omega (arith, (accepted c.args.model.now c.in_ok-judge_mixed.ensures).1)

-- the solver takes the form,
admitted : (c : After-solve) → admits c.unnumbered-form.result c.below.result ≡ true
admitted c =
    let h = accepted c.args.model.now c.in_ok-judge_mixed.ensures in
    rw c.unnumbered-form.ensures
    (form_admissible _ _ _ _ _ h.0 h.1 _ _ _ c.fill_constants.ensures.0 (c.fill_parameters.ensures.0 ∙ most_words_rows _ refl) c.fill_constants.ensures.1 c.below.ensures)

-- and answers it
form_solved : (c : In-Some) → let m = c.args.model.now in SolvedBy (layered_form (mixed m.p m.a m.n (constants_lent m) (rows_lent m))) c.in-Some.s
form_solved c =
    let h = accepted c.args.model.now c.in_ok-judge_mixed.ensures in
    (rw c.unnumbered-form.ensures at c.in-Some.ensures).for_each _ _ _
    (shows_form _ _ _ _ _ h.0 h.1 _ _ _ c.fill_constants.ensures.0 (c.fill_parameters.ensures.0 ∙ most_words_rows _ refl) c.fill_constants.ensures.1 c.below.ensures c.fill_parameters.ensures.1)

pub unreachable-requires : goal.unreachable-requires
unreachable-requires c = true≢false (sym (admitted (goal.at.unreachable-requires c).After-solve) ∙ c.in_default.ensures)

pub overflow_sub-rank : goal.overflow_sub-rank
overflow_sub-rank c =
    let m = c.args.model.now in
    omega (arith, rank_of_form (mixed m.p m.a m.n (constants_lent m) (rows_lent m)) _ _ _ _ _ (form_solved (goal.at.overflow_sub-rank c).In-Some))

pub overflow_cast-reached : goal.overflow_cast-reached
overflow_cast-reached c =
    let m = c.args.model.now in
    let s = (goal.at.overflow_cast-reached c).In-Some in
    omega (arith, (accepted c.args.model.now c.in_ok-judge_mixed.ensures).1, (form_solved s).is_rank, rank_small (layered_form (mixed m.p m.a m.n (constants_lent m) (rows_lent m))))

pub idle_rows-rows-requires : goal.idle_rows-rows-requires
idle_rows-rows-requires c = (accepted c.args.model.now c.in_ok-judge_mixed.ensures).0.a_most

pub returns : goal.returns
unfolding moved_down
returns c =
    let m = c.args.model.now in
    let s = (goal.at.returns c).In-Some in
    let zero = sym c.in_ok-judge_mixed.ensures in
    let short_fits : Fits c.in-Some.s.short = search (rules, c.solve.type_inv) in
    record {
      is_refusal = sym zero;
      if_refused = λ z. absurd (z zero);
      if_accepted = λ z. mixed_answered (mixed m.p m.a m.n (constants_lent m) (rows_lent m)) _ _ _ _ _ (form_solved s) _
          (omega (arith, (accepted c.args.model.now c.in_ok-judge_mixed.ensures).1)) short_fits refl
          c.verdict_of-verdict.ensures c.idle_rows-rows.ensures (λ x. ap (λ (S : Set). S x) c.lowered-columns.ensures) (λ x. refl);
    }
