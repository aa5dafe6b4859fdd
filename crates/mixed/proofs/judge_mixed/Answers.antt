-- `mixed::judge_mixed`: the model's own refusal comes first.
use Rattle.std.proofs.Common.{arith, sym}
use Rattle.std.proofs.lemmas.Result.{err_from_is_err_and}
use Rattle.counting.specs.Bools.{not_true}
use Rattle.models.specs.Lent.{constants_lent, rows_lent, numbers_lent}
use Rattle.format.proofs.Refused.{refusal_some}
use Rattle.format.specs.TestLaws.{model_accepted}
use Rattle.mixed.proofs.MixedAnswerLaws.{at_model, at_mixed, at_none, mixed_reads}
use Rattle.mixed.proofs.judge_mixed.Goals as goal

pub returns-in_err-judge_model : goal.returns-in_err-judge_model
returns-in_err-judge_model c =
    let p = err_from_is_err_and c.from_residual.result c.from_residual.ensures.1 in
    rw (p.1, p.2) (at_model _ _ _ _ _ _ _ _ c.in_err-judge_model.ensures (refusal_some _))

pub returns-then-model : goal.returns-then-model
returns-then-model c =
    let m = c.args.model.now in
    at_mixed _ _ _ _ _ _ _ (sym c.in_ok-judge_model.ensures) (not_true _ (λ e. c.if-model.true ((mixed_reads m.p m.n m.a m.b (constants_lent m) (rows_lent m) (numbers_lent m)).0 e).0))

pub overflow_add-model : goal.overflow_add-model
overflow_add-model c = let h = model_accepted _ _ _ _ _ _ _ (sym c.in_ok-judge_model.ensures) in omega (arith, h.n_most, h.a_most)

pub returns-then-model-gt-MOST_COLUMNS : goal.returns-then-model-gt-MOST_COLUMNS
returns-then-model-gt-MOST_COLUMNS c =
    let m = c.args.model.now in
    at_mixed _ _ _ _ _ _ _ (sym c.in_ok-judge_model.ensures) (not_true _ (λ e. omega (arith, c.if-model-gt-MOST_COLUMNS.true, ((mixed_reads m.p m.n m.a m.b (constants_lent m) (rows_lent m) (numbers_lent m)).0 e).1)))

pub returns : goal.returns
returns c =
    let m = c.args.model.now in
    at_none _ _ _ _ _ _ _ (sym c.in_ok-judge_model.ensures) ((mixed_reads m.p m.n m.a m.b (constants_lent m) (rows_lent m) (numbers_lent m)).1 (c.if-model.false, c.if-model-gt-MOST_COLUMNS.false))
