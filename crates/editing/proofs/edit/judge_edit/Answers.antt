-- `edit::judge_edit`: the row, the columns named and present, and then the presence.
use Rattle.std.proofs.Common.{arith, sym, ◌∙◌}
use Rattle.std.proofs.lemmas.Result.{err_from_is_err_and}
use Rattle.format.proofs.Refused.{refusal_some}
use Rattle.editing.proofs.EditLaws.{own_at_row, own_at_column, own_at_present, own_at_presence}
use Rattle.editing.proofs.edit.judge_edit.Goals as goal

pub returns-in_err-judge_named_row : goal.returns-in_err-judge_named_row
returns-in_err-judge_named_row c =
    let p = err_from_is_err_and c.from_residual.result c.from_residual.ensures.1 in
    rw (p.1, p.2) (own_at_row _ _ _ _ _ c.in_err-judge_named_row.ensures (refusal_some _))

pub returns-then-named_column-n : goal.returns-then-named_column-n
returns-then-named_column-n c = own_at_column _ _ _ _ (sym c.in_ok-judge_named_row.ensures) (omega (arith, c.if-named_column-n.true, c.named_column.ensures))

pub returns-then-not-within : goal.returns-then-not-within
returns-then-not-within c =
    own_at_present _ _ _ _ (sym c.in_ok-judge_named_row.ensures) (omega (arith, c.if-named_column-n.false, c.named_column.ensures)) (sym c.within.ensures ∙ c.if-not-within.true)

pub returns : goal.returns
returns c =
    own_at_presence _ _ _ _ (sym c.in_ok-judge_named_row.ensures) (omega (arith, c.if-named_column-n.false, c.named_column.ensures)) (sym c.within.ensures ∙ c.if-not-within.false) _ c.judge_presence.ensures
