-- `judge::judge_end` meets its contract. Assumes nothing.
use Rattle.std.proofs.Common.{ap, sym, ◌∙◌, length, eq-eqb, ne_eqb}
use Rattle.format.specs.Refusals.{end_test}
use Rattle.format.specs.RefusalLaws.{first_fails, first_passes, first_none, then_passed, zero_then}
use Rattle.format.specs.File.Piece.{closed}
use Rattle.format.specs.File.Format.{end_field}
use Rattle.format.proofs.Judging.{handed_number, refused_then}
use Rattle.format.proofs.judge.judge_end.Goals as goal

pub returns-in_err-behind : goal.returns-in_err-behind
unfolding closed end_field
returns-in_err-behind c = handed_number _ _ c.from_residual.ensures.1 (refused_then _ _ _ (refused_then _ _ _ c.in_err-behind.ensures.refusal_is))

pub returns-then-behind-ne0 : goal.returns-then-behind-ne0
unfolding closed end_field end_test
returns-then-behind-ne0 c =
    let j = c.in_ok-behind.ensures in
    let l = ap length j.given.rest_is.bytes_are in
    then_passed _ _ _ (zero_then _ _ (sym j.refusal_is) (sym first_none)) (first_fails _ _ _ (ne_eqb _ _ (λ e. c.if-behind-ne0.true (l ∙ e))))

pub returns : goal.returns
unfolding closed end_field end_test
returns c =
    let j = c.in_ok-behind.ensures in
    let l = ap length j.given.rest_is.bytes_are in
    then_passed _ _ _ (zero_then _ _ (sym j.refusal_is) (sym first_none)) (first_passes _ _ _ _ (eq-eqb _ _ (sym l ∙ c.if-behind-ne0.false)) first_none)
