-- `calls::refuse_area`: the own refusal comes first.
use Rattle.std.proofs.Common.{refl, sym}
use Rattle.std.proofs.lemmas.Result.{err_from_is_err_and}
use Rattle.format.proofs.Refused.{refusal_some}
use Rattle.format.specs.Refusals.{first_refusal}
use Rattle.format.specs.RefusalLaws.{then_refused, then_passed}
use Rattle.format.specs.File.Piece.{closed}
use Rattle.format.specs.File.Format.{fields, judge}
use Rattle.solvability.proofs.calls.refuse_area.Goals as goal

pub returns-in_err-judge_file : goal.returns-in_err-judge_file
unfolding judge
returns-in_err-judge_file c =
    let p = err_from_is_err_and c.from_residual.result c.from_residual.ensures.1 in
    rw (p.1, p.2) (then_refused (closed fields c.args.file.now) _ _ c.in_err-judge_file.ensures (refusal_some _))

pub returns : goal.returns
unfolding judge first_refusal
returns c = then_passed (closed fields c.args.file.now) _ _ (sym c.in_ok-judge_file.ensures) refl
