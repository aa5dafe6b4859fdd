-- `calls::refuse_answer`: the own refusal comes first.
use Rattle.std.proofs.Common.{refl, sym}
use Rattle.std.proofs.lemmas.Result.{err_from_is_err_and}
use Rattle.format.proofs.Refused.{refusal_some}
use Rattle.format.specs.Refusals.{first_refusal}
use Rattle.format.specs.RefusalLaws.{then_refused, then_passed}
use Rattle.format.specs.File.Piece.{closed}
use Rattle.format.specs.File.Unnumbered.{unnumbered_fields, unnumbered_judge}
use Rattle.editing.specs.Areas.{area_file}
use Rattle.solvability.proofs.calls.refuse_answer.Goals as goal

pub returns-in_err-judge_area : goal.returns-in_err-judge_area
unfolding unnumbered_judge
returns-in_err-judge_area c =
    let p = err_from_is_err_and c.from_residual.result c.from_residual.ensures.1 in
    rw (p.1, p.2) (then_refused (closed unnumbered_fields (area_file c.args.area.now)) _ _ c.in_err-judge_area.ensures (refusal_some _))

pub returns : goal.returns
unfolding unnumbered_judge first_refusal
returns c = then_passed (closed unnumbered_fields (area_file c.args.area.now)) _ _ (sym c.in_ok-judge_area.ensures) refl
