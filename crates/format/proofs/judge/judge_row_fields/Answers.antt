-- `judge::judge_row_fields` meets its contract. Assumes nothing.
use Rattle.std.proofs.Common.{List, ℕ, sym, ap, ◌∙◌}
use Rattle.format.specs.Refusals.{first_refusal}
use Rattle.format.specs.File.Piece.{many, seq, closed}
use Rattle.format.specs.File.Format.{constant_row, parameter_rows, end_field, row_fields}
use Rattle.format.proofs.Judging.{handed_number, refused_some, seq_refused, seq_passed}
use Rattle.format.proofs.judge.judge_row_fields.Goals as goal

pub returns-in_err-parameters : goal.returns-in_err-parameters
unfolding row_fields
returns-in_err-parameters c =
    let h = c.args.header in
    handed_number _ _ c.from_residual.ensures.1
    (seq_refused (many h.a (constant_row h.p h.n)) (λ _. seq (parameter_rows h.n h.b) (λ _. end_field)) _ _ c.in_err-parameters.ensures.refusal_is (refused_some _))

pub returns-in_err-judge_either_rows : goal.returns-in_err-judge_either_rows
unfolding row_fields
returns-in_err-judge_either_rows c =
    let h = c.args.header in
    let j = c.in_ok-parameters.ensures in
    let q = c.in_err-judge_either_rows.ensures.refusal_is ∙ ap (λ (s : List ℕ). first_refusal ((parameter_rows h.n h.b).tests s)) j.given in
    handed_number _ _ c.from_residual-in_err-judge_either_rows.ensures.1
    (seq_passed (many h.a (constant_row h.p h.n)) (λ _. seq (parameter_rows h.n h.b) (λ _. end_field)) _ _ (sym j.refusal_is)
    (seq_refused (parameter_rows h.n h.b) (λ _. end_field) _ _ q (refused_some _)))

pub returns : goal.returns
unfolding row_fields
returns c =
    let h = c.args.header in
    let j = c.in_ok-parameters.ensures in
    let k = c.in_ok-judge_either_rows.ensures in
    let q = ap (λ (s : List ℕ). first_refusal ((parameter_rows h.n h.b).tests s)) (sym j.given) ∙ sym k.refusal_is in
    let r = c.judge_end.ensures ∙ ap (λ (s : List ℕ). first_refusal (closed end_field s)) (k.given ∙ ap (parameter_rows h.n h.b).rest j.given) in
    seq_passed (many h.a (constant_row h.p h.n)) (λ _. seq (parameter_rows h.n h.b) (λ _. end_field)) _ _ (sym j.refusal_is)
    (seq_passed (parameter_rows h.n h.b) (λ _. end_field) _ _ q r)
