-- `judge::judge_unnumbered_rows` meets its contract. Assumes nothing.
use Rattle.std.proofs.Common.{List, ℕ, sym, ap, ◌∙◌}
use Rattle.format.specs.Refusals.{first_refusal}
use Rattle.format.specs.File.Piece.{many, seq, closed}
use Rattle.format.specs.File.Format.{constant_row, parameter_row, end_field}
use Rattle.format.specs.File.Unnumbered.{unnumbered_rows}
use Rattle.format.proofs.Judging.{handed_number, refused_some, seq_refused, seq_passed}
use Rattle.format.proofs.judge.judge_unnumbered_rows.Goals as goal

pub returns-in_err-parameters : goal.returns-in_err-parameters
unfolding unnumbered_rows
returns-in_err-parameters c =
    let h = c.args.header in
    handed_number _ _ c.from_residual.ensures.1
    (seq_refused (many h.a (constant_row h.p h.n)) (λ _. seq (many h.b (parameter_row h.n)) (λ _. end_field)) _ _ c.in_err-parameters.ensures.refusal_is (refused_some _))

pub returns-in_err-judge_parameter_rows : goal.returns-in_err-judge_parameter_rows
unfolding unnumbered_rows
returns-in_err-judge_parameter_rows c =
    let h = c.args.header in
    let j = c.in_ok-parameters.ensures in
    let q = c.in_err-judge_parameter_rows.ensures.refusal_is ∙ ap (λ (s : List ℕ). first_refusal ((many h.b (parameter_row h.n)).tests s)) j.given in
    handed_number _ _ c.from_residual-in_err-judge_parameter_rows.ensures.1
    (seq_passed (many h.a (constant_row h.p h.n)) (λ _. seq (many h.b (parameter_row h.n)) (λ _. end_field)) _ _ (sym j.refusal_is)
    (seq_refused (many h.b (parameter_row h.n)) (λ _. end_field) _ _ q (refused_some _)))

pub returns : goal.returns
unfolding unnumbered_rows
returns c =
    let h = c.args.header in
    let j = c.in_ok-parameters.ensures in
    let k = c.in_ok-judge_parameter_rows.ensures in
    let q = ap (λ (s : List ℕ). first_refusal ((many h.b (parameter_row h.n)).tests s)) (sym j.given) ∙ sym k.refusal_is in
    let r = c.judge_end.ensures ∙ ap (λ (s : List ℕ). first_refusal (closed end_field s)) (k.given ∙ ap (many h.b (parameter_row h.n)).rest j.given) in
    seq_passed (many h.a (constant_row h.p h.n)) (λ _. seq (many h.b (parameter_row h.n)) (λ _. end_field)) _ _ (sym j.refusal_is)
    (seq_passed (many h.b (parameter_row h.n)) (λ _. end_field) _ _ q r)
