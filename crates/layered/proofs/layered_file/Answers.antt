-- `layered::layered_file`: the answer to what was read is the answer to the file.
use Rattle.std.proofs.Common.{rules, refl}
use Rattle.std.proofs.lemmas.Result.{err_from_is_err_and}
use Rattle.columns.specs.Words.Bytes.{AreBytes}
use Rattle.layered.proofs.FileLaws.{own_refusal, answer_refused, file_answered}
use Rattle.layered.proofs.layered_file.Goals as goal

pub returns-in_err-sizes : goal.returns-in_err-sizes
returns-in_err-sizes c =
    let bytes : AreBytes c.args.file.now = λ i. search (rules, c.type_inv.file i) in
    let p = err_from_is_err_and c.from_residual.result c.from_residual.ensures.1 in
    rw (p.1, p.2) (answer_refused _ (own_refusal bytes c.in_err-sizes.ensures))

pub returns : goal.returns
returns c =
    let bytes : AreBytes c.args.file.now = λ i. search (rules, c.type_inv.file i) in
    file_answered bytes c.in_ok-sizes.ensures refl _ (rw c.model.ensures at c.unnumbered_rank.ensures)
