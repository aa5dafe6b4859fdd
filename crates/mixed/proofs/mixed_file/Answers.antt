-- `mixed::mixed_file`: the answer to what was read is the answer to the file.
use Rattle.std.proofs.Common.{rules, refl}
use Rattle.std.proofs.lemmas.Result.{err_from_is_err_and}
use Rattle.columns.specs.Words.Bytes.{AreBytes}
use Rattle.format.proofs.Refused.{refusal_some}
use Rattle.mixed.proofs.MixedFileLaws.{mixed_file_refused, mixed_file_answered}
use Rattle.mixed.proofs.mixed_file.Goals as goal

pub returns-in_err-sizes : goal.returns-in_err-sizes
returns-in_err-sizes c =
    let bytes : AreBytes c.args.file.now = λ i. search (rules, c.type_inv.file i) in
    let p = err_from_is_err_and c.from_residual.result c.from_residual.ensures.1 in
    rw (p.1, p.2) (mixed_file_refused bytes c.in_err-sizes.ensures (refusal_some _) _ refl (record { no_verdict = refl; no_rank = refl; no_rows = refl; no_columns = refl; none_short = refl }))

pub returns : goal.returns
returns c =
    let bytes : AreBytes c.args.file.now = λ i. search (rules, c.type_inv.file i) in
    mixed_file_answered bytes c.in_ok-sizes.ensures refl _ (rw c.model.ensures at c.mixed_rank.ensures)
