-- `lookup::judge_row` meets its contract. Assumes nothing.
use Rattle.std.specs.Prelude.{◌≡◌}
use Rattle.std.proofs.Common.{arith, ◌∙◌}
use Rattle.format.specs.File.Format.{decode}
use Rattle.format.proofs.Headers.{read_accepted, read_sizes, read_refused}
use Rattle.std.proofs.lemmas.Result.{err_from_is_err_and}
use Rattle.format.proofs.Refused.{refusal_some}
use Rattle.loader.proofs.Looking.{lookup_refused, lookup_beyond, lookup_passed}
use Rattle.loader.proofs.lookup.judge_row.Goals as goal

pub returns-in_err-header : goal.returns-in_err-header
returns-in_err-header c = let p = err_from_is_err_and c.from_residual.result c.from_residual.ensures.1 in rw (p.1, p.2) (lookup_refused _ _ _ (read_refused _ c.in_err-header.ensures) (refusal_some _))

pub returns-then-i-from : goal.returns-then-i-from
returns-then-i-from c =
    let e = read_accepted _ c.in_ok-header.ensures in
    let rows : c.from.result ≡ (decode c.args.file.now).a = c.from.ensures ∙ (read_sizes _ c.in_ok-header.ensures).a_is in
    lookup_beyond _ _ e (omega arith)

pub returns : goal.returns
returns c =
    let e = read_accepted _ c.in_ok-header.ensures in
    let rows : c.from.result ≡ (decode c.args.file.now).a = c.from.ensures ∙ (read_sizes _ c.in_ok-header.ensures).a_is in
    lookup_passed _ _ e (omega arith)
