-- `judge::judge_numbered_rows` meets its contract. Assumes nothing.
use Rattle.std.proofs.Common.{arith, refl, sym, ◌∙◌, []}
use Rattle.format.specs.NumberLaws.{zeros, keeps_none}
use Rattle.format.specs.File.Format.{numbered_rows}
use Rattle.format.proofs.Judging.{handed, gives, chain_rows_all, chain_rows_next, chain_rows_refused, chain_rows_done}
use Rattle.format.proofs.judge.judge_numbered_rows.Goals as goal

pub loop-init : goal.loop-init
loop-init c = ([], keeps_none _ (λ i. zeros 1024 i), chain_rows_all, refl)

pub judge_numbered_row-requires : goal.judge_numbered_row-requires
judge_numbered_row-requires c = c.loop.invariant.3

pub returns-in_err-rest : goal.returns-in_err-rest
unfolding numbered_rows
returns-in_err-rest c =
    let i = c.loop.invariant in
    handed _ c.from_residual.ensures.1 (chain_rows_refused i.2 _ (omega arith) (c.in_err-rest.ensures.judged i.0 i.1).refusal_is)

pub loop-preserved : goal.loop-preserved
loop-preserved c =
    let i = c.loop.invariant in
    let e = c.in_ok-rest.ensures in
    let j = e.judged i.0 i.1 in
    (_, j.given.1, chain_rows_next i.2 (omega arith) (sym j.refusal_is) j.given.0, e.same_length ∙ i.3)

pub returns : goal.returns
unfolding numbered_rows
returns c = let d = chain_rows_done c.loop.invariant.2 (omega arith) in gives d.0 (sym d.1)
