-- `judge::judge_constant_rows` meets its contract. Assumes nothing.
use Rattle.std.proofs.Common.{rules}
use Rattle.format.specs.File.Format.{constant_row}
use Rattle.format.proofs.Judging.{bare, bare_judged}
use Rattle.format.proofs.judge.judge_constant_rows.Goals as goal

pub returns : goal.returns
returns c = bare_judged (constant_row c.args.p c.args.n) _ _ (c.judge_rows.ensures (bare (constant_row c.args.p c.args.n)) (λ s r h. search rules))
