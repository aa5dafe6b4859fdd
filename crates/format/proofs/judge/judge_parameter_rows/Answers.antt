-- `judge::judge_parameter_rows` meets its contract. Assumes nothing.
use Rattle.std.proofs.Common.{rules}
use Rattle.format.specs.File.Format.{parameter_row}
use Rattle.format.proofs.Judging.{bare, bare_judged}
use Rattle.format.proofs.judge.judge_parameter_rows.Goals as goal

pub returns : goal.returns
returns c = bare_judged (parameter_row c.args.n) _ _ (c.judge_rows.ensures (bare (parameter_row c.args.n)) (λ s r h. search rules))
