-- `judge::judge_either_rows` meets its contract. Assumes nothing.
use Rattle.std.proofs.Common.{◌≡◌, sym, true, false}
use Rattle.format.specs.File.Format.{parameter_rows, numbered_test}
use Rattle.format.proofs.judge.judge_either_rows.Goals as goal

pub returns-then-is_numbered : goal.returns-then-is_numbered
unfolding parameter_rows
returns-then-is_numbered c =
    let t : numbered_test c.args.n c.args.b c.args.file.now ≡ true = sym (rw (c.from.ensures, c.from-2.ensures) at c.if-is_numbered.ensures) in
    rw t c.judge_numbered_rows.ensures

pub returns : goal.returns
unfolding parameter_rows
returns c =
    let t : numbered_test c.args.n c.args.b c.args.file.now ≡ false = sym (rw (c.from.ensures, c.from-2.ensures) at c.if-is_numbered.ensures) in
    rw t c.judge_parameter_rows.ensures
