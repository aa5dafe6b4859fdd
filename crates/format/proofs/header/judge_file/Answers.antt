-- `header::judge_file` meets its contract. Assumes nothing.
use Rattle.std.proofs.Common.{◌∙◌}
use Rattle.format.proofs.Judging.{handed_number}
use Rattle.format.proofs.Headers.{header_refusal}
use Rattle.format.proofs.header.judge_file.Goals as goal

pub returns-in_err-read_header : goal.returns-in_err-read_header
returns-in_err-read_header c = handed_number _ _ c.from_residual.ensures.1 (c.in_err-read_header.ensures.refusal_is ∙ header_refusal c.args.file.now)

pub returns : goal.returns
returns c = c.in_ok-read_header.ensures.refusal_is ∙ header_refusal c.args.file.now
