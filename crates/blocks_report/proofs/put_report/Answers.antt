-- `blocks_report::put_report` meets its contract. Assumes nothing.
use Rattle.std.proofs.Common.{refl, sym}
use Rattle.format.proofs.Refused.{refusal_some}
use Rattle.text.specs.PutLaws.{puts_as}
use Rattle.report.specs.ReportLaws.{report_refused, report_answer}
use Rattle.blocks_report.proofs.put_report.Goals as goal

pub returns-in-Ok-Ok : goal.returns-in-Ok-Ok
returns-in-Ok-Ok c = rw (c.in-Ok-Ok.is-0, c.in-Ok-Ok.is-1) (puts_as (sym (report_answer _ _ refl)) c.put_answer.ensures)

pub returns-in-Err-default : goal.returns-in-Err-default
returns-in-Err-default c = rw c.in-Err-default.is-0 (puts_as (sym (report_refused _ _ (refusal_some _))) c.put_refused_line.ensures)

pub unreachable-requires : goal.unreachable-requires
unreachable-requires c = refusal_some _ (rw (c.in-Ok-Err.is-0, c.in-Ok-Err.is-1) at c.requires)
