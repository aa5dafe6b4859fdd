-- `mixed_report::put_report` meets its contract. Assumes nothing.
use Rattle.std.proofs.Common.{refl, sym}
use Rattle.format.proofs.Refused.{refusal_some}
use Rattle.text.specs.PutLaws.{puts_as}
use Rattle.report.specs.ReportLaws.{report_refused, report_answer}
use Rattle.mixed_report.proofs.put_report.Goals as goal

pub returns-in-Ok : goal.returns-in-Ok
returns-in-Ok c = rw c.in-Ok.is (puts_as (sym (report_answer _ _ refl)) c.put_answer.ensures)

pub returns-in-Err : goal.returns-in-Err
returns-in-Err c = rw c.in-Err.is (puts_as (sym (report_refused _ _ (refusal_some _))) c.put_refused_line.ensures)
