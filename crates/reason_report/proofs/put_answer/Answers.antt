-- `reason_report::put_answer` meets its contract: line after line. Assumes nothing.
use Rattle.std.proofs.Common.{refl, sym}
use Rattle.text.specs.Text.{ascii}
use Rattle.text.specs.PutLaws.{puts_as, puts_none, puts_then}
use Rattle.reason_report.specs.ReasonReport.{reason_text}
use Rattle.reason_report.proofs.Lines.{line_given, line_none}
use Rattle.reason_report.proofs.put_answer.Goals as goal

pub returns-in-None : goal.returns-in-None
unfolding reason_text ascii
returns-in-None c = rw c.in-None.is (puts_then c.put_column_line-after_set.ensures (puts_as (sym (line_none _ _ refl)) (puts_none _ _)))

pub returns-in-Some : goal.returns-in-Some
unfolding reason_text ascii
returns-in-Some c = rw c.in-Some.is (puts_then c.put_column_line-after_set.ensures (puts_as (sym (line_given _ _ refl)) c.put_multiplier_line.ensures))
