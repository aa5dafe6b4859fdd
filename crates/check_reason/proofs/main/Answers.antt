-- The report lies within its area.
use Rattle.std.proofs.Common.{sym, length-take-le}
use Rattle.report.specs.FileReportLaws.{reports_within}
use Rattle.check_reason.proofs.main.Goals as goal

pub slice_bounds-report-end : goal.slice_bounds-report-end
slice_bounds-report-end c = rw c.unwrap_or-written.ensures (reports_within c.report_reason_file.ensures)

pub slice_bounds-write_all-end : goal.slice_bounds-write_all-end
slice_bounds-write_all-end c = sym (length-take-le _ _ (rw c.unwrap_or-written.ensures (reports_within c.report_reason_file.ensures)))
