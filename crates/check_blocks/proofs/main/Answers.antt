-- The report lies within its area.
use Rattle.std.proofs.Common.{sym, length-take-le}
use Rattle.report.specs.FileReportLaws.{reports_within}
use Rattle.check_blocks.proofs.main.Goals as goal

pub slice_bounds-text-end : goal.slice_bounds-text-end
slice_bounds-text-end c = rw c.unwrap_or-written.ensures (reports_within c.report_blocks_file.ensures)

pub slice_bounds-write_all-end : goal.slice_bounds-write_all-end
slice_bounds-write_all-end c = sym (length-take-le _ _ (rw c.unwrap_or-written.ensures (reports_within c.report_blocks_file.ensures)))
