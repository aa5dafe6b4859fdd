-- `mixed_report::report_mixed_file` meets its contract: the report is put on a page that holds the longest, and printed from there.
-- Assumes nothing.
use Rattle.std.proofs.Common.{◌<◌, ◌≤◌, refl, arith, rules, length, Ok, length-take}
use Rattle.text.specs.PutLaws.{puts_within, puts_page, prints_as}
use Rattle.report.specs.Report.{report_text}
use Rattle.report.specs.ReportLaws.{shown_length}
use Rattle.report.specs.FileReportLaws.{call_reported}
use Rattle.mixed.specs.Shown.{mixed_shown}
use Rattle.mixed_report.specs.MixedReport.{mixed_answer_text, longest_mixed_report}
use Rattle.mixed_report.proofs.Lines.{mixed_answer_length}
use Rattle.mixed_report.proofs.report_mixed_file.Goals as goal

pub slice_bounds-page-end : goal.slice_bounds-page-end
slice_bounds-page-end c = puts_within c.put_report-length.ensures

pub slice_bounds-print-end : goal.slice_bounds-print-end
slice_bounds-print-end c = let h = puts_within c.put_report-length.ensures in search (arith, length-take)

pub returns : goal.returns
returns c =
    let r = c.mixed_file-answer.result in
    let room : length (report_text (mixed_shown r).refusal (mixed_answer_text (mixed_shown r))) ≤ longest_mixed_report =
    shown_length mixed_shown (λ t. t.refusal) mixed_answer_text _ (omega arith) (λ t. refl) (λ e. refl) r (λ t e. (
    let fits = rw e at c.mixed_file-answer.type_inv in
    let small : t.rank < 256 = search (rules, fits) in
    mixed_answer_length (mixed_shown (Ok t)) (omega arith))) in
    call_reported _ _ c.mixed_file-answer.ensures (prints_as (puts_page c.put_report-length.ensures room) c.print.ensures)
