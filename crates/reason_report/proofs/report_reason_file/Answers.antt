-- `reason_report::report_reason_file` meets its contract: the report is put on a page that holds the longest, and printed from there.
-- Assumes nothing.
use Rattle.std.proofs.Common.{ℕ, ◌<◌, ◌≤◌, refl, arith, rules, length, get_or, Fits, w16, length-take}
use Rattle.text.specs.PutLaws.{puts_within, puts_page, prints_as}
use Rattle.report.specs.Report.{report_text}
use Rattle.report.specs.ReportLaws.{shown_length}
use Rattle.report.specs.FileReportLaws.{call_reported}
use Rattle.reason.specs.Shown.{reason_shown}
use Rattle.reason_report.specs.ReasonReport.{reason_text, longest_reason_report}
use Rattle.reason_report.proofs.Lines.{reason_shown_length}
use Rattle.reason_report.proofs.report_reason_file.Goals as goal

pub slice_bounds-page-end : goal.slice_bounds-page-end
slice_bounds-page-end c = puts_within c.put_report-length.ensures

pub slice_bounds-print-end : goal.slice_bounds-print-end
slice_bounds-print-end c = let h = puts_within c.put_report-length.ensures in search (arith, length-take)

pub returns : goal.returns
returns c =
    let r = c.file_reason-answer.result in
    let room : length (report_text (reason_shown r).refusal (reason_text (reason_shown r))) ≤ longest_reason_report =
    shown_length reason_shown (λ t. t.refusal) reason_text _ (omega arith) (λ t. refl) (λ e. refl) r (λ t e.
    reason_shown_length t (λ ms given. (
    let fits = rw (e, given) at c.file_reason-answer.type_inv in
    let low : (i : ℕ) → get_or ms i 0 < 100000 = λ i. (let known : Fits w16 (get_or ms i 0) = search (rules, fits) in omega (arith, known.fits)) in
    (search (rules, fits), low)))) in
    call_reported _ _ c.file_reason-answer.ensures (prints_as (puts_page c.put_report-length.ensures room) c.print.ensures)
