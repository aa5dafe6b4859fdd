-- `report::report_file` meets its contract: the answer's report is put on a page that holds the longest, and printed from there. Assumes nothing.
use Rattle.std.proofs.Common.{ℕ, ◌<◌, ◌≤◌, refl, arith, rules, length, get_or, Ok, Fits, w8, length-take}
use Rattle.text.specs.PutLaws.{puts_within, puts_page, prints_as}
use Rattle.report.specs.Report.{answer_text, report_text, longest_report}
use Rattle.report.specs.ReportLaws.{shown_length}
use Rattle.report.specs.FileReportLaws.{call_reported}
use Rattle.layered.specs.Shown.{answer_shown}
use Rattle.report.proofs.Lines.{answer_length}
use Rattle.report.proofs.report_file.Goals as goal

pub slice_bounds-page-end : goal.slice_bounds-page-end
slice_bounds-page-end c = puts_within c.put_report-length.ensures

pub slice_bounds-print-end : goal.slice_bounds-print-end
slice_bounds-print-end c = let h = puts_within c.put_report-length.ensures in search (arith, length-take)

pub returns : goal.returns
returns c =
    let r = c.layered_file-answer.result in
    let room : length (report_text (answer_shown r).refusal (answer_text (answer_shown r))) ≤ longest_report =
    shown_length answer_shown (λ t. t.refusal) answer_text _ (omega arith) (λ t. refl) (λ e. refl) r (λ t e. (
    let fits = rw e at c.layered_file-answer.type_inv in
    let low : (i : ℕ) → get_or t.rows i 0 < 1000 = λ i. (let known : Fits w8 (get_or t.rows i 0) = search (rules, fits) in omega (arith, known.fits)) in
    let small : t.rank < 256 = search (rules, fits) in
    answer_length (answer_shown (Ok t)) (omega arith) (search (rules, fits)) low)) in
    call_reported _ _ c.layered_file-answer.ensures (prints_as (puts_page c.put_report-length.ensures room) c.print.ensures)
