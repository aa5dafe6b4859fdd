-- `blocks_report::report_blocks_file` meets its contract: the report is put on a page that holds the longest, and printed from there.
-- Of an accepted file the rank call's verdict and rank are the model's. Assumes nothing.
use Rattle.std.proofs.Common.{ℕ, ◌≡◌, ◌<◌, ◌≤◌, List, length, Result, Ok, Err, refl, sym, ◌∙◌, rules, arith, length-take}
use Rattle.std.proofs.Math.Logic.{by_cases}
use Rattle.std.proofs.Math.Decide.{ℕ_discrete}
use Rattle.rank.specs.Layered.Rank.{rank, verdict}
use Rattle.format.specs.File.Format.{judge}
use Rattle.layered.specs.Answers.{LayeredFileCall}
use Rattle.layered.specs.FileModel.{file_model}
use Rattle.format.specs.declared.refusals.Refusal.{Refusal}
use Rattle.layered.specs.declared.Answer as code
use Rattle.layered.specs.Shown.{Answer, answer_shown}
use Rattle.text.specs.PutLaws.{puts_within, puts_page, prints_as}
use Rattle.report.specs.Report.{report_text}
use Rattle.report.specs.ReportLaws.{report_refused, shown_length}
use Rattle.report.specs.FileReportLaws.{call_reported}
use Rattle.blocks.specs.Shown.{Blocks, blocks_shown}
use Rattle.blocks_report.specs.BlocksReport.{blocks_text, longest_blocks_report}
use Rattle.blocks_report.proofs.Lines.{blocks_text_length}
use Rattle.blocks_report.proofs.report_blocks_file.Goals as goal

-- the report shows the rank call's verdict and rank, or a refusal and neither
model_shown : (file : List ℕ) (b : Blocks) (t : Answer) → b.refusal ≡ judge file → LayeredFileCall file t
    → report_text b.refusal (blocks_text t.verdict t.rank b) ≡ report_text b.refusal (blocks_text (verdict (file_model file)) (rank (file_model file)) b)
model_shown file b t e h = by_cases (ℕ_discrete b.refusal 0)
    (λ z. let w = h.if_accepted (sym e ∙ z) in cc (w.is_verdict, w.solved.is_rank))
    (λ nz. report_refused _ _ nz ∙ sym (report_refused _ _ nz))

pub put_report-length-requires : goal.put_report-length-requires
put_report-length-requires c = c.layered_file-answer.ensures.is_refusal ∙ sym c.file_blocks-blocks.ensures.is_refusal

pub slice_bounds-page-end : goal.slice_bounds-page-end
slice_bounds-page-end c = puts_within c.put_report-length.ensures

pub slice_bounds-print-end : goal.slice_bounds-print-end
slice_bounds-print-end c = let h = puts_within c.put_report-length.ensures in search (arith, length-take)

rank_low : (r : Result code.Answer Refusal) → ((t : code.Answer) → r ≡ Ok t → t.rank < 256) → (answer_shown r).rank < 1000
rank_low (Ok t) h = omega (arith, h t refl)
rank_low (Err e) h = omega arith

pub returns : goal.returns
returns c =
    let r = c.file_blocks-blocks.result in
    let given = c.file_blocks-blocks.ensures in
    let t = answer_shown c.layered_file-answer.result in
    let text = blocks_text t.verdict t.rank in
    let low : t.rank < 1000 = rank_low c.layered_file-answer.result (λ u e. (let fits = rw e at c.layered_file-answer.type_inv in search (rules, fits))) in
    let room : length (report_text (blocks_shown r).refusal (text (blocks_shown r))) ≤ longest_blocks_report =
    shown_length blocks_shown (λ b. b.refusal) text _ (omega arith) (λ b. refl) (λ e. refl) r (λ b e. (
    let fits = rw e at c.file_blocks-blocks.type_inv in
    let few : b.count < 256 = search (rules, fits) in
    blocks_text_length t.verdict t.rank (blocks_shown (Ok b)) low (omega arith))) in
    let shown = prints_as (puts_page c.put_report-length.ensures room) c.print.ensures in
    call_reported _ _ given (prints_as (model_shown _ (blocks_shown r) _ given.is_refusal c.layered_file-answer.ensures) shown)
