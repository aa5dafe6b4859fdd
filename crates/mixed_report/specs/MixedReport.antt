-- The report of the mixed question about a file: verdict, rank, rows I and columns J that reach it, and the short set of the layered form, in lines as
-- those of document 01; or the one line of a refusal. Definitions only.
use Rattle.std.specs.Prelude.{ℕ, ◌+◌, ◌*◌, List, Result, ◌++◌}
use Rattle.columns.specs.Columns.{width, members}
use Rattle.columns.specs.ColumnSets.{whole}
use Rattle.text.specs.Text.{ascii, line, item, column_items, verdict_line}
use Rattle.format.specs.declared.refusals.Refusal.{Refusal}
use Rattle.format.specs.Refusals.{first_refusal, ◌then◌}
use Rattle.format.specs.File.Piece.{closed}
use Rattle.format.specs.File.Format.{fields}
use Rattle.mixed.specs.MixedAnswers.{MixedAnswered, mixed_question, file_mixed}
use Rattle.mixed.specs.Shown.{MixedAnswer}
use Rattle.report.specs.FileReport.{Reports}

unfoldable pub mixed_answer_text : MixedAnswer → List ℕ
mixed_answer_text t =
    verdict_line t.verdict
    ++ (line (ascii "rank") (item t.rank)
    ++ (line (ascii "rows") (column_items (members (whole t.rows)))
    ++ (line (ascii "columns") (column_items (members (whole t.columns)))
    ++ line (ascii "short") (column_items (members (whole t.short))))))

-- how many bytes the longest report has at most: 47 for the five lines without their rows and columns, and 4 for each member of the three sets
abbrev pub longest_mixed_report : ℕ
longest_mixed_report = 47 + 3 * (4 * width)

-- the report of a file: of its own refusal or 10, or the five lines of an answer to the mixed question about it; which rows and columns it shows is as
-- open as in `MixedAnswered`
abbrev pub MixedFileReport : (file area : List ℕ) (r : Result ℕ Refusal) (area' : List ℕ) → Type 0
MixedFileReport file area r area' = Reports (first_refusal (closed fields file then mixed_question file)) (MixedAnswered (file_mixed file)) mixed_answer_text area r area'
