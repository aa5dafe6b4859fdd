-- The report of document 02's E2 about a file and a column: the columns of the reason and, where multipliers are given, each column that has one with it,
-- in lines as those of document 01; or the one line of a refusal. Definitions only.
use Rattle.std.specs.Prelude.{ℕ, ◌+◌, ◌*◌, Bool, cond, List, Result, [], ◌++◌}
use Rattle.limits.specs.Limits.{most_columns}
use Rattle.columns.specs.Columns.{width, members}
use Rattle.columns.specs.ColumnSets.{whole}
use Rattle.text.specs.Text.{ascii, line, pair_items, column_items}
use Rattle.format.specs.declared.refusals.Refusal.{Refusal}
use Rattle.format.specs.Refusals.{first_refusal, ◌then◌}
use Rattle.format.specs.File.Piece.{closed}
use Rattle.format.specs.File.Format.{fields}
use Rattle.layered.specs.FileModel.{file_model}
use Rattle.reason.specs.Answers.{reason_question, FileReason}
use Rattle.reason.specs.Shown.{Reason}
use Rattle.report.specs.FileReport.{Reports}

-- column:multiplier for each column, ascending; a column whose multiplier is 0 is left out
unfoldable pub multiplier_items : List ℕ → List ℕ
multiplier_items multipliers = pair_items 0 0 multipliers

-- the line of the multipliers; there is none where none are given
unfoldable pub multiplier_line : (given : Bool) (multipliers : List ℕ) → List ℕ
multiplier_line given multipliers = cond given (line (ascii "multipliers") (multiplier_items multipliers)) []

unfoldable pub reason_text : Reason → List ℕ
reason_text r = line (ascii "reason") (column_items (members (whole r.set))) ++ multiplier_line r.given r.multipliers

-- how many bytes the longest report has at most: 19 for the two lines without their columns, 4 for each column of the set, and 9 for each column with its
-- multiplier
abbrev pub longest_reason_report : ℕ
longest_reason_report = 19 + 4 * width + 9 * most_columns

-- the report: of the file's own refusal, 11 or 12, or the lines of the answer about the column of its model
abbrev pub ReasonFileReport : (file : List ℕ) (column : ℕ) (area : List ℕ) (r : Result ℕ Refusal) (area' : List ℕ) → Type 0
ReasonFileReport file column area r area' =
    Reports (first_refusal (closed fields file then reason_question (file_model file) column)) (FileReason file column) reason_text area r area'
