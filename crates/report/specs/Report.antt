-- The text of a report, by document 01, "The host and the program": the bytes of five lines, or of a refusal's one. Definitions only.
use Rattle.std.specs.Prelude.{ℕ, ◌+◌, ◌*◌, cond, List, ◌++◌, eqb}
use Rattle.limits.specs.Limits.{most_rows, no_column}
use Rattle.columns.specs.Columns.{width, members}
use Rattle.columns.specs.ColumnSets.{whole}
use Rattle.text.specs.Text.{ascii, line, item, pair_items, column_items, verdict_line, refused_line}
use Rattle.layered.specs.Shown.{Answer}

-- row:column for each row, by row; a row without a column is left out
unfoldable pub row_items : List ℕ → List ℕ
row_items rows = pair_items no_column 0 rows

unfoldable pub answer_text : Answer → List ℕ
answer_text t =
    verdict_line t.verdict
    ++ (line (ascii "rank") (item t.rank)
    ++ (line (ascii "constants") (column_items (members (whole t.constants)))
    ++ (line (ascii "parameters") (row_items t.rows)
    ++ line (ascii "short") (column_items (members (whole t.short))))))

-- the report: the lines of the answer, or of a refusal the one line
unfoldable pub report_text : (refusal : ℕ) (answer : List ℕ) → List ℕ
report_text refusal answer = cond (eqb refusal 0) answer (refused_line refusal)

-- how many bytes the longest report has at most: 55 for the five lines without their columns and rows, 4 for each column of the two sets, and 8
-- for each row with its column
abbrev pub longest_report : ℕ
longest_report = 55 + 2 * (4 * width) + 8 * most_rows
