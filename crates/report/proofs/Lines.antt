-- How long the five lines of an answer are. Assumes nothing.
use Prim.Native.Nat.{ℕ, ◌*◌, ◌≤◌, ◌<◌}
use mathlib.Core.Path.{◌≡◌}
use mathlib.Core.List.{List}
use native.Mathlib.Omega.{arith}
use lib.ListN.{length, get_or, length-append}
use Rattle.limits.specs.Limits.{most_rows, no_column}
use Rattle.columns.specs.Columns.{members}
use Rattle.columns.specs.ColumnSets.{whole}
use Rattle.layered.specs.Shown.{Answer}
use Rattle.text.specs.Text.{ascii}
use Rattle.text.specs.TextLaws.{item_length, pairs_length, column_items_length, line_length, verdict_line_length}
use Rattle.report.specs.Report.{row_items, answer_text, longest_report}

-- a row and a column are numbers of at most three digits
row_items_length : (rows : List ℕ) → length rows ≡ most_rows → ((i : ℕ) → get_or rows i 0 < 1000) → length (row_items rows) ≤ 8 * length rows
unfolding row_items
row_items_length rows n g = pairs_length 2 2 no_column 0 rows (omega arith) g

pub answer_length : (t : Answer) → t.rank < 1000 → length t.rows ≡ most_rows → ((i : ℕ) → get_or t.rows i 0 < 1000) → length (answer_text t) ≤ longest_report
unfolding answer_text ascii
answer_length t h n g =
    let v = verdict_line_length t.verdict in
    let r = item_length 2 t.rank (omega arith) in
    let k = column_items_length (members (whole t.constants)) in
    let p = row_items_length t.rows n g in
    let s = column_items_length (members (whole t.short)) in
    simp (length-append, line_length) (omega arith)
