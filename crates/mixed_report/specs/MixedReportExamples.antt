-- The mixed report's text, computed: S9's, whose one choice of rows and columns is row 1 and column 1. Assumes nothing.
use Rattle.std.specs.Prelude.{◌≡◌, refl}
use mathlib.Core.List.{flat_map}
use Rattle.columns.specs.Columns.{members}
use Rattle.columns.specs.ColumnSets.{whole, set_of, empty_set}
use Rattle.text.specs.Text.{ascii, digits, decimal, line, item, columns_from, column_items, verdict_line}
use Rattle.mixed_report.specs.MixedReport.{mixed_answer_text}

s9_example : mixed_answer_text (record { refusal = 0; verdict = 1; rank = 2; rows = set_of 2; columns = set_of 2; short = empty_set }) ≡ ascii "verdict determined\nrank 2\nrows 1\ncolumns 1\nshort\n"
unfolding ascii digits decimal line item columns_from column_items verdict_line mixed_answer_text members whole set_of empty_set flat_map
s9_example = refl
