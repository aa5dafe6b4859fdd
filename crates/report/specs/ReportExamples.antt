-- The report's text, computed: document 01's example whole, a model that is open, and a refusal. Assumes nothing.
use Rattle.std.specs.Prelude.{◌-◌, ◌≡◌, refl, replicate}
use mathlib.Core.List.{[], ◌∷◌, flat_map}
use Rattle.columns.specs.Columns.{members}
use Rattle.columns.specs.ColumnSets.{whole, set_of, empty_set}
use Rattle.limits.specs.Limits.{most_rows, no_column}
use Rattle.text.specs.Text.{ascii, digits, decimal, line, item, pair_item, pair_unless, pair_items, columns_from, column_items, verdict_line, refused_line}
use Rattle.report.specs.Report.{row_items, answer_text, report_text}

document_example : report_text 0 (answer_text (record { refusal = 0; verdict = 1; rank = 2; placed = set_of 3; constants = set_of 1; short = empty_set; rows = 1 ∷ replicate (most_rows - 1) no_column })) ≡ ascii "verdict determined\nrank 2\nconstants 0\nparameters 0:1\nshort\n"
unfolding ascii digits decimal line item columns_from column_items pair_item pair_unless pair_items row_items verdict_line answer_text report_text members whole set_of empty_set flat_map
document_example = refl

-- columns 0, 9, 10 and 63; rows 1 and 3
open_example : report_text 0 (answer_text (record { refusal = 0; verdict = 0; rank = 64; placed = empty_set; constants = set_of 9223372036854777345; short = set_of 3; rows = no_column ∷ 63 ∷ no_column ∷ 10 ∷ [] })) ≡ ascii "verdict open\nrank 64\nconstants 0 9 10 63\nparameters 1:63 3:10\nshort 0 1\n"
unfolding ascii digits decimal line item columns_from column_items pair_item pair_unless pair_items row_items verdict_line answer_text report_text members whole set_of empty_set flat_map
open_example = refl

refusal_example : report_text 7 (answer_text (record { refusal = 7; verdict = 0; rank = 0; placed = empty_set; constants = empty_set; short = empty_set; rows = replicate most_rows no_column })) ≡ ascii "refused 7\n"
unfolding ascii digits decimal line item refused_line report_text
refusal_example = refl
