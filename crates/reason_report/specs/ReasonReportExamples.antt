-- The text of a reason's report, computed: S3's about column 1 and S4's about column 3, each with the multiplier that gives the column; S1's about column 0,
-- which is blocked by itself; and that of two columns that share one parameter row. Assumes nothing.
use Rattle.std.specs.Prelude.{◌-◌, ◌≡◌, refl, true, false, replicate}
use mathlib.Core.List.{◌∷◌, flat_map}
use Rattle.limits.specs.Limits.{most_columns}
use Rattle.columns.specs.Columns.{members}
use Rattle.columns.specs.ColumnSets.{whole, set_of}
use Rattle.text.specs.Text.{ascii, digits, decimal, line, item, pair_item, pair_unless, pair_items, columns_from, column_items}
use Rattle.reason_report.specs.ReasonReport.{multiplier_items, multiplier_line, reason_text}

s3_example : reason_text (record { refusal = 0; set = set_of 3; given = true; multipliers = 1 ∷ replicate (most_columns - 1) 0 }) ≡ ascii "reason 0 1\nmultipliers 0:1\n"
unfolding ascii digits decimal line item pair_item pair_unless pair_items columns_from column_items multiplier_items multiplier_line reason_text members whole set_of flat_map
s3_example = refl

s4_example : reason_text (record { refusal = 0; set = set_of 12; given = true; multipliers = 0 ∷ 0 ∷ 1 ∷ replicate (most_columns - 3) 0 }) ≡ ascii "reason 2 3\nmultipliers 2:1\n"
unfolding ascii digits decimal line item pair_item pair_unless pair_items columns_from column_items multiplier_items multiplier_line reason_text members whole set_of flat_map
s4_example = refl

s1_example : reason_text (record { refusal = 0; set = set_of 1; given = true; multipliers = replicate most_columns 0 }) ≡ ascii "reason 0\nmultipliers\n"
unfolding ascii digits decimal line item pair_item pair_unless pair_items columns_from column_items multiplier_items multiplier_line reason_text members whole set_of flat_map
s1_example = refl

shared_row_example : reason_text (record { refusal = 0; set = set_of 3; given = false; multipliers = replicate most_columns 0 }) ≡ ascii "reason 0 1\n"
unfolding ascii digits decimal line item columns_from column_items multiplier_line reason_text members whole set_of flat_map
shared_row_example = refl
