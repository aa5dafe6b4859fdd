-- The text of a report of blocks, computed: that of 001's Example 3.1, S4's, and that of no block. Assumes nothing.
use Rattle.std.specs.Prelude.{◌-◌, ◌≡◌, refl, replicate}
use mathlib.Core.List.{◌∷◌, flat_map}
use Rattle.limits.specs.Limits.{most_columns, no_column}
use Rattle.text.specs.Text.{ascii, digits, decimal, line, item, columns_from, column_items, verdict_line}
use Rattle.blocks_report.specs.BlocksReport.{block_columns, block_line, block_lines, blocks_text}

example_3_1 : blocks_text 1 7 (record { refusal = 0; count = 4; numbers = 0 ∷ 2 ∷ 3 ∷ 2 ∷ 0 ∷ 1 ∷ 2 ∷ replicate (most_columns - 7) no_column }) ≡ ascii "block 0 0 4\nblock 1 5\nblock 2 1 3 6\nblock 3 2\nverdict determined\nrank 7\n"
unfolding ascii digits decimal line item columns_from column_items verdict_line block_columns block_line block_lines blocks_text flat_map
example_3_1 = refl

s4_example : blocks_text 0 4 (record { refusal = 0; count = 2; numbers = 0 ∷ 0 ∷ 1 ∷ 1 ∷ 0 ∷ replicate (most_columns - 5) no_column }) ≡ ascii "block 0 0 1 4\nblock 1 2 3\nverdict open\nrank 4\n"
unfolding ascii digits decimal line item columns_from column_items verdict_line block_columns block_line block_lines blocks_text flat_map
s4_example = refl

no_block_example : blocks_text 1 0 (record { refusal = 0; count = 0; numbers = replicate most_columns no_column }) ≡ ascii "verdict determined\nrank 0\n"
unfolding ascii digits decimal line item verdict_line block_lines blocks_text
no_block_example = refl
