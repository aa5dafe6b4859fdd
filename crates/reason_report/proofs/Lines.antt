-- The lines of a reason: when there are multipliers, and how long the lines are. Assumes nothing.
use Prim.Native.Nat.{ℕ, ◌+◌, ◌*◌, ◌≤◌, ◌<◌}
use mathlib.Core.Path.{◌≡◌, refl}
use mathlib.Core.Bool.{Bool, true, false}
use mathlib.Core.List.{List, []}
use native.Mathlib.Omega.{arith}
use lib.ListN.{length, get_or, length-append}
use Rattle.std.proofs.lemmas.List.{length-replicate}
use Rattle.std.specs.Prelude.{Option, None, Some, Ok}
use Rattle.limits.specs.Limits.{most_columns}
use Rattle.columns.specs.Columns.{members}
use Rattle.columns.specs.ColumnSets.{whole}
use Rattle.format.specs.NumberLaws.{zeros}
use Rattle.text.specs.Text.{ascii, line}
use Rattle.text.specs.TextLaws.{pairs_length, column_items_length, line_length}
use Rattle.reason.specs.Shown.{Reason, given_multipliers, reason_shown}
use Rattle.reason.specs.declared.Reason as code
use Rattle.reason_report.specs.ReasonReport.{multiplier_items, multiplier_line, reason_text, longest_reason_report}

pub line_given : (given : Bool) (ms : List ℕ) → given ≡ true → multiplier_line given ms ≡ line (ascii "multipliers") (multiplier_items ms)
unfolding multiplier_line
line_given given ms e = rw e refl

pub line_none : (given : Bool) (ms : List ℕ) → given ≡ false → multiplier_line given ms ≡ []
unfolding multiplier_line
line_none given ms e = rw e refl

-- a column is a number of at most two digits, a multiplier one of at most five
multiplier_line_length : (given : Bool) (ms : List ℕ) → length ms ≡ most_columns → ((i : ℕ) → get_or ms i 0 < 100000) → length (multiplier_line given ms) ≤ 12 + 9 * length ms
unfolding multiplier_items multiplier_line ascii
multiplier_line_length true ms n g = rw line_length (omega (arith, pairs_length 1 4 0 0 ms (omega arith) g))
multiplier_line_length false ms n g = omega arith

pub reason_text_length : (r : Reason) → length r.multipliers ≡ most_columns → ((i : ℕ) → get_or r.multipliers i 0 < 100000) → length (reason_text r) ≤ longest_reason_report
unfolding reason_text ascii
reason_text_length r n g =
    let s = column_items_length (members (whole r.set)) in
    let m = multiplier_line_length r.given r.multipliers n g in
    simp (length-append, line_length) (omega arith)

-- a row of multipliers, each a number of at most five digits; zeros where none are given
abbrev pub Printable : List ℕ → Type 0
Printable ms = (length ms ≡ most_columns) × ((i : ℕ) → get_or ms i 0 < 100000)

given_printable : (given : Option (List ℕ)) → ((ms : List ℕ) → given ≡ Some ms → Printable ms) → Printable (given_multipliers given)
given_printable None h = (length-replicate {A = ℕ} most_columns 0, λ i. omega (arith, zeros most_columns i))
given_printable (Some ms) h = h ms refl

pub reason_shown_length : (r : code.Reason) → ((ms : List ℕ) → r.multipliers ≡ Some ms → Printable ms) → length (reason_text (reason_shown (Ok r))) ≤ longest_reason_report
reason_shown_length r h = let p = given_printable r.multipliers h in reason_text_length (reason_shown (Ok r)) p.0 p.1
