-- The lines of a mixed answer: how long they are. Assumes nothing.
use Prim.Native.Nat.{◌≤◌, ◌<◌}
use native.Mathlib.Omega.{arith}
use lib.ListN.{length, length-append}
use Rattle.columns.specs.Columns.{members}
use Rattle.columns.specs.ColumnSets.{whole}
use Rattle.text.specs.Text.{ascii}
use Rattle.text.specs.TextLaws.{item_length, column_items_length, line_length, verdict_line_length}
use Rattle.mixed.specs.Shown.{MixedAnswer}
use Rattle.mixed_report.specs.MixedReport.{mixed_answer_text, longest_mixed_report}

pub mixed_answer_length : (t : MixedAnswer) → t.rank < 1000 → length (mixed_answer_text t) ≤ longest_mixed_report
unfolding mixed_answer_text ascii
mixed_answer_length t h =
    let v = verdict_line_length t.verdict in
    let r = item_length 2 t.rank (omega arith) in
    let i = column_items_length (members (whole t.rows)) in
    let j = column_items_length (members (whole t.columns)) in
    let s = column_items_length (members (whole t.short)) in
    simp (length-append, line_length) (omega arith)
