use Rattle.std.proofs.Common.{ℕ, ◌<◌, length}
use Rattle.counting.specs.Sets.{◌∈◌}
use Rattle.columns.specs.Columns.{width, members}
use Rattle.columns.specs.ColumnSets.{whole}
use Rattle.columns.specs.Turns.{left}
use Rattle.format.specs.Numbers.{picked}
use Rattle.format.specs.File.Format.{entry_bytes}
use Rattle.writer.proofs.Putting.{Putting}
use Rattle.writer.proofs.fields.put_number_row.Given as goal

abbrev pub invariant-loop-c : goal.invariant-loop-c
invariant-loop-c l = record {
  put : Putting (entry_bytes (picked (members (whole l.fn.set)) 0 l.row)) (entry_bytes (picked (left l.c-iterator) 0 l.row)) l.initial.pen l.pen;
  inside : (x : ℕ) → x < width → x ∈ left l.c-iterator → x < length l.row;
}
