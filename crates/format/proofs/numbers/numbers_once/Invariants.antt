-- The numbers of the rows before r are met, and those of the rows from r on are still to be met, in the unread rest.
use Rattle.std.proofs.Common.{◌≡◌, ◌-◌, ◌*◌, ◌≤◌, length, take, drop}
use mathlib.Core.List.{flatten}
use Rattle.columns.specs.ColumnSets.{row_numbers}
use Rattle.format.specs.Numbers.{numbers_in}
use Rattle.format.specs.NumberTable.{table_words}
use Rattle.format.proofs.Meeting.{Met}
use Rattle.format.proofs.numbers.numbers_once.Given as goal

abbrev pub invariant-loop-r : goal.invariant-loop-r
invariant-loop-r l =
    let ws = take l.b (row_numbers l.parameters) in
    Met (flatten (numbers_in l.n ws l.numbers)) (flatten (numbers_in l.n (drop l.r ws) l.rest)) l.table × ((l.b - l.r) * l.n ≤ length l.rest) × (length l.table ≡ table_words)
