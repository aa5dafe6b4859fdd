-- The rows still to judge are in the unread rest, after the numbers that the table keeps.
use Rattle.std.proofs.Common.{◌≡◌, ◌-◌, ℕ, List, [], length}
use Rattle.format.specs.NumberTable.{table_words, Keeps}
use Rattle.format.specs.File.Format.{numbered_row, and_its_numbers}
use Rattle.format.proofs.Judging.{ChainTodo}
use Rattle.format.proofs.judge.judge_numbered_rows.Given as goal

abbrev pub invariant-loop : goal.invariant-loop
invariant-loop l =
    (before : List ℕ) × Keeps before l.table × ChainTodo (numbered_row l.n) and_its_numbers l.b [] l.file (l.b - l.counter) before l.rest × (length l.table ≡ table_words)
