-- The rows still to judge are in the unread rest.
use Rattle.std.proofs.Common.{◌-◌}
use Rattle.format.specs.File.Piece.{Piece, JudgesEach}
use Rattle.format.proofs.Judging.{Todo}
use Rattle.format.proofs.judge.judge_rows.Given as goal

abbrev pub invariant-loop : goal.invariant-loop
invariant-loop g l = (P : Piece (Unit {0})) → JudgesEach (goal.F-post g l.judge_row) P → Todo P l.count l.file (l.count - l.counter) l.rest
