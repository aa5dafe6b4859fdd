use Rattle.std.proofs.Common.{◌≡◌, ◌-◌}
use Rattle.format.specs.File.Piece.{said_rests}
use Rattle.loader.proofs.header.after_fields.Given as goal

abbrev pub invariant-loop : goal.invariant-loop
invariant-loop l = said_rests l.k l.file ≡ said_rests (l.k - l.counter) l.rest
