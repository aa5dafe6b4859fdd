use Rattle.std.proofs.Common.{drop}
use Rattle.format.specs.File.Format.{entry_bytes}
use Rattle.writer.proofs.Putting.{Putting}
use Rattle.writer.proofs.pen.Pen.entries.Given as goal

abbrev pub invariant-loop-number : goal.invariant-loop-number
invariant-loop-number l = Putting (entry_bytes l.numbers) (entry_bytes (drop l.number-index l.numbers)) l.initial.self l.self
