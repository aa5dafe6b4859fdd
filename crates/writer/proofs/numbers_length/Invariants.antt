use Rattle.std.proofs.Common.{◌≡◌, ◌+◌, ◌*◌, ◌≤◌, take, drop}
use Rattle.models.specs.Lent.{rows_lent}
use Rattle.format.specs.File.Format.{number_fields_size}
use Rattle.writer.proofs.numbers_length.Given as goal

abbrev pub invariant-loop-r : goal.invariant-loop-r
invariant-loop-r l = record {
  counted : l.length + number_fields_size l.model.n (drop l.r (take l.model.b (rows_lent l.model))) ≡ number_fields_size l.model.n (take l.model.b (rows_lent l.model));
  few : l.length ≤ l.r * 259;
}
