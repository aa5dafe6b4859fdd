use Rattle.std.proofs.Common.{◌≡◌, ◌*◌, ◌≤◌, length}
use mathlib.Core.List.{flat_map}
use Rattle.std.specs.Iterator.Adapters.{take_source, take_count}
use Rattle.std.specs.Slice.Iter.{chunks_exact_rest, chunks_exact_size}
use Rattle.format.specs.Lists.{rows_of}
use Rattle.format.specs.File.Steps.{constant_bytes}
use Rattle.format.specs.OverLaws.{Wrote}
use Rattle.writer.proofs.fields.put_constant_rows.Given as goal

abbrev pub invariant-loop-row : goal.invariant-loop-row
invariant-loop-row l = record {
  put : Wrote (flat_map (constant_bytes l.n) (rows_of l.n l.a l.constants)) (flat_map (constant_bytes l.n) (rows_of l.n (take_count l.row-iterator) (chunks_exact_rest (take_source l.row-iterator)))) l.initial.out l.out l.at;
  held : take_count l.row-iterator * l.n ≤ length (chunks_exact_rest (take_source l.row-iterator));
  by_row : chunks_exact_size (take_source l.row-iterator) ≡ l.n;
}
