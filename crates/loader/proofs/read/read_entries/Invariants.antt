use Rattle.std.proofs.Common.{◌≡◌}
use Rattle.std.specs.Slice.Iter.{chunks_exact_rest, chunks_exact_size}
use Rattle.std.specs.Iterator.Adapters.{enumerate_source, enumerate_count}
use Rattle.format.specs.OverLaws.{Wrote}
use Rattle.format.specs.File.Format.{entries}
use Rattle.loader.proofs.read.read_entries.Given as goal

abbrev pub invariant-loop-i : goal.invariant-loop-i
invariant-loop-i l = record {
  put : Wrote (entries l.body) (entries (chunks_exact_rest (enumerate_source l.i-iterator))) l.initial.out l.out (enumerate_count l.i-iterator);
  by_two : chunks_exact_size (enumerate_source l.i-iterator) ≡ 2;
}
