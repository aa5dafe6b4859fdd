use Rattle.std.proofs.Common.{◌≡◌, ◌-◌, length, take, ◌++◌}
use Rattle.std.specs.Slice.Iter.{chunks_exact_rest, chunks_exact_size}
use Rattle.columns.specs.Columns.{members}
use Rattle.columns.specs.ColumnSets.{whole}
use Rattle.format.specs.Numbers.{spread}
use Rattle.format.specs.File.Format.{entries}
use Rattle.loader.proofs.numbers.put_row.Given as goal

abbrev pub invariant-loop-c : goal.invariant-loop-c
invariant-loop-c l = record {
  put : take l.c l.out ++ spread (members (whole l.set)) l.c (length l.out - l.c) (entries (chunks_exact_rest l.numbers))
      ≡ spread (members (whole l.set)) 0 (length l.out) (entries (chunks_exact_rest l.initial.numbers));
  by_two : chunks_exact_size l.numbers ≡ 2;
}
