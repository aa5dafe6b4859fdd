-- The numbers of the pairs so far are met, and those of the pairs that are left are still to be met.
use Rattle.std.proofs.Common.{◌≡◌}
use Rattle.std.specs.Slice.Iter.{chunks_exact_rest, chunks_exact_size}
use Rattle.format.specs.File.Format.{entries}
use Rattle.format.proofs.Meeting.{Meeting}
use Rattle.format.proofs.numbers.meet_rest.Given as goal

abbrev pub invariant-loop-pair : goal.invariant-loop-pair
invariant-loop-pair l = Meeting (entries l.body) (entries (chunks_exact_rest l.pair-iterator)) l.initial.table l.table × (chunks_exact_size l.pair-iterator ≡ 2)
