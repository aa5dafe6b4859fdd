-- The numbers of the fours so far are met, and those of the bytes that are left are still to be met: the last of these are those that make no four.
use Rattle.std.proofs.Common.{◌≡◌}
use Rattle.std.specs.Slice.Iter.{chunks_exact_rest, chunks_exact_size}
use Rattle.format.specs.File.Format.{entries}
use Rattle.format.proofs.Entries.{no_eight}
use Rattle.format.proofs.Meeting.{Meeting}
use Rattle.format.proofs.numbers.meet_entries.Given as goal

abbrev pub invariant-loop-four : goal.invariant-loop-four
invariant-loop-four l =
    let left = chunks_exact_rest l.four-iterator in
    Meeting (entries l.body) (entries left) l.initial.table l.table × (chunks_exact_size l.four-iterator ≡ 8) × (no_eight left ≡ l.rest)
