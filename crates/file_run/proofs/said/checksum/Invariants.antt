-- `said::checksum` is safe: the sum stays below 65,521.
use Rattle.std.proofs.Common.{◌<◌}
use Rattle.file_run.proofs.said.checksum.Given as goal

abbrev pub invariant-loop-x : goal.invariant-loop-x
invariant-loop-x l = l.sum < 65521
