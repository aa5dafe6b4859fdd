-- The bytes before place `at` are written, and those from it on are left.
use Rattle.std.proofs.Common.{◌≤◌, length, take, drop}
use Rattle.columns.specs.Bytes.{bytes_of}
use Rattle.columns.specs.ColumnSets.{whole}
use Rattle.limits.specs.Limits.{set_bytes}
use Rattle.format.specs.OverLaws.{Wrote}
use Rattle.format.proofs.sets.put_set_front.Given as goal

abbrev pub invariant-loop-at : goal.invariant-loop-at
invariant-loop-at l = let all = take l.many (bytes_of set_bytes (whole l.set)) in Wrote all (drop l.at all) l.initial.out l.out l.at × (l.at ≤ length all)
