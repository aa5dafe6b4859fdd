-- The lines of the blocks from k on are left to put. Assumes nothing.
use Rattle.std.proofs.Common.{◌-◌}
use Rattle.text.specs.PutLaws.{Putting}
use Rattle.blocks_report.specs.BlocksReport.{block_lines}
use Rattle.blocks_report.proofs.put_block_lines.Given as goal

abbrev pub invariant-loop-k : goal.invariant-loop-k
invariant-loop-k l = Putting (block_lines l.numbers l.count 0) (block_lines l.numbers (l.count - l.k) l.k) l.fn.out l.at l.out l.place
