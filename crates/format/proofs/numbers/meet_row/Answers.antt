-- `numbers::meet_row` meets its contract. Assumes nothing.
use Rattle.format.specs.NumberLaws.{picked_next, picked_done}
use Rattle.format.proofs.Meeting.{meeting_all, meeting_stops, meeting_next, meeting_done}
use Rattle.format.proofs.numbers.meet_row.Goals as goal

pub loop-c-init : goal.loop-c-init
loop-c-init c = meeting_all

pub returns-then-not-meet_entry : goal.returns-then-not-meet_entry
returns-then-not-meet_entry c = meeting_stops c.loop-c.invariant _ _ (picked_next _ _ c.loop-c.c c.loop-c-test.true) (rw c.if-not-meet_entry.true at c.meet_entry.ensures)

pub loop-c-preserved : goal.loop-c-preserved
loop-c-preserved c = meeting_next c.loop-c.invariant _ _ (picked_next _ _ c.loop-c.c c.loop-c-test.true) (rw c.if-not-meet_entry.false at c.meet_entry.ensures)

pub returns : goal.returns
returns c = meeting_done c.loop-c.invariant (picked_done _ _ c.loop-c.c c.loop-c-test.false)
