-- `numbers::meet_rest` meets its contract. Assumes nothing.
use Rattle.std.proofs.Common.{arith, ap, ◌∙◌}
use Rattle.std.specs.Slice.Iter.{chunks_exact_rest, chunks_exact_size}
use Rattle.format.specs.File.Format.{entries}
use Rattle.format.proofs.Entries.{entries_pair, entries_done}
use Rattle.format.proofs.Meeting.{meeting_all, meeting_stops, meeting_next, meeting_done}
use Rattle.format.proofs.numbers.meet_rest.Goals as goal

pub loop-pair-init : goal.loop-pair-init
loop-pair-init c =
    let cut = c.chunks_exact-pair-items.ensures in
    let same = c.into_iter-pair-iterator.ensures.into_iter_gives in
    let rest = ap chunks_exact_rest same ∙ cut.rest in
    (rw rest meeting_all, ap chunks_exact_size same ∙ cut.size)

pub returns-then-not-meet : goal.returns-then-not-meet
returns-then-not-meet c =
    let i = c.loop-pair.invariant in
    let s = c.in-Some.ensures.steps in
    meeting_stops i.0 _ _ (ap entries s.1.0 ∙ entries_pair c.in-Some.pair.now (chunks_exact_rest c.next.new.self) (s.1.1 ∙ i.1)) (rw c.if-not-meet.true at c.meet.ensures)

pub loop-pair-preserved : goal.loop-pair-preserved
loop-pair-preserved c =
    let i = c.loop-pair.invariant in
    let s = c.in-Some.ensures.steps in
    (meeting_next i.0 _ _ (ap entries s.1.0 ∙ entries_pair c.in-Some.pair.now (chunks_exact_rest c.next.new.self) (s.1.1 ∙ i.1)) (rw c.if-not-meet.false at c.meet.ensures), s.0 ∙ i.1)

pub returns : goal.returns
returns c =
    let i = c.loop-pair.invariant in
    meeting_done i.0 (entries_done (chunks_exact_rest c.loop-pair.pair-iterator) (omega (arith, c.in-None.ensures.steps.1.0, i.1)))
