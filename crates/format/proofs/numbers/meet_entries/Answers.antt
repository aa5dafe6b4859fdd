-- `numbers::meet_entries` meets its contract. Assumes nothing.
use Rattle.std.proofs.Common.{arith, sym, ap, ◌∙◌}
use Rattle.std.specs.Slice.Iter.{chunks_exact_rest, chunks_exact_size}
use Rattle.format.specs.File.Format.{entries}
use Rattle.format.proofs.Entries.{entries_four, no_eight, no_eight_next, no_eight_done}
use Rattle.format.proofs.Meeting.{meeting_all, meeting_stops, meeting_next, meeting_last}
use Rattle.format.proofs.numbers.meet_entries.Goals as goal

pub loop-four-init : goal.loop-four-init
loop-four-init c =
    let cut = c.chunks_exact-fours.ensures in
    let same = c.into_iter-four-iterator.ensures.into_iter_gives in
    let left = ap chunks_exact_rest same ∙ cut.rest in
    (rw left meeting_all, ap chunks_exact_size same ∙ cut.size, ap no_eight left ∙ sym (c.remainder-rest.ensures ∙ cut.remainder))

pub returns-then-not-meet_four : goal.returns-then-not-meet_four
returns-then-not-meet_four c =
    let i = c.loop-four.invariant in
    let s = c.in-Some.ensures.steps in
    let q = (entries_four c.in-Some.four.now (chunks_exact_rest c.next.new.self) (s.1.1 ∙ i.1)).1 in
    meeting_stops i.0 _ _ (ap entries s.1.0 ∙ q) (rw c.if-not-meet_four.true at c.meet_four.ensures)

pub loop-four-preserved : goal.loop-four-preserved
loop-four-preserved c =
    let i = c.loop-four.invariant in
    let s = c.in-Some.ensures.steps in
    let n = s.1.1 ∙ i.1 in
    let q = (entries_four c.in-Some.four.now (chunks_exact_rest c.next.new.self) n).1 in (
      meeting_next i.0 _ _ (ap entries s.1.0 ∙ q) (rw c.if-not-meet_four.false at c.meet_four.ensures),
      s.0 ∙ i.1,
      sym (ap no_eight s.1.0 ∙ no_eight_next c.in-Some.four.now (chunks_exact_rest c.next.new.self) n) ∙ i.2,
    )

pub returns : goal.returns
returns c =
    let i = c.loop-four.invariant in
    let left = chunks_exact_rest c.loop-four.four-iterator in
    let e = sym i.2 ∙ no_eight_done left (omega (arith, c.in-None.ensures.steps.1.0, i.1)) in
    meeting_last i.0 (rw e at c.meet_rest.ensures)
