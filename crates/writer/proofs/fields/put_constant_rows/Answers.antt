-- `fields::put_constant_rows` meets its contract. Assumes nothing.
use Rattle.std.specs.Prelude.{◌+◌, ◌≤◌, ◌≡◌, length}
use Rattle.std.proofs.Common.{arith, ◌∙◌}
use Rattle.std.specs.Iterator.Adapters.{take_count}
use Rattle.format.specs.File.Steps.{constant_bytes}
use Rattle.format.specs.OverLaws.{wrote_none}
use Rattle.format.proofs.Puts.{wrote_put, put_all, room_left}
use Rattle.writer.proofs.Rows.{rows_taken, rows_held, rows_over, constant_rows_done}
use Rattle.writer.proofs.fields.put_constant_rows.Goals as goal

pub loop-row-init : goal.loop-row-init
loop-row-init c =
    let e = c.into_iter-row-iterator.ensures.into_iter_gives in
    let t = c.take-row-items.ensures in
    let x = c.chunks_exact.ensures in
    record { put = rw (e, t.count, t.source, x.rest) (wrote_none _ _ c.requires.3); held = rw (e, t.count, t.source, x.rest) c.requires.2; by_row = rw (e, t.source) x.size }

pub put_constant_row-at-requires : goal.put_constant_row-at-requires
put_constant_row-at-requires c =
    let i = c.loop-row.invariant in
    let s = c.in-Some.ensures.steps in
    let long : length c.in-Some.row.now ≡ c.args.n = s.0.1.1 ∙ i.by_row in
    rw long (c.requires.1, (room_left _ _ i.put (rows_taken c.args.n _ (take_count c.next.new.self) _ c.in-Some.row.now _ s.0.1.0 long s.1)).1)

pub overflow_add-at : goal.overflow_add-at
overflow_add-at c =
    let l = c.loop-row in
    let s = c.in-Some.ensures.steps in
    let long : length c.in-Some.row.now ≡ c.args.n = s.0.1.1 ∙ l.invariant.by_row in
    let fits : l.at + length (constant_bytes c.args.n c.in-Some.row.now) ≤ length l.out = (room_left _ _ l.invariant.put (rows_taken c.args.n _ (take_count c.next.new.self) _ c.in-Some.row.now _ s.0.1.0 long s.1)).0 in
    let many = (rw long at c.put_constant_row-at.ensures).many_is in
    omega (arith, many, fits, l.auto.out, c.well_formed)

pub loop-row-preserved : goal.loop-row-preserved
loop-row-preserved c =
    let i = c.loop-row.invariant in
    let s = c.in-Some.ensures.steps in
    let long : length c.in-Some.row.now ≡ c.args.n = s.0.1.1 ∙ i.by_row in
    record {
      put = wrote_put _ _ _ i.put (rows_taken c.args.n _ (take_count c.next.new.self) _ c.in-Some.row.now _ s.0.1.0 long s.1) (rw long at c.put_constant_row-at.ensures);
      held = rows_held c.args.n _ _ _ c.in-Some.row.now _ s.0.1.0 long s.1 i.held;
      by_row = s.0.0 ∙ i.by_row;
    }

pub returns : goal.returns
returns c =
    let i = c.loop-row.invariant in
    put_all i.put (constant_rows_done c.args.n _ _ (rows_over c.args.n _ _ c.requires.0 i.held (λ h. rw i.by_row at (c.in-None.ensures.steps h).1.0)))
