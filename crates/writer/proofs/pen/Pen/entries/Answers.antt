-- `pen::Pen::entries` meets its contract. Assumes nothing.
use Rattle.std.proofs.Common.{rules}
use Rattle.writer.proofs.Putting.{room_for, put_more, put_all}
use Rattle.writer.proofs.Rows.{entry_next, entries_done}
use Rattle.writer.proofs.pen.Pen.entries.Goals as goal

pub put-requires : goal.put-requires
put-requires c =
    let l = c.loop-number in
    room_for l.invariant _ _ (entry_next c.args.numbers.now l.number-index c.to_le_bytes.result c.loop-number-test.true (search (rules, c.type_inv.numbers l.number-index)) c.to_le_bytes.ensures)

pub loop-number-preserved : goal.loop-number-preserved
loop-number-preserved c =
    let l = c.loop-number in
    put_more l.invariant _ _ (entry_next c.args.numbers.now l.number-index c.to_le_bytes.result c.loop-number-test.true (search (rules, c.type_inv.numbers l.number-index)) c.to_le_bytes.ensures) c.put.ensures

pub returns : goal.returns
returns c = put_all c.loop-number.invariant (entries_done c.args.numbers.now c.loop-number.number-index c.loop-number-test.false)
