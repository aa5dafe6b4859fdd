-- `fields::put_constant_row` meets its contract: the head, and behind it the entries. Assumes nothing.
use Rattle.std.specs.Prelude.{[], ◌*◌, length}
use Rattle.std.proofs.Common.{rules, arith, refl}
use Rattle.format.specs.File.Piece.{field_bytes}
use Rattle.format.specs.File.Format.{constant_tag, entry_bytes}
use Rattle.format.specs.File.Steps.{constant_bytes}
use Rattle.writer.proofs.Putting.{room_first, room_second, puts_two, open_room, put_field}
use Rattle.writer.proofs.fields.put_constant_row.Goals as goal

pub head-requires : goal.head-requires
unfolding constant_bytes
head-requires c = (omega (arith, c.requires.0), room_first (field_bytes constant_tag (2 * length c.args.row.now) []) (entry_bytes c.args.row.now) refl c.new-pen.result (open_room (constant_bytes (length c.args.row.now) c.args.row.now) c.new-pen.ensures c.requires.1))

pub entries-requires : goal.entries-requires
unfolding constant_bytes
entries-requires c = room_second (field_bytes constant_tag (2 * length c.args.row.now) []) (entry_bytes c.args.row.now) refl c.new-pen.result (open_room (constant_bytes (length c.args.row.now) c.args.row.now) c.new-pen.ensures c.requires.1) c.head.ensures

pub returns : goal.returns
unfolding constant_bytes
returns c =
    let bytes = puts_two (field_bytes constant_tag (2 * length c.args.row.now) []) (entry_bytes c.args.row.now) refl c.new-pen.result (open_room (constant_bytes (length c.args.row.now) c.args.row.now) c.new-pen.ensures c.requires.1) c.head.ensures c.entries.ensures in
    put_field c.new-pen.ensures bytes (search rules)
