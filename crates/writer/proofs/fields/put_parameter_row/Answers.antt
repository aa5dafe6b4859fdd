-- `fields::put_parameter_row` meets its contract: the head, and behind it the set's first bytes. Assumes nothing.
use Rattle.std.specs.Prelude.{[]}
use Rattle.std.proofs.Common.{rules, arith, refl}
use Rattle.columns.specs.Bytes.{bytes_of}
use Rattle.columns.specs.ColumnSets.{whole}
use Rattle.format.specs.File.Piece.{field_bytes}
use Rattle.format.specs.File.Format.{parameter_tag, parameter_size}
use Rattle.format.specs.File.RowSizes.{parameter_size_most}
use Rattle.format.specs.File.Steps.{parameter_bytes}
use Rattle.writer.proofs.Putting.{room_first, room_second, puts_two, open_room, put_field}
use Rattle.writer.proofs.fields.put_parameter_row.Goals as goal

pub head-requires : goal.head-requires
unfolding parameter_bytes
head-requires c = (
  omega (arith, c.parameter_size-size.ensures, parameter_size_most c.args.n),
  room_first (field_bytes parameter_tag (parameter_size c.args.n) []) (bytes_of (parameter_size c.args.n) (whole c.args.set)) refl c.new-pen.result (open_room (parameter_bytes c.args.n (whole c.args.set)) c.new-pen.ensures c.requires),
)

pub set-requires : goal.set-requires
unfolding parameter_bytes
set-requires c = (
  omega (arith, c.parameter_size-size.ensures, parameter_size_most c.args.n),
  rw c.parameter_size-size.ensures
      (room_second (field_bytes parameter_tag (parameter_size c.args.n) []) (bytes_of (parameter_size c.args.n) (whole c.args.set)) refl c.new-pen.result (open_room (parameter_bytes c.args.n (whole c.args.set)) c.new-pen.ensures c.requires) (rw c.parameter_size-size.ensures at c.head.ensures)),
)

pub returns : goal.returns
unfolding parameter_bytes
returns c =
    let bytes =
    puts_two (field_bytes parameter_tag (parameter_size c.args.n) []) (bytes_of (parameter_size c.args.n) (whole c.args.set)) refl c.new-pen.result (open_room (parameter_bytes c.args.n (whole c.args.set)) c.new-pen.ensures c.requires) (rw c.parameter_size-size.ensures at c.head.ensures)
    (rw c.parameter_size-size.ensures at c.set.ensures) in
    put_field c.new-pen.ensures bytes (search rules)
