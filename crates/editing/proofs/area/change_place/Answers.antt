-- `area::change_place` meets its contract, by what the reading of the row and its writing ensure. Assumes nothing.
use Rattle.columns.specs.ColumnSets.{whole}
use Rattle.editing.proofs.AreaLaws.{row_put}
use Rattle.editing.proofs.area.change_place.Goals as goal

pub returns : goal.returns
returns c =
    row_put c.args.at c.args.size c.args.area.now _ c.args.c c.args.value (whole c.of_bytes-row.result) (whole c.changed.result)
    c.requires.0 c.requires.1 c.of_bytes-row.ensures.is_number c.changed.ensures c.put_set_front.ensures.bytes_are
