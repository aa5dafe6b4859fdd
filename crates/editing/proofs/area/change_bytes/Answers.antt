-- `area::change_bytes` meets its contract, by what the writing of a row and that of the columns present ensure. Assumes nothing.
use Rattle.std.proofs.Common.{ℕ, List, true, false, length, ◌≡◌, ◌≤◌, sym, ap, ap₂, ◌∙◌, subst, arith}
use Rattle.limits.specs.Limits.{set_bytes}
use Rattle.columns.specs.Bytes.{bytes_of}
use Rattle.columns.specs.ColumnSets.{whole}
use Rattle.columns.specs.Words.Bytes.{bytes_of_length}
use Rattle.format.specs.Lists.{over, over_room}
use Rattle.format.specs.OverLaws.{over_room_fits}
use Rattle.format.specs.File.RowSizes.{parameter_size_most}
use Rattle.editing.specs.declared.edit.Edit.{Edit}
use Rattle.editing.specs.Edits.{meant, columns_done}
use Rattle.editing.specs.Areas.{EditRoom, row_done, bytes_done}
use Rattle.editing.proofs.area.change_bytes.Goals as goal

-- the room for what the edit changes, by what it is
room_for : (n a : ℕ) (area : List ℕ) {e f : Edit} → e ≡ f → EditRoom n a area (meant e) → EditRoom n a area (meant f)
room_for n a area is room = subst (λ (e : Edit). EditRoom n a area (meant e)) is room

-- the columns present, put anew
columns_put : (area last : List ℕ) (w x : ℕ) → set_bytes ≤ length area → last ≡ over_room (bytes_of set_bytes w) area → w ≡ x → last ≡ over (bytes_of set_bytes x) area
columns_put area last w x l e f = e ∙ over_room_fits (bytes_of set_bytes w) area (omega (arith, bytes_of_length set_bytes w)) ∙ ap (λ (y : ℕ). over (bytes_of set_bytes y) area) f

pub row_start-requires : goal.row_start-requires
row_start-requires c = let room = room_for c.args.n c.args.a c.args.area.now c.in-SetPlace.is c.requires.2 in (c.requires.0, c.requires.1, room.0)

pub change_place-requires : goal.change_place-requires
change_place-requires c =
    let room = room_for c.args.n c.args.a c.args.area.now c.in-SetPlace.is c.requires.2 in
    (omega (arith, c.row_start.ensures, c.parameter_size.ensures, room.1), omega (arith, c.parameter_size.ensures, parameter_size_most c.args.n))

pub row_start-requires-in-ClearPlace : goal.row_start-requires-in-ClearPlace
row_start-requires-in-ClearPlace c = let room = room_for c.args.n c.args.a c.args.area.now c.in-ClearPlace.is c.requires.2 in (c.requires.0, c.requires.1, room.0)

pub change_place-requires-in-ClearPlace : goal.change_place-requires-in-ClearPlace
change_place-requires-in-ClearPlace c =
    let room = room_for c.args.n c.args.a c.args.area.now c.in-ClearPlace.is c.requires.2 in
    (omega (arith, c.row_start-in-ClearPlace.ensures, c.parameter_size-in-ClearPlace.ensures, room.1), omega (arith, c.parameter_size-in-ClearPlace.ensures, parameter_size_most c.args.n))

pub returns-in-SetPlace : goal.returns-in-SetPlace
unfolding bytes_done
returns-in-SetPlace c =
    let area = c.args.area.now in
    c.change_place.ensures
    ∙ ap₂ (λ (at size : ℕ). row_done at size area c.in-SetPlace.c true) c.row_start.ensures c.parameter_size.ensures
    ∙ sym (ap (λ (e : Edit). bytes_done c.args.n c.args.a (whole c.args.present) area (meant e)) c.in-SetPlace.is)

pub returns-in-ClearPlace : goal.returns-in-ClearPlace
unfolding bytes_done
returns-in-ClearPlace c =
    let area = c.args.area.now in
    c.change_place-in-ClearPlace.ensures
    ∙ ap₂ (λ (at size : ℕ). row_done at size area c.in-ClearPlace.c false) c.row_start-in-ClearPlace.ensures c.parameter_size-in-ClearPlace.ensures
    ∙ sym (ap (λ (e : Edit). bytes_done c.args.n c.args.a (whole c.args.present) area (meant e)) c.in-ClearPlace.is)

pub returns-in-TakeOff : goal.returns-in-TakeOff
unfolding bytes_done
returns-in-TakeOff c =
    let area = c.args.area.now in
    let is = c.in-TakeOff.is in
    columns_put area _ _ _ (room_for c.args.n c.args.a area is c.requires.2) c.put_set.ensures.bytes_are c.changed_columns.ensures
    ∙ ap (λ (e : Edit). over (bytes_of set_bytes (columns_done (whole c.args.present) (meant e))) area) is
    ∙ sym (ap (λ (e : Edit). bytes_done c.args.n c.args.a (whole c.args.present) area (meant e)) is)

pub returns-in-PutBack : goal.returns-in-PutBack
unfolding bytes_done
returns-in-PutBack c =
    let area = c.args.area.now in
    let is = c.in-PutBack.is in
    columns_put area _ _ _ (room_for c.args.n c.args.a area is c.requires.2) c.put_set-in-PutBack.ensures.bytes_are c.changed_columns-in-PutBack.ensures
    ∙ ap (λ (e : Edit). over (bytes_of set_bytes (columns_done (whole c.args.present) (meant e))) area) is
    ∙ sym (ap (λ (e : Edit). bytes_done c.args.n c.args.a (whole c.args.present) area (meant e)) is)
