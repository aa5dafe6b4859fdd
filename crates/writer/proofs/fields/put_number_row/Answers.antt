-- `fields::put_number_row` meets its contract: the head, and behind it the entries at the row's parameters. Assumes nothing.
use Rattle.std.specs.Prelude.{◌*◌, ◌≡◌, [], length}
use Rattle.std.proofs.Common.{rules, arith, refl, sym, ap, ◌∙◌}
use Rattle.columns.specs.Columns.{members}
use Rattle.columns.specs.ColumnSets.{whole}
use Rattle.format.specs.Numbers.{parameter_count, picked}
use Rattle.format.specs.File.Piece.{field_bytes}
use Rattle.format.specs.File.Format.{number_tag, entry_bytes}
use Rattle.format.specs.File.Steps.{number_bytes}
use Rattle.writer.proofs.Putting.{room_for, put_more, put_all, begun, room_first, room_second, puts_two, open_room, put_field}
use Rattle.writer.proofs.Rows.{size_few, size_is, picked_next, picked_done}
use Rattle.counting.specs.Sets.{Set}
use Rattle.columns.specs.Words.Operations.{within_iff}
use Rattle.columns.specs.Words.SetLaws.{removed_old}
use Rattle.writer.proofs.fields.put_number_row.Goals as goal

pub overflow_mul-size : goal.overflow_mul-size
overflow_mul-size c = omega (arith, size_few (whole c.args.set) c.size.result c.size.ensures)

pub head-requires : goal.head-requires
unfolding number_bytes
head-requires c = (
  omega (arith, size_few (whole c.args.set) c.size.result c.size.ensures),
  room_first (field_bytes number_tag (2 * parameter_count (length c.args.row.now) (whole c.args.set)) []) (entry_bytes (picked (members (whole c.args.set)) 0 c.args.row.now)) refl c.new-pen.result (open_room (number_bytes (length c.args.row.now) (whole c.args.set) c.args.row.now) c.new-pen.ensures c.requires.2),
)

pub loop-c-init : goal.loop-c-init
unfolding number_bytes
loop-c-init c =
    let n = length c.args.row.now in
    let w = whole c.args.set in
    let few : c.size.result ≡ parameter_count n w = size_is n c.size.result (search (rules, c.well_formed)) c.requires.1 c.size.ensures in
    let e = c.into_iter-c-iterator.ensures.into_iter_gives in
    record {
      put = rw e (begun _ _ (room_second (field_bytes number_tag (2 * parameter_count n w) []) (entry_bytes (picked (members w) 0 c.args.row.now)) refl c.new-pen.result (open_room (number_bytes (length c.args.row.now) (whole c.args.set) c.args.row.now) c.new-pen.ensures c.requires.2) (rw few at c.head.ensures)));
      inside = λ x h t. (within_iff n w).0 c.requires.1 x h (ap (λ (S : Set). S x) (sym e) ∙ t);
    }

pub put-requires : goal.put-requires
put-requires c =
    let i = c.loop-c.invariant in
    let s = c.in-Some.ensures.steps in
    room_for i.put _ _ (picked_next _ _ c.in-Some.c c.args.row.now c.to_le_bytes.result s (i.inside c.in-Some.c s.below s.there) (search (rules, c.type_inv.row c.in-Some.c)) c.to_le_bytes.ensures)

pub loop-c-preserved : goal.loop-c-preserved
loop-c-preserved c =
    let i = c.loop-c.invariant in
    let s = c.in-Some.ensures.steps in
    record {
      put = put_more i.put _ _ (picked_next _ _ c.in-Some.c c.args.row.now c.to_le_bytes.result s (i.inside c.in-Some.c s.below s.there) (search (rules, c.type_inv.row c.in-Some.c)) c.to_le_bytes.ensures) c.put.ensures;
      inside = λ x h t. i.inside x h (removed_old _ c.in-Some.c x (ap (λ (S : Set). S x) (sym s.others) ∙ t));
    }

pub returns : goal.returns
unfolding number_bytes
returns c =
    let few : c.size.result ≡ parameter_count (length c.args.row.now) (whole c.args.set) = size_is (length c.args.row.now) c.size.result (search (rules, c.well_formed)) c.requires.1 c.size.ensures in
    let bytes =
    puts_two (field_bytes number_tag (2 * parameter_count (length c.args.row.now) (whole c.args.set)) []) (entry_bytes (picked (members (whole c.args.set)) 0 c.args.row.now)) refl c.new-pen.result (open_room (number_bytes (length c.args.row.now) (whole c.args.set) c.args.row.now) c.new-pen.ensures c.requires.2) (rw few at c.head.ensures)
    (put_all c.loop-c.invariant.put (picked_done _ _ c.in-None.ensures.steps.0)) in
    put_field c.new-pen.ensures bytes (search rules)
