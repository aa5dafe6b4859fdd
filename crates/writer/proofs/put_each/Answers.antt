-- `put_each` meets its contract. Assumes nothing.
use Rattle.std.specs.Prelude.{◌≤◌, ◌<◌, length}
use Rattle.std.proofs.Common.{rules, arith, sym, ◌∙◌, le-leb}
use Rattle.std.proofs.lemmas.Bool.{lt-leb}
use Rattle.format.specs.Refusals.{area_test}
use Rattle.format.specs.RefusalLaws.{first_fails, zero_unless}
use Rattle.format.specs.OverLaws.{over_room_fits, over_no_room}
use Rattle.format.specs.File.Format.{entry_bytes}
use Rattle.format.specs.File.BodyLaws.{entries_back}
use Rattle.writer.proofs.Putting.{put_over, open_room}
use Rattle.writer.proofs.put_each.Goals as goal

pub returns-then-out-numbers : goal.returns-then-out-numbers
unfolding area_test
returns-then-out-numbers c =
    let short : length c.args.out.now < length (entry_bytes c.args.numbers.now) = omega (arith, (entries_back c.args.numbers.now).0) in
    record { refusal_is = first_fails _ _ _ (lt-leb _ _ short); bytes_are = over_no_room _ _ short }

pub entries-requires : goal.entries-requires
entries-requires c = open_room _ c.new-pen.ensures (omega (arith, (entries_back c.args.numbers.now).0, c.if-out-numbers.false))

pub returns : goal.returns
unfolding area_test
returns c =
    let fits : length (entry_bytes c.args.numbers.now) ≤ length c.args.out.now = omega (arith, (entries_back c.args.numbers.now).0, c.if-out-numbers.false) in
    record {
      refusal_is = sym (zero_unless _ _ (le-leb _ _ fits));
      bytes_are = put_over c.new-pen.ensures c.entries.ensures (search rules) ∙ sym (over_room_fits _ _ fits);
    }
