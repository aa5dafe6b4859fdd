-- `sets::put_set_front` meets its contract. Assumes nothing.
use Rattle.std.proofs.Common.{◌≡◌, ◌+◌, ◌<◌, ◌≤◌, ◌∷◌, arith, refl, sym, ◌∙◌, add-one, length, get_or, take, drop, drop_of_length-le, le-leb}
use Rattle.std.proofs.lemmas.Bool.{lt-leb}
use lib.Seq.{drop-cons, get_or-take}
use Rattle.columns.specs.Bytes.{bytes_of}
use Rattle.columns.specs.Columns.{room_bytes}
use Rattle.columns.specs.ColumnSets.{whole}
use Rattle.columns.specs.Words.Bytes.{bytes_of_length, bytes_agree}
use Rattle.limits.specs.Limits.{set_bytes}
use Rattle.format.specs.Refusals.{area_test}
use Rattle.format.specs.RefusalLaws.{first_fails, zero_unless}
use Rattle.format.specs.OverLaws.{over_room_fits, over_no_room, wrote_none, wrote_set, wrote_all}
use Rattle.format.proofs.Parts.{front_length}
use Rattle.format.proofs.sets.put_set_front.Goals as goal

pub returns-then-out-end : goal.returns-then-out-end
unfolding area_test
returns-then-out-end c =
    let all = bytes_of set_bytes (whole c.args.set) in
    let e = front_length c.args.many all in
    let short : length c.args.out.now < length (take c.args.many all) = omega (arith, c.min-end.ensures) in
    record { refusal_is = first_fails _ _ _ (lt-leb _ _ short); bytes_are = over_no_room _ _ short }

pub loop-at-init : goal.loop-at-init
loop-at-init c =
    let e = front_length c.args.many (bytes_of set_bytes (whole c.args.set)) in
    (wrote_none _ _ (omega (arith, c.min-end.ensures)), omega arith)

pub loop-at-preserved : goal.loop-at-preserved
loop-at-preserved c =
    let l = c.loop-at in
    let all = bytes_of set_bytes (whole c.args.set) in
    let front = take c.args.many all in
    let e = front_length c.args.many all in
    let below : l.at < length front = omega (arith, c.min-end.ensures) in
    let same = bytes_agree set_bytes room_bytes l.at (whole c.args.set) (omega (arith, bytes_of_length set_bytes (whole c.args.set))) (omega (arith, bytes_of_length set_bytes (whole c.args.set))) in
    let byte : get_or front l.at 0 ≡ c.byte.result = get_or-take c.args.many all l.at 0 (omega arith) ∙ same ∙ sym c.byte.ensures in
    let next : drop l.at front ≡ c.byte.result ∷ drop (l.at + 1) front = drop-cons front l.at 0 below ∙ rw (byte, add-one) refl in
    (wrote_set c.byte.result _ l.invariant.0 next, omega arith)

pub returns : goal.returns
unfolding area_test
returns c =
    let l = c.loop-at in
    let all = bytes_of set_bytes (whole c.args.set) in
    let front = take c.args.many all in
    let e = front_length c.args.many all in
    let fits : length front ≤ length c.args.out.now = omega (arith, c.min-end.ensures) in
    record {
      refusal_is = sym (zero_unless _ _ (le-leb _ _ fits));
      bytes_are = wrote_all l.invariant.0 (drop_of_length-le front {i = l.at} (omega (arith, c.min-end.ensures))) ∙ sym (over_room_fits front c.args.out.now fits);
    }
