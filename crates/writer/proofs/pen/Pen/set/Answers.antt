-- `pen::Pen::set` meets its contract: the set's first bytes stand over the front of what is left. Assumes nothing.
use Rattle.std.specs.Prelude.{◌≡◌, ◌≤◌, ◌-◌, ◌+◌, List, ℕ, length, take, drop}
use Rattle.std.proofs.Common.{arith, refl, sym, ap, ◌∙◌}
use Rattle.limits.specs.Limits.{set_bytes}
use Rattle.columns.specs.Bytes.{bytes_of}
use Rattle.columns.specs.ColumnSets.{whole}
use Rattle.columns.specs.Words.Bytes.{bytes_front, bytes_of_length}
use Rattle.format.specs.Lists.{over_room}
use Rattle.format.specs.OverLaws.{over_room_fits}
use Rattle.format.proofs.Puts.{left_length}
use Rattle.writer.proofs.Putting.{put_left}
use Rattle.writer.proofs.pen.Pen.set.Goals as goal

pub returns : goal.returns
returns c =
    let p = c.args.self.now in
    let d = p.area.now in
    let bs = bytes_of c.args.size (whole c.args.set) in
    let part = take (length d - p.at) (drop p.at d) in
    let front : take c.args.size (bytes_of set_bytes (whole c.args.set)) ≡ bs = bytes_front c.args.size set_bytes (whole c.args.set) c.requires.0 in
    let long = bytes_of_length c.args.size (whole c.args.set) in
    let fits : length bs ≤ length part = omega (arith, left_length p.at d, c.requires.1) in
    let put = c.put_set_front.ensures.bytes_are ∙ ap (λ (x : List ℕ). over_room x part) front ∙ over_room_fits bs part fits in
    record { same_area = refl; at_is = ap (λ (k : ℕ). p.at + k) (sym long); bytes_are = put_left bs d c.put_set_front.new.out p.at put }
