-- `read::read_constants` meets its contract. Assumes nothing.
use Rattle.std.specs.Prelude.{ℕ, List, ◌+◌, ◌-◌, ◌≤◌, ◌≡◌, ◌++◌, length}
use Rattle.std.proofs.Common.{arith, sym, ap, ◌∙◌}
use Rattle.format.specs.File.Piece.{said_body}
use Rattle.format.specs.File.Format.{entries}
use Rattle.format.specs.File.Steps.{constants_said}
use Rattle.format.specs.OverLaws.{wrote_none, wrote_all}
use Rattle.format.proofs.Puts.{wrote_put, room_left}
use Rattle.loader.proofs.Reading.{constants_next, constants_done}
use Rattle.loader.proofs.read.read_constants.Goals as goal

pub loop-init : goal.loop-init
loop-init c = let all : c.args.a - 0 ≡ c.args.a = omega arith in rw all (wrote_none _ _ c.requires)

pub read_entries-at-requires : goal.read_entries-at-requires
read_entries-at-requires c =
    let l = c.loop in
    rw c.said_body.ensures.bytes_are (room_left (entries (said_body l.rest.now)) _ l.invariant (constants_next c.args.a l.counter l.rest.now c.loop-test.true)).1

pub overflow_add-at : goal.overflow_add-at
overflow_add-at c =
    let l = c.loop in
    let m = c.read_entries-at.ensures.many_is ∙ ap (λ (s : List ℕ). length (entries s)) c.said_body.ensures.bytes_are in
    let r : l.at + length (entries (said_body l.rest.now)) ≤ length l.out = (room_left (entries (said_body l.rest.now)) _ l.invariant (constants_next c.args.a l.counter l.rest.now c.loop-test.true)).0 in
    omega (arith, l.auto.out, c.well_formed)

pub loop-preserved : goal.loop-preserved
loop-preserved c =
    let l = c.loop in
    let r = l.rest.now in
    wrote_put (entries (said_body r)) _ _ l.invariant
    (constants_next c.args.a l.counter r c.loop-test.true ∙ ap (λ (s : List ℕ). entries (said_body r) ++ constants_said (c.args.a - (l.counter + 1)) s) (sym c.said_rest-rest.ensures.bytes_are))
    (rw c.said_body.ensures.bytes_are at c.read_entries-at.ensures)

pub returns : goal.returns
returns c = wrote_all c.loop.invariant (constants_done c.args.a c.loop.counter c.loop.rest.now c.loop-test.false)
