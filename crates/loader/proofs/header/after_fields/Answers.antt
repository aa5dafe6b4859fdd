-- `header::after_fields` meets its contract. Assumes nothing.
use Rattle.std.specs.Prelude.{◌+◌, ◌-◌}
use Rattle.std.proofs.Common.{sym, ap, ◌∙◌}
use Rattle.format.specs.File.Piece.{said_rests}
use Rattle.loader.proofs.Reading.{rests_next, rests_done}
use Rattle.loader.proofs.header.after_fields.Goals as goal

pub loop-preserved : goal.loop-preserved
loop-preserved c =
    c.loop.invariant ∙ rests_next c.args.k c.loop.counter c.loop.rest.now c.loop-test.true ∙ ap (said_rests (c.args.k - (c.loop.counter + 1))) (sym c.said_rest-rest.ensures.bytes_are)

pub returns : goal.returns
returns c = sym (c.loop.invariant ∙ rests_done c.args.k c.loop.counter c.loop.rest.now c.loop-test.false)
