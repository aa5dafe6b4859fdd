-- `fields::said_body` meets its contract. Assumes nothing.
use Rattle.std.proofs.Common.{ℕ, ◌≡◌, refl, ap, ◌∙◌, take, drop}
use Rattle.std.proofs.lemmas.List.{take_min}
use Rattle.format.specs.Refusals.{head_bytes, said_length}
use Rattle.format.specs.File.Piece.{said_body}
use Rattle.format.proofs.Parts.{part_front}
use Rattle.format.proofs.fields.said_body.Goals as goal

pub returns : goal.returns
unfolding said_body
returns c =
    let m = c.past_head-body in
    let s = c.args.rest.now in
    let q : take c.said_length.result m.result.now ≡ take (said_length s) (drop head_bytes s) = cc (m.ensures.bytes_are, c.said_length.ensures.0) in
    part_front m.ensures (ap (λ (k : ℕ). take k m.result.now) c.min.ensures ∙ take_min c.said_length.result m.result.now ∙ q) refl refl
