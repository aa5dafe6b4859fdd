-- `fields::said_rest` meets its contract. Assumes nothing.
use Rattle.std.proofs.Common.{ℕ, ◌≡◌, min, arith, refl, sym, ap, ◌∙◌, length, drop}
use Rattle.std.proofs.lemmas.List.{drop_min}
use Rattle.format.specs.Refusals.{head_bytes, said_length}
use Rattle.format.specs.File.Piece.{said_rest}
use Rattle.format.proofs.Parts.{ends_drop, part_next}
use Rattle.format.proofs.fields.said_rest.Goals as goal

pub returns : goal.returns
unfolding said_rest
returns c =
    let m = c.past_head-body in
    let s = c.args.rest.now in
    let u = drop head_bytes s in
    let z : c.min.result ≡ min (said_length s) (length u) = cc (c.min.ensures, m.ensures.bytes_are, c.said_length.ensures.0) in
    part_next m.ensures (ends_drop head_bytes s) c.min.result (omega (arith, c.min.ensures)) (sym (ap (λ (k : ℕ). drop k u) z ∙ drop_min (said_length s) u)) refl refl refl
