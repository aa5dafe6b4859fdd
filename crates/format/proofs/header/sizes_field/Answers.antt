-- `header::sizes_field` meets its contract. Assumes nothing.
use Rattle.std.proofs.Common.{refl, sym, ap}
use Rattle.format.specs.RefusalLaws.{first_fails, zero_unless}
use Rattle.format.specs.File.Format.{sizes_tag, sizes_body, sizes_field}
use Rattle.format.proofs.Judging.{handed, refused_then, refuses, gives, content_refused, content_passed}
use Rattle.format.proofs.header.sizes_field.Goals as goal

pub returns-in_err-body : goal.returns-in_err-body
unfolding sizes_field
returns-in_err-body c = handed _ c.from_residual.ensures.1 (refused_then _ _ _ c.in_err-body.ensures.refusal_is)

pub returns-then-not-sizes_within : goal.returns-then-not-sizes_within
unfolding sizes_field
returns-then-not-sizes_within c =
    let t = rw (c.from.ensures, c.from-2.ensures, c.from-3.ensures) at c.if-not-sizes_within.ensures in
    refuses (content_refused sizes_tag sizes_body c.in_ok-body.ensures _ (first_fails _ _ _ (sym t)))

pub returns : goal.returns
unfolding sizes_field
returns c =
    let g = c.in_ok-body.ensures in
    let t = rw (c.from.ensures, c.from-2.ensures, c.from-3.ensures) at c.if-not-sizes_within.ensures in
    gives (content_passed sizes_tag sizes_body g (zero_unless _ _ (sym t)))
    (record { p_is = refl; sizes_are = ap sizes_body.dec g.given.body_is; rest_is = g.given.rest_is })
