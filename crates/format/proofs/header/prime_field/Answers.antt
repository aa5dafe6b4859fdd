-- `header::prime_field` meets its contract. Assumes nothing.
use Rattle.std.proofs.Common.{sym, ap, ◌∙◌}
use Rattle.columns.specs.Bytes.{number}
use Rattle.format.specs.Refusals.{prime_test}
use Rattle.format.specs.RefusalLaws.{first_fails, zero_unless}
use Rattle.format.specs.File.Format.{prime_tag, prime_body, prime_field}
use Rattle.format.proofs.Judging.{handed, refused_then, refuses, gives, content_refused, content_passed}
use Rattle.format.proofs.Headers.{two_body}
use Rattle.format.proofs.header.prime_field.Goals as goal

pub returns-in_err-body : goal.returns-in_err-body
unfolding prime_field
returns-in_err-body c = handed _ c.from_residual.ensures.1 (refused_then _ _ _ c.in_err-body.ensures.refusal_is)

pub returns-then-not-prime_within : goal.returns-then-not-prime_within
unfolding prime_field
returns-then-not-prime_within c =
    let j = c.in_ok-body.ensures in
    let p = c.two-p.ensures.0 ∙ two_body _ c.in_ok-body.body.now j.given.body_is in
    refuses (content_refused prime_tag prime_body j _ (first_fails _ _ _ (ap prime_test (sym p) ∙ sym c.if-not-prime_within.ensures)))

pub returns : goal.returns
unfolding prime_field
returns c =
    let j = c.in_ok-body.ensures in
    let p = c.two-p.ensures.0 ∙ two_body _ c.in_ok-body.body.now j.given.body_is in
    gives (content_passed prime_tag prime_body j (zero_unless _ _ (ap prime_test (sym p) ∙ sym c.if-not-prime_within.ensures))) (record { p_is = p ∙ ap number j.given.body_is; rest_is = j.given.rest_is })
