-- `judge::judge_parameter_row` meets its contract. Assumes nothing.
use Rattle.std.proofs.Common.{◌≡◌, arith, rules, sym, ap, ◌∙◌}
use lib.Seq.{take_all}
use Rattle.columns.specs.Bytes.{number}
use Rattle.columns.specs.Columns.{room_bytes, within}
use Rattle.columns.specs.ColumnSets.{whole}
use Rattle.columns.specs.Words.Sets.{whole_below}
use Rattle.format.specs.RefusalLaws.{first_fails, zero_unless}
use Rattle.format.specs.File.Format.{parameter_tag, parameter_body, parameter_row}
use Rattle.format.specs.File.RowSizes.{parameter_size_most}
use Rattle.format.proofs.Judging.{handed, refused_then, refuses, gives, content_refused, content_passed}
use Rattle.format.proofs.judge.judge_parameter_row.Goals as goal

pub returns-in_err-body : goal.returns-in_err-body
unfolding parameter_row
returns-in_err-body c =
    let j = rw (c.parameter_size.ensures, c.from.ensures) at c.in_err-body.ensures in
    handed _ c.from_residual.ensures.1 (refused_then _ _ _ j.refusal_is)

pub returns-then-not-within : goal.returns-then-not-within
unfolding parameter_row
returns-then-not-within c =
    let n = c.args.n in
    let b = c.in_ok-body.body.now in
    let j = rw (c.parameter_size.ensures, c.from.ensures) at c.in_ok-body.ensures in
    let set : whole c.of_bytes-set.result ≡ number b = c.of_bytes-set.ensures.is_number ∙ ap number (take_all room_bytes b (omega (arith, parameter_size_most n, j.given.body_length))) in
    refuses (content_refused parameter_tag (parameter_body n) j _ (first_fails _ _ _ (ap (within n) (sym set) ∙ sym (rw c.from-2.ensures at c.if-not-within.ensures))))

pub returns : goal.returns
unfolding parameter_row
returns c =
    let n = c.args.n in
    let b = c.in_ok-body.body.now in
    let j = rw (c.parameter_size.ensures, c.from.ensures) at c.in_ok-body.ensures in
    let set : whole c.of_bytes-set.result ≡ number b = c.of_bytes-set.ensures.is_number ∙ ap number (take_all room_bytes b (omega (arith, parameter_size_most n, j.given.body_length))) in
    gives (content_passed parameter_tag (parameter_body n) j (zero_unless _ _ (ap (within n) (sym set) ∙ sym (rw c.from-2.ensures at c.if-not-within.ensures)))) (record { set_is = set ∙ ap number j.given.body_is; set_fits = whole_below _ (search (rules, c.of_bytes-set.type_inv)); rest_is = j.given.rest_is.bytes_are })
