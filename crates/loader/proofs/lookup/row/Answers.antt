-- `lookup::row` meets its contract: a row that is looked up lies within the file. Assumes nothing.
use Rattle.std.specs.Prelude.{◌+◌, ◌-◌, ◌≡◌, length, take, drop}
use Rattle.std.proofs.Common.{rules, arith, refl, sym, ap, ◌∙◌, length-drop}
use Rattle.std.proofs.Math.Seq.{length-take-le}
use Rattle.format.specs.Refusals.{head_bytes, said_length}
use Rattle.format.specs.File.FormatLaws.{decoded_valid}
use Rattle.format.proofs.Parts.{ends_within, said_rests_ends}
use Rattle.loader.proofs.Looking.{ok_given, err_given, lookup_accepted, lookup_none, lookup_place, lookup_part}
use Rattle.loader.proofs.lookup.row.Goals as goal

pub returns-then-is_err : goal.returns-then-is_err
returns-then-is_err c =
    let z = lookup_none _ _ _ c.judge_row.ensures (err_given _ (sym c.is_err.ensures.value ∙ c.if-is_err.true)) in
    (lookup_part _ _ 0 0 z.0 z.1, refl, omega (arith, z.0), sym z.1)

pub overflow_add-i : goal.overflow_add-i
overflow_add-i c =
    let a = lookup_accepted _ _ (sym c.judge_row.ensures ∙ ok_given _ (sym c.is_err.ensures.value ∙ c.if-is_err.false)) in
    omega (arith, a.1, (decoded_valid _ (λ i. search (rules, c.type_inv.file i)) a.0).a_most)

pub overflow_sub-start : goal.overflow_sub-start
overflow_sub-start c = rw c.after_fields-rest.ensures (ends_within (said_rests_ends _ _))

pub slice_bounds-result-end-2 : goal.slice_bounds-result-end-2
slice_bounds-result-end-2 c =
    let rest = c.after_fields-rest in
    let l = lookup_place c.args.file.now c.args.i _ c.judge_row.ensures (ok_given _ (sym c.is_err.ensures.value ∙ c.if-is_err.false)) _ _ (ap length rest.ensures)
    (c.said_length.ensures.0 ∙ ap said_length rest.ensures) in
    omega (arith, l)

pub returns : goal.returns
returns c =
    let rest = c.after_fields-rest in
    let l = lookup_place c.args.file.now c.args.i _ c.judge_row.ensures (ok_given _ (sym c.is_err.ensures.value ∙ c.if-is_err.false)) _ _ (ap length rest.ensures)
    (c.said_length.ensures.0 ∙ ap said_length rest.ensures) in
    let at = length c.args.file.now - length rest.result.now in
    let size = c.said_length.result in
    let q : at + head_bytes + size - (at + head_bytes) ≡ size = omega arith in
    let len : length (take (at + head_bytes + size - (at + head_bytes)) (drop (at + head_bytes) c.args.file.now)) ≡ size = rw q (length-take-le size _ (rw length-drop (omega arith))) in
    (lookup_part _ _ _ _ l.0 (l.1 ∙ sym q), refl, omega (arith, l.0), len ∙ sym l.1)
