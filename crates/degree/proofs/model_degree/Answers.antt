-- `degree::model_degree`: what is refused of the model and of the areas of powers, in their order, and then the question.
use Rattle.std.proofs.Common.{rules, arith, ◌≡◌, ◌≤◌, ◌*◌, ◌+◌, length, refl, sym, ap, ◌∙◌}
use Rattle.std.proofs.lemmas.Result.{err_from_is_err_and}
use native.Mathlib.Nat.{mul-le-mul}
use Rattle.limits.specs.Limits.{most_columns, most_rows, most_constants}
use Rattle.models.specs.Lent.{constants_lent, rows_lent, numbers_lent}
use Rattle.rank.specs.Modulus.{residue_of}
use Rattle.format.proofs.Refused.{refusal_some}
use Rattle.format.specs.TestLaws.{Accepted, model_accepted, size_reads}
use Rattle.layered.proofs.FileLaws.{call_refused, call_as}
use Rattle.degree.specs.Code.{ConstantsShown, tableau_of}
use Rattle.degree.proofs.TightLaws.{place_below}
use Rattle.degree.proofs.AnswerLaws.{accepted_copy}
use Rattle.degree.proofs.JudgementLaws.{hold_reads, sizes_refused, sizes_pass, areas_refused, model_refused, question_left}
use Rattle.degree.proofs.FileLaws.{degree_refused}
use Rattle.format.specs.declared.refusals.Refusal.TheVariants.{AreaShort}
use Rattle.degree.proofs.model_degree.Goals.{In_ok-judged}
use Rattle.degree.proofs.model_degree.Goals as goal

pub returns-in-Some : goal.returns-in-Some
returns-in-Some c =
    let m = c.args.model.now in
    let w = c.args.powers.now in
    let f = c.in-Some.ensures in
    call_refused (f.is_number ∙ sizes_refused m.p m.n m.a m.b (constants_lent m) (rows_lent m) (numbers_lent m) w.rows.now w.columns.now w.parameters.now _ c.judge_model-judged.ensures f.is_first) (refusal_some _) (degree_refused _)

pub areas_hold-requires : goal.areas_hold-requires
areas_hold-requires c =
    let m = c.args.model.now in
    let w = c.args.powers.now in
    let n = c.in_default.ensures in
    let z = (size_reads m.n m.a m.b).0 (sizes_pass m.p m.n m.a m.b (constants_lent m) (rows_lent m) (numbers_lent m) w.rows.now w.columns.now w.parameters.now _ c.judge_model-judged.ensures n.0 n.1).1 in
    (z.1, z.3)

pub returns-then-not-areas_hold : goal.returns-then-not-areas_hold
returns-then-not-areas_hold c =
    let m = c.args.model.now in
    let w = c.args.powers.now in
    let n = c.in_default.ensures in
    call_refused (areas_refused m.p m.n m.a m.b (constants_lent m) (rows_lent m) (numbers_lent m) w.rows.now w.columns.now w.parameters.now _ c.judge_model-judged.ensures n.0 n.1 (sym c.areas_hold.ensures ∙ c.if-not-areas_hold.true)) (λ z. omega arith) (degree_refused AreaShort)

pub returns-in_err-judged : goal.returns-in_err-judged
returns-in_err-judged c =
    let m = c.args.model.now in
    let w = c.args.powers.now in
    let p = err_from_is_err_and c.from_residual.result c.from_residual.ensures.1 in
    rw (p.1, p.2)
    (call_refused (model_refused m.p m.n m.a m.b (constants_lent m) (rows_lent m) (numbers_lent m) w.rows.now w.columns.now w.parameters.now _ (rw c.in_err-judged.was at c.judge_model-judged.ensures) (sym c.areas_hold.ensures ∙ c.if-not-areas_hold.false) (refusal_some _)) (refusal_some _) (degree_refused _))

-- the model is accepted, and there are few constants
accepted : (c : In_ok-judged) → let m = c.args.model.now in Accepted m.p m.n m.a m.b (constants_lent m) (rows_lent m) (numbers_lent m)
accepted c = model_accepted _ _ _ _ _ _ _ (sym (rw c.in_ok-judged.was at c.judge_model-judged.ensures))

few : (c : In_ok-judged) → c.args.model.now.a * c.args.model.now.n ≤ most_rows * most_columns
few c = let h = accepted c in mul-le-mul {n₂ = most_rows} {m₂ = most_columns} h.a_most h.n_most

pub overflow_mul-model : goal.overflow_mul-model
overflow_mul-model c = omega (arith, few (goal.at.overflow_mul-model c).In_ok-judged)

pub copied-constants-requires : goal.copied-constants-requires
copied-constants-requires c = let j = (goal.at.copied-constants-requires c).In_ok-judged in ((accepted j).constants_lent, few j)

pub ask-requires : goal.ask-requires
ask-requires c =
    let j = (goal.at.ask-requires c).In_ok-judged in
    let m = c.args.model.now in
    let p = c.args.powers.now in
    let long : length c.copied-constants.result ≡ most_constants = search (rules, c.copied-constants.type_inv) in
    let w = hold_reads m.n m.a m.b p.rows.now p.columns.now p.parameters.now (sym c.areas_hold.ensures ∙ c.if-not-areas_hold.false) in
    (accepted_copy (accepted j) (omega (arith, long, few j)) c.copied-constants.ensures, w.0, w.1, w.2)

pub returns : goal.returns
returns c =
    let m = c.args.model.now in
    let p = c.args.powers.now in
    let Q = tableau_of m.p m.n (constants_lent m) in
    let shown : ConstantsShown m.p m.n m.a Q c.copied-constants.result = λ i x li lx. ap (residue_of m.p) (sym (c.copied-constants.ensures (i * m.n + x) (place_below m.n m.a i x li lx))) in
    call_as (question_left m.p m.n m.a m.b (constants_lent m) (rows_lent m) (numbers_lent m) p.rows.now p.columns.now p.parameters.now
    _ c.judge_model-judged.ensures (sym c.areas_hold.ensures ∙ c.if-not-areas_hold.false) (rw c.in_ok-judged.was refl)) (λ x. x) (c.ask.ensures Q shown)
