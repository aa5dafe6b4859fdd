-- `degree::file_degree`: the file's refusals, those of the areas of powers, and then the question.
use Rattle.std.proofs.Common.{rules, arith, refl, sym, ◌∙◌}
use Rattle.std.proofs.Math.Option.{none}
use Rattle.std.proofs.lemmas.Result.{err_from_is_err_and}
use Rattle.columns.specs.ColumnSets.{row_numbers}
use Rattle.columns.specs.Words.Bytes.{AreBytes}
use Rattle.format.proofs.Refused.{refusal_some}
use Rattle.format.specs.RefusalLaws.{then_refused}
use Rattle.format.specs.File.Piece.{closed}
use Rattle.format.specs.File.Format.{fields, judge}
use Rattle.format.specs.TestLaws.{Accepted, model_accepted}
use Rattle.layered.proofs.FileLaws.{own_refusal, own_accepted, call_refused, call_as}
use Rattle.degree.specs.Code.{tableau_of}
use Rattle.degree.proofs.JudgementLaws.{hold_reads, areas_short, areas_passed}
use Rattle.degree.proofs.FileLaws.{own_call, degree_refused}
use Rattle.format.specs.declared.refusals.Refusal.TheVariants.{AreaShort}
use Rattle.degree.proofs.file_degree.Goals.{In_ok-sizes}
use Rattle.degree.proofs.file_degree.Goals as goal

pub returns-in_err-sizes : goal.returns-in_err-sizes
unfolding judge
returns-in_err-sizes c =
    let bytes : AreBytes c.args.file.now = λ i. search (rules, c.type_inv.file i) in
    let p = err_from_is_err_and c.from_residual.result c.from_residual.ensures.1 in
    rw (p.1, p.2) (call_refused (then_refused (closed fields c.args.file.now) _ _ (own_refusal bytes c.in_err-sizes.ensures) (refusal_some _)) (refusal_some _) (degree_refused _))

-- what was read is accepted
accepted : (c : In_ok-sizes) → let s = c.in_ok-sizes.sizes in
    Accepted s.p s.n s.a s.b c.read_rows.new.constants (row_numbers c.read_rows.new.parameters) none
accepted c =
    let bytes : AreBytes c.args.file.now = λ i. search (rules, c.type_inv.file i) in
    model_accepted _ _ _ _ _ _ _ (own_accepted bytes c.in_ok-sizes.ensures refl)

pub areas_hold-requires : goal.areas_hold-requires
areas_hold-requires c = let h = accepted (goal.at.areas_hold-requires c).In_ok-sizes in (h.n_most, h.b_most)

pub returns-then-not-areas_hold : goal.returns-then-not-areas_hold
returns-then-not-areas_hold c =
    let bytes : AreBytes c.args.file.now = λ i. search (rules, c.type_inv.file i) in
    let s = c.in_ok-sizes.sizes in
    let w = c.args.powers.now in
    own_call bytes c.in_ok-sizes.ensures refl w.rows.now w.columns.now w.parameters.now _
    (call_refused (areas_short s.n s.a s.b w.rows.now w.columns.now w.parameters.now _ (sym c.areas_hold.ensures ∙ c.if-not-areas_hold.true)) (λ z. omega arith) (degree_refused AreaShort))

pub ask-requires : goal.ask-requires
ask-requires c =
    let s = c.in_ok-sizes.sizes in
    let p = c.args.powers.now in
    let w = hold_reads s.n s.a s.b p.rows.now p.columns.now p.parameters.now (sym c.areas_hold.ensures ∙ c.if-not-areas_hold.false) in
    (accepted (goal.at.ask-requires c).In_ok-sizes, w.0, w.1, w.2)

pub returns : goal.returns
returns c =
    let bytes : AreBytes c.args.file.now = λ i. search (rules, c.type_inv.file i) in
    let s = c.in_ok-sizes.sizes in
    let w = c.args.powers.now in
    own_call bytes c.in_ok-sizes.ensures refl w.rows.now w.columns.now w.parameters.now _
    (call_as (areas_passed s.n s.a s.b w.rows.now w.columns.now w.parameters.now _ (sym c.areas_hold.ensures ∙ c.if-not-areas_hold.false))
    (λ x. x) (c.ask.ensures (tableau_of s.p s.n c.read_rows.new.constants) (λ i x li lx. refl)))
