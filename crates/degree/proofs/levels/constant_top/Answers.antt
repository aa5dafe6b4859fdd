-- `degree::levels::constant_top` meets its contract: each turn reads one column. Assumes nothing.
use Rattle.std.proofs.Common.{rules, arith, sym, ◌∙◌, length-append}
use Rattle.std.proofs.lemmas.Slice.Zip.{zip_turn}
use Rattle.degree.proofs.TopLaws.{top_next}
use Rattle.degree.proofs.levels.constant_top.Goals.{then-constant-ne0, else-constant-ne0}
use Rattle.degree.proofs.levels.constant_top.Goals as goal

pub loop-constant-preserved : goal.loop-constant-preserved
loop-constant-preserved c =
    let l = c.loop-constant in
    let t = zip_turn c.args.row.now c.args.weights.now l.yielded c.into_iter-constant-iterator.result l.constant-iterator c.next.new.self c.next.result
    (search rules) (search rules) l.yielded_by (c.in-Some.constant, c.in-Some.weight) c.in-Some.is c.next.ensures.steps in
    simp length-append
    (elim c.if-constant-ne0.branch [
      | then-constant-ne0 w ↦ top_next c.max-top.result (omega arith) (λ s. omega (arith, t.3 0)) (λ g. ((λ e. w.if-constant-ne0.true (t.2 0 ∙ e)), omega (arith, t.3 0))) l.invariant
      | else-constant-ne0 w ↦ top_next c.max-top.result (omega arith) (λ s. absurd (s (sym (t.2 0) ∙ w.if-constant-ne0.false))) (λ g. absurd (omega arith)) l.invariant
    ])
