-- `acceptance::can_serve` meets its contract. Assumes nothing.
use Rattle.std.proofs.Common.{ℕ, ◌<◌, sym, ap, ◌∙◌, arith}
use Rattle.std.proofs.lemmas.Bool.{ltb-true, not-false, not-true}
use mathlib.Core.Bool.{true≢false}
use borrow.Author.Tests.{lt-ltb}
use Rattle.columns.specs.Columns.{members}
use Rattle.acceptance.proofs.SeatLaws.{cannot_serve, serves_by_parameter}
use Rattle.acceptance.proofs.can_serve.Goals.{then-r-model, else-r-model, then-c-model, else-c-model}
use Rattle.acceptance.proofs.can_serve.Goals as goal

pub returns-then-not-contains : goal.returns-then-not-contains
returns-then-not-contains c =
    let a = c.args in
    elim c.if-c-model.branch [
      | then-c-model w ↦
          elim c.if-r-model.branch [
            | then-r-model v ↦
                let unseated = sym w.contains.ensures ∙ not-true _ (sym w.value-is ∙ c.if-not-contains.true) in
                serves_by_parameter _ _ _ _ _ _ v.if-r-model.true (ltb-true _ _ (sym v.value-is ∙ w.if-c-model.true)) unseated
                (c.contains-then-not-contains.ensures ∙ ap (λ (s : ℕ). members s a.c) c.row.ensures)
            | else-r-model v ↦ let l : a.r < a.model.now.b = ltb-true _ _ (sym v.value-is ∙ w.if-c-model.true) in absurd (omega (arith, v.if-r-model.false))
          ]
      | else-c-model w ↦ absurd (true≢false (sym c.if-not-contains.true ∙ w.value-is ∙ w.if-c-model.false))
    ]

pub returns-else-not-contains : goal.returns-else-not-contains
returns-else-not-contains c =
    c.if-not-contains.false ∙ cannot_serve _ _ _ _ _ _ (λ h. elim c.if-c-model.branch [
      | then-c-model w ↦ h.has_no_seat (sym w.contains.ensures ∙ not-false _ (sym w.value-is ∙ c.if-not-contains.false))
      | else-c-model w ↦
          elim c.if-r-model.branch [
            | then-r-model v ↦ true≢false (sym (lt-ltb _ _ h.column_below) ∙ sym v.value-is ∙ w.if-c-model.false)
            | else-r-model v ↦ omega (arith, v.if-r-model.false, h.row_below)
          ]
    ])
