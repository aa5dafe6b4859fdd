-- `degree::powers::are_low` meets its contract, by what its tests ensure. Assumes nothing.
use Rattle.std.proofs.Common.{◌≡◌, true, false, leb, get_or, sym, ◌∙◌}
use mathlib.Core.Bool.{true≢false}
use Rattle.counting.specs.Sets.{all}
use Rattle.degree.specs.Answers.{most_power}
use Rattle.degree.specs.Code.{lists_low}
use Rattle.degree.proofs.powers.are_low.Goals.{then-first_low, else-first_low}
use Rattle.degree.proofs.powers.are_low.Goals as goal

pub returns-then-first_low-2 : goal.returns-then-first_low-2
unfolding lists_low
returns-then-first_low-2 c =
    let m = c.args.model.now in
    elim c.if-first_low.branch [
      | then-first_low w ↦
          let low : all m.a (λ h. leb (get_or m.powers.rows.now h 0) most_power) ≡ true = sym c.first_low.ensures ∙ w.if-first_low.true in
          let lows : all m.n (λ x. leb (get_or m.powers.columns.now x 0) most_power) ≡ true = sym w.first_low-then-first_low.ensures ∙ sym w.value-is ∙ c.if-first_low-2.true in
          rw (low, lows) c.parameters_low.ensures
      | else-first_low w ↦ absurd (true≢false (sym c.if-first_low-2.true ∙ w.value-is ∙ w.if-first_low.false))
    ]

pub returns-else-first_low-2 : goal.returns-else-first_low-2
unfolding lists_low
returns-else-first_low-2 c =
    let m = c.args.model.now in
    elim c.if-first_low.branch [
      | then-first_low w ↦
          let low : all m.a (λ h. leb (get_or m.powers.rows.now h 0) most_power) ≡ true = sym c.first_low.ensures ∙ w.if-first_low.true in
          let high : all m.n (λ x. leb (get_or m.powers.columns.now x 0) most_power) ≡ false = sym w.first_low-then-first_low.ensures ∙ sym w.value-is ∙ c.if-first_low-2.false in
          rw (low, high) c.if-first_low-2.false
      | else-first_low w ↦
          let high : all m.a (λ h. leb (get_or m.powers.rows.now h 0) most_power) ≡ false = sym c.first_low.ensures ∙ w.if-first_low.false in
          rw high c.if-first_low-2.false
    ]
