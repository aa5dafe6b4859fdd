-- Where the constants are read the tests before have passed, so their count is small and within the area. Assumes nothing.
use Rattle.std.proofs.Common.{◌≡◌, ◌*◌, ◌<◌, ◌≤◌, length, true, sym, ◌∙◌, arith}
use mathlib.Core.Bool.{true≢false}
use Rattle.std.proofs.lemmas.List.{length-take-le}
use native.Mathlib.Nat.{mul-le-mul}
use borrow.Author.Tests.{lt-ltb}
use Rattle.limits.specs.Limits.{most_columns, most_rows}
use Rattle.residue.specs.Arithmetic.{is_prime}
use Rattle.residue.specs.Primes.{is_prime_reads}
use Rattle.columns.specs.Columns.{within}
use Rattle.columns.specs.ColumnSets.{whole}
use Rattle.models.specs.Lent.{constants_lent, rows_lent}
use Rattle.exchange.specs.Solve.{fitting}
use Rattle.exchange.specs.SolveLaws.{Fitting, fitting_reads, at_last}
use Rattle.exchange.proofs.AdmissionLaws.{taken_below_largest}
use Rattle.exchange.proofs.admission.is_admissible.Goals as goal
use Rattle.exchange.proofs.admission.is_admissible.Goals.{Then-is_prime, then-fits, else-fits, then-within, else-within, then-model-lt65536, else-model-lt65536}

-- the tests before
record Passed (c : Then-is_prime) : Type 0 where
  size : let m = c.args.model.now in fitting m.n m.a m.b (length (constants_lent m)) (length (rows_lent m)) ≡ true
  inside : within c.args.model.now.n (whole c.args.offered) ≡ true
  short : c.args.model.now.p < 65536
  prime : is_prime c.args.model.now.p ≡ true

passed : (c : Then-is_prime) → Passed c
passed c =
    let third : (c.if-within.value ≡ true) × (is_prime c.args.model.now.p ≡ true) = elim c.if-model-lt65536.branch [
      | then-model-lt65536 w ↦ (w.if-model-lt65536.true, sym w.is_prime.ensures ∙ sym w.value-is ∙ c.if-is_prime.true)
      | else-model-lt65536 w ↦ absurd (true≢false (sym c.if-is_prime.true ∙ w.value-is ∙ w.if-model-lt65536.false))
    ] in
    let second : (c.if-fits.value ≡ true) × (c.args.model.now.p < 65536) = elim c.if-within.branch [
      | then-within w ↦ (w.if-within.true, grind (arith, sym w.value-is ∙ third.0))
      | else-within w ↦ absurd (true≢false (sym third.0 ∙ w.value-is ∙ w.if-within.false))
    ] in
    elim c.if-fits.branch [
      | then-fits w ↦ record {
        size = sym c.fits.ensures ∙ w.if-fits.true;
        inside = sym w.within.ensures ∙ sym w.value-is ∙ second.0;
        short = second.1;
        prime = third.1;
      }
      | else-fits w ↦ absurd (true≢false (sym second.0 ∙ w.value-is ∙ w.if-fits.false))
    ]

sizes : (c : Then-is_prime) → let m = c.args.model.now in Fitting m.n m.a m.b (length (constants_lent m)) (length (rows_lent m))
sizes c = fitting_reads _ _ _ _ _ (passed c).size

pub overflow_mul-model : goal.overflow_mul-model
overflow_mul-model c =
    let m = c.args.model.now in
    let z = sizes (goal.at.overflow_mul-model c).Then-is_prime in
    let small : m.a * m.n ≤ most_rows * most_columns = mul-le-mul {n₂ = most_rows} {m₂ = most_columns} z.constant_rows z.columns in
    omega arith

pub slice_bounds-largest-end : goal.slice_bounds-largest-end
slice_bounds-largest-end c = sym (length-take-le _ _ (sizes (goal.at.slice_bounds-largest-end c).Then-is_prime).constants_lent)

pub returns-then-is_prime : goal.returns-then-is_prime
returns-then-is_prime c =
    let m = c.args.model.now in
    let h = passed (goal.at.returns-then-is_prime c).Then-is_prime in
    rw c.from.ensures (taken_below_largest m.p (m.a * m.n) c.largest.result (constants_lent m) (omega (arith, ((is_prime_reads m.p).0 h.prime).least)) (sizes (goal.at.returns-then-is_prime c).Then-is_prime).constants_lent c.largest.ensures)
    ∙ at_last m.p m.n m.a m.b (whole c.args.offered) (constants_lent m) (rows_lent m) h.size h.inside (lt-ltb m.p 65536 h.short) h.prime
