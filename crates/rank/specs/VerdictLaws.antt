-- When the verdict is 0, 1 and 2. Assumes nothing.
use Rattle.std.specs.Prelude.{ℕ, ◌≤◌, ◌<◌, ◌≡◌, ◌≢◌, ◌↔◌}
use Rattle.std.proofs.Math.Path.{refl}
use Rattle.std.proofs.Math.Logic.{by_cases}
use Rattle.std.proofs.Common.{arith}
use Rattle.std.proofs.Math.Decide.{ℕ_discrete, dec_lt}
use borrow.Author.Tests.{eq-eqb, ne_eqb, lt-ltb, le-ltb}
use Rattle.rank.specs.Verdict.{verdict_number}

module _ (r n k : ℕ) where
  pub number_determined : r ≡ n → r ≡ k → verdict_number r n k ≡ 1
  unfolding verdict_number
  number_determined e f = rw (eq-eqb r n e, eq-eqb r k f) refl

  pub number_surplus : r ≡ n → n < k → verdict_number r n k ≡ 2
  unfolding verdict_number
  number_surplus e l = rw (eq-eqb r n e, ne_eqb r k (λ f. omega arith), lt-ltb n k l) refl

  pub number_open : r ≢ n → verdict_number r n k ≡ 0
  unfolding verdict_number
  number_open ne = rw (ne_eqb r n ne) refl

  -- no rank of a model is above the number of its rows; if it were, the verdict would be 0
  pub number_above : k < r → verdict_number r n k ≡ 0
  unfolding verdict_number
  number_above l = by_cases (ℕ_discrete r n) (λ e. rw (eq-eqb r n e, ne_eqb r k (λ f. omega arith), le-ltb n k (omega arith)) refl) number_open

  -- one of the four is the case
  verdict_cases : {A : Type 0} → (r ≢ n → A) → (r ≡ n → r ≡ k → A) → (r ≡ n → n < k → A) → (k < r → A) → A
  verdict_cases out equal more above = by_cases (ℕ_discrete r n) (λ e. by_cases (ℕ_discrete r k) (equal e) (λ ne. by_cases (dec_lt n k) (more e) (λ nl. above (omega arith)))) out

  pub number_1_iff : (verdict_number r n k ≡ 1) ↔ ((r ≡ n) × (r ≡ k))
  number_1_iff = (
    λ v. verdict_cases
        (λ ne. absurd (omega (arith, number_open ne)))
        (λ e f. (e, f))
        (λ e l. absurd (omega (arith, number_surplus e l)))
        (λ l. absurd (omega (arith, number_above l))),
    λ w. number_determined w.0 w.1,
  )

  pub number_2_iff : (verdict_number r n k ≡ 2) ↔ ((r ≡ n) × (n < k))
  number_2_iff = (
    λ v. verdict_cases
        (λ ne. absurd (omega (arith, number_open ne)))
        (λ e f. absurd (omega (arith, number_determined e f)))
        (λ e l. (e, l))
        (λ l. absurd (omega (arith, number_above l))),
    λ w. number_surplus w.0 w.1,
  )

  -- for a rank that is at most the number of columns and at most that of rows
  pub number_0_iff : r ≤ n → r ≤ k → (verdict_number r n k ≡ 0) ↔ (r < n)
  number_0_iff ln lk = (
    λ v. verdict_cases
        (λ ne. omega arith)
        (λ e f. absurd (omega (arith, number_determined e f)))
        (λ e l. absurd (omega (arith, number_surplus e l)))
        (λ l. absurd (omega arith)),
    λ l. number_open (λ e. omega arith),
  )
