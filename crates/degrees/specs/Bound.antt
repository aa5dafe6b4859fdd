-- No total exceeds the levels less the heights, and an assignment on the tight entries reaches them. Assumes nothing.
use Rattle.std.specs.Prelude.{◌+◌, ◌<◌, ℕ, ◌≤◌, Bool, not, true, ◌≢◌, ◌≡◌}
use Rattle.std.proofs.Common.{true≢false, sym, ◌∙◌}
use Rattle.std.proofs.Math.Path.{ap}
use native.Mathlib.Omega.{arith}
use Rattle.counting.specs.Blocks.{#-plus}
use Rattle.counting.specs.Bools.{and_left, and_right, not_both, not_in, not_of}
use Rattle.counting.specs.Counts.{#-split, Touching, touching_iff}
use Rattle.counting.specs.Injections.{#-mono, inj_count}
use Rattle.counting.specs.Sets.{#, Set, touching, ∁, ◌∈◌, ◌∩◌}
use Rattle.rank.specs.Layered.Model.{Assignment, Legal, Seat, constant, constants, is_constant, is_placed, row}
use Rattle.rank.proofs.Layered.Meaning.{seat_cases}
use Rattle.rank.specs.Linear.Kernels.{hits, hits_iff, indep_count, indep_sub, same_indep}
use Rattle.rank.specs.Totals.{total}
use Rattle.degrees.specs.Degrees.{power_at, weight, AllPlaced}
use Rattle.degrees.specs.Dynamics.{Dynamic, layered, over, powers}
use Rattle.degrees.specs.Levels.{Levelled, tight, tight_constants, tight_parameters}
use Rattle.degrees.specs.TightEntries.{tight_nonzero, tight_row}
use Rattle.degrees.specs.TightPart.{tight_legal}
use Rattle.degrees.specs.Totals.{above, above_iff, threshold, threshold_below, total_add}

module _ (X : Dynamic) where
  open X use {K, a, b, n, T, row_power, column_power, power}
  open K use {F, 𝟘}

  -- columns of a full assignment are no more than rows that hold them
  module _ (P : ℕ → ℕ → F) (U : ℕ → ℕ → Bool) (A : Assignment) (l : Legal (over X P U) A) (f : AllPlaced (layered X) A) (J R : Set)
      (on-constant : (h x : ℕ) → h < a → x < n → x ∈ J → A x ≡ constant → P h x ≢ 𝟘 → h ∈ R)
      (on_row : (r x : ℕ) → r < b → x < n → x ∈ J → A x ≡ row r → (a + r) ∈ R) where
    C : Set
    C = constants A ∩ J

    is_const : (x : ℕ) → is_constant (A x) ≡ true → A x ≡ constant
    is_const x e = seat_cases (A x) (λ d. absurd (true≢false (sym e ∙ ap is_constant d))) (λ d. d) (λ r d. absurd (true≢false (sym e ∙ ap is_constant d)))

    constant_side : # n C ≤ # a R
    unfolding C
    constant_side = omega (
      arith,
      indep_count {P = P} {S = C} {T = C} (indep_sub {T = constants A} (λ x e. and_left (constants A x) (J x) e) l.independent) (λ x e. e),
      #-mono a (touching n (hits K P) C) R (λ h lh e.
          let w : Touching n (hits K P) C h = (touching_iff n (hits K P) C h).0 e in
          on-constant h w.0 lh w.1 (and_right (constants A w.0) (J w.0) w.2.0)
          (is_const w.0 (and_left (constants A w.0) (J w.0) w.2.0)) ((hits_iff K P h w.0).0 w.2.1)),
    )

    row_side : # n (∁ (constants A) ∩ J) ≤ # b (λ r. R (a + r))
    row_side = inj_count n b (∁ (constants A) ∩ J) (λ r. R (a + r)) (λ x r. A x ≡ row r) (record {
      total = λ x lx e. seat_cases (A x)
          (λ d. absurd (true≢false (sym (f x lx) ∙ ap is_placed d)))
          (λ d. absurd (true≢false (sym (ap is_constant d) ∙ not_in (constants A x) (and_left (not (constants A x)) (J x) e))))
          (λ r d. (r, (l.parameter x r d).0, (on_row r x (l.parameter x r d).0 lx (and_right (not (constants A x)) (J x) e) d, d)));
      one_one = λ x y r lx ly lr d d'. l.one_each x y r d d';
    })

    held : # n J ≤ # (a + b) R
    unfolding C
    held = omega (arith, #-split n (constants A) J, #-plus a b R, constant_side, row_side)

  -- the weight of a full assignment and all heights, by columns
  abbrev value : Assignment → (ℕ → ℕ) → ℕ → ℕ
  value A z x = power_at (powers X) x (A x) + z x

  weight_value : (A : Assignment) (z : ℕ → ℕ) → weight (layered X) (powers X) A + total n z ≡ total a row_power + total n (value A z)
  unfolding weight
  weight_value A z = omega (arith, total_add n (λ x. power_at (powers X) x (A x)) z)

  value_constant : (A : Assignment) (z : ℕ → ℕ) (x : ℕ) → A x ≡ constant → value A z x ≡ column_power x + z x
  unfolding power_at
  value_constant A z x e = ap (λ (s : Seat). power_at (powers X) x s + z x) e

  value_row : (A : Assignment) (z : ℕ → ℕ) (x r : ℕ) → A x ≡ row r → value A z x ≡ power r x + z x
  unfolding power_at
  value_row A z x r e = ap (λ (s : Seat). power_at (powers X) x s + z x) e

  module _ (P : ℕ → ℕ → F) (L z : ℕ → ℕ) (d : Levelled X P L z) where
    -- legal in the whole model, with the tableau for its constants
    reseat : (A : Assignment) → Legal (layered X) A → Legal (over X P T) A
    reseat A l = record { offered = l.offered; independent = same_indep d.kernel l.independent; parameter = l.parameter; one_each = l.one_each }

    -- no full legal assignment weighs more than levels less heights
    pub bound : (A : Assignment) → Legal (layered X) A → AllPlaced (layered X) A → weight (layered X) (powers X) A + total n z ≤ total a row_power + total (a + b) L
    bound A l f = omega (
      arith,
      weight_value A z,
      threshold n (a + b) (value A z) L (λ t.
          held P T A (reseat A l) f (above t (value A z)) (above t L)
          (λ h x lh lx e c nz. (above_iff t L h).1 (omega (arith, (above_iff t (value A z) x).0 e, value_constant A z x c, d.constant_le h x lh lx nz)))
          (λ r x lr lx e c. (above_iff t L (a + r)).1 (omega (
            arith,
            (above_iff t (value A z) x).0 e,
            value_row A z x r c,
            d.row_le r x lr lx (l.parameter x r c).1,
          )))),
    )

    -- a full assignment on the tight entries reaches it
    pub reached : a + b ≡ n → (A : Assignment) → Legal (tight X P L z) A → AllPlaced (layered X) A → weight (layered X) (powers X) A + total n z ≡ total a row_power + total (a + b) L
    reached e A l f = omega (
      arith,
      bound A (tight_legal X P L z d A l) f,
      weight_value A z,
      threshold_below (a + b) n L (value A z) e (λ t.
          held (tight_constants X P L z) (tight_parameters X L z) A l f (∁ (above t (value A z))) (∁ (above t L))
          (λ h x lh lx q c nz. not_of (above t L h) (λ u. not_both (above t (value A z) x) q ((above_iff t (value A z) x).1
          (omega (arith, (above_iff t L h).0 u, value_constant A z x c, (tight_nonzero X P L z h x nz).0)))))
          (λ r x lr lx q c. not_of (above t L (a + r)) (λ u. not_both (above t (value A z) x) q ((above_iff t (value A z) x).1
          (omega (arith, (above_iff t L (a + r)).0 u, value_row A z x r c, (tight_row X L z r x (l.parameter x r c).1).1)))))),
    )
