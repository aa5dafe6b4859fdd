-- An assignment that is legal in the tight part is legal. Assumes nothing.
use Rattle.std.specs.Prelude.{◌+◌, ◌<◌, suc, zero, ℕ, ◌≢◌, ◌≡◌}
use Rattle.std.proofs.Math.Logic.{by_cases}
use Rattle.std.proofs.Math.Path.{refl, sym}
use Rattle.std.proofs.Common.{◌∙◌, arith}
use Rattle.std.proofs.Math.Decide.{dec_lt, ℕ_discrete}
use Rattle.residue.specs.Fields.{mul_zero, zero_mul}
use Rattle.counting.specs.Sets.{Set, choose}
use Rattle.rank.specs.Layered.Model.{Assignment, Legal, constants}
use Rattle.rank.specs.Linear.Independence.{In, InKernel, Indep, dot}
use Rattle.rank.specs.Linear.Kernels.{same_indep, same_sym}
use Rattle.rank.specs.Linear.Sums.{dot_zero, Σ-cong}
use Rattle.degrees.specs.Dynamics.{Dynamic, layered}
use Rattle.degrees.specs.Levels.{Levelled, tight, tight_constants}
use Rattle.degrees.specs.TightEntries.{tight_at, tight_off, tight_row}

module _ (X : Dynamic) where
  open X use {K, a, n, column_power}
  open K use {F, 𝟘, ◌·◌}

  module _ (P : ℕ → ℕ → F) (L z : ℕ → ℕ) (d : Levelled X P L z) where
    module _ (S : Set) (i : Indep K a n (tight_constants X P L z) S) (c : ℕ → F) (inside : In K S c) (kills : InKernel K a n P c) where
      -- the coefficients of the columns at level t
      at_level : ℕ → ℕ → F
      at_level t x = choose (ℕ_discrete (column_power x + z x) t) (c x) 𝟘

      level_same : (t x : ℕ) → column_power x + z x ≡ t → at_level t x ≡ c x
      unfolding at_level choose
      level_same t x e = elim (ℕ_discrete (column_power x + z x) t) as (λ d. choose d (c x) 𝟘 ≡ c x) [ yes d ↦ refl | no nd ↦ absurd (nd e) ]

      level_other : (t x : ℕ) → column_power x + z x ≢ t → at_level t x ≡ 𝟘
      unfolding at_level choose
      level_other t x ne = elim (ℕ_discrete (column_power x + z x) t) as (λ d. choose d (c x) 𝟘 ≡ 𝟘) [ yes d ↦ absurd (ne d) | no nd ↦ refl ]

      level_inside : (t : ℕ) → In K S (at_level t)
      level_inside t x ns = by_cases (ℕ_discrete (column_power x + z x) t) (λ e. level_same t x e ∙ inside x ns) (λ ne. level_other t x ne)

      level_kills : (t : ℕ) → ((x : ℕ) → x < n → column_power x + z x < t → c x ≡ 𝟘) → InKernel K a n (tight_constants X P L z) (at_level t)
      unfolding dot
      level_kills t low h lh = by_cases (ℕ_discrete (L h) t)
          (λ e. Σ-cong K n _ _ (same e) ∙ kills h lh)
          (λ ne. dot_zero K n (tight_constants X P L z h) (at_level t) (none ne))
        where
          same : L h ≡ t → (x : ℕ) → x < n → tight_constants X P L z h x · at_level t x ≡ P h x · c x
          same e x lx = by_cases (ℕ_discrete (column_power x + z x) t)
              (λ q. cc (tight_at X P L z h x (q ∙ sym e), level_same t x q))
              (λ nq. cc (level_other t x nq, mul_zero K (tight_constants X P L z h x), gone e x lx nq))
            where
              gone : L h ≡ t → (x : ℕ) → x < n → column_power x + z x ≢ t → P h x · c x ≡ 𝟘
              gone e x lx nq = by_cases (dec_lt (column_power x + z x) t)
                  (λ l. cc (low x lx l, mul_zero K (P h x)))
                  (λ nl. by_cases (K.decide (P h x) 𝟘) (λ q. cc (q, zero_mul K (c x))) (λ nz. absurd (omega (arith, d.constant_le h x lh lx nz))))

          none : L h ≢ t → (x : ℕ) → x < n → tight_constants X P L z h x · at_level t x ≡ 𝟘
          none ne x lx = by_cases (ℕ_discrete (column_power x + z x) t)
              (λ q. cc (tight_off X P L z h x (λ q'. ne (sym q' ∙ q)), zero_mul K (at_level t x)))
              (λ nq. cc (level_other t x nq, mul_zero K (tight_constants X P L z h x)))

      levels : (t x : ℕ) → x < n → column_power x + z x < t → c x ≡ 𝟘
      levels zero x lx l = absurd (omega arith)
      levels (suc t) x lx l = by_cases (ℕ_discrete (column_power x + z x) t)
          (λ e. sym (level_same t x e) ∙ i.only_zero (at_level t) (level_inside t) (level_kills t (levels t)) x lx)
          (λ ne. levels t x lx (omega arith))

    -- columns that are independent on the tight entries are independent
    tight_indep : (S : Set) → Indep K a n (tight_constants X P L z) S → Indep K a n P S
    tight_indep S i = record { only_zero = λ c s k x lx. levels S i c s k (suc (column_power x + z x)) x lx (omega arith) }

    -- so what is legal in the tight part is legal
    pub tight_legal : (A : Assignment) → Legal (tight X P L z) A → Legal (layered X) A
    tight_legal A l = record {
      offered = l.offered;
      independent = same_indep (same_sym d.kernel) (tight_indep (constants A) l.independent);
      parameter = λ x r e. ((l.parameter x r e).0, (tight_row X L z r x (l.parameter x r e).1).0);
      one_each = l.one_each;
    }
