-- Which entries are tight. Assumes nothing.
use Rattle.std.specs.Prelude.{◌+◌, ℕ, true, ◌≢◌, ◌≡◌}
use Rattle.std.proofs.Math.Bool.{decide, decide_iff}
use Rattle.std.proofs.Math.Path.{refl}
use Rattle.std.proofs.Common.{◌∙◌}
use Rattle.std.proofs.Math.Decide.{ℕ_discrete}
use Rattle.counting.specs.Bools.{and_in, and_left, and_right}
use Rattle.counting.specs.Sets.{choose}
use Rattle.degrees.specs.Dynamics.{Dynamic}
use Rattle.degrees.specs.Levels.{tight_constants, tight_parameters}

module _ (X : Dynamic) where
  open X use {K, a, T, column_power, power}
  open K use {F, 𝟘}

  module _ (P : ℕ → ℕ → F) (L z : ℕ → ℕ) where
    pub tight_at : (h x : ℕ) → column_power x + z x ≡ L h → tight_constants X P L z h x ≡ P h x
    unfolding tight_constants choose
    tight_at h x e = elim (ℕ_discrete (column_power x + z x) (L h)) as (λ d. choose d (P h x) 𝟘 ≡ P h x) [ yes d ↦ refl | no nd ↦ absurd (nd e) ]

    pub tight_off : (h x : ℕ) → column_power x + z x ≢ L h → tight_constants X P L z h x ≡ 𝟘
    unfolding tight_constants choose
    tight_off h x ne = elim (ℕ_discrete (column_power x + z x) (L h)) as (λ d. choose d (P h x) 𝟘 ≡ 𝟘) [ yes d ↦ absurd (ne d) | no nd ↦ refl ]

    pub tight_nonzero : (h x : ℕ) → tight_constants X P L z h x ≢ 𝟘 → (column_power x + z x ≡ L h) × (P h x ≢ 𝟘)
    tight_nonzero h x nz = elim (ℕ_discrete (column_power x + z x) (L h)) [
      | yes e ↦ (e, λ d. nz (tight_at h x e ∙ d))
      | no ne ↦ absurd (nz (tight_off h x ne))
    ]

  module _ (L z : ℕ → ℕ) where
    pub tight_row : (r x : ℕ) → tight_parameters X L z r x ≡ true → (T r x ≡ true) × (power r x + z x ≡ L (a + r))
    unfolding tight_parameters
    tight_row r x e = (
      and_left (T r x) (decide (ℕ_discrete (power r x + z x) (L (a + r)))) e,
      (decide_iff (ℕ_discrete (power r x + z x) (L (a + r)))).0 (and_right (T r x) (decide (ℕ_discrete (power r x + z x) (L (a + r)))) e),
    )

    pub row_tight : (r x : ℕ) → T r x ≡ true → power r x + z x ≡ L (a + r) → tight_parameters X L z r x ≡ true
    unfolding tight_parameters
    row_tight r x t e = and_in t ((decide_iff (ℕ_discrete (power r x + z x) (L (a + r)))).1 e)
