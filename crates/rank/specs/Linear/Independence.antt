-- Independent columns of a matrix over a field: no combination of them is zero in every row unless all its coefficients are zero. Definitions only; assumes nothing.
use Rattle.std.specs.Prelude.{ℕ, zero, suc, ◌<◌, ◌≡◌, ◌≢◌, true}
use Rattle.residue.specs.Fields.{Field}
use Rattle.counting.specs.Sets.{Set}

module _ (K : Field) where
  open K use {F, 𝟘, ◌+◌, ◌·◌}

  -- f 0 + .. + f (n - 1)
  unfoldable pub Σ : ℕ → (ℕ → F) → F
  Σ zero f = 𝟘
  Σ (suc n) f = Σ n f + f n

  -- the row r times the coefficients c, over the columns below n
  unfoldable pub dot : ℕ → (ℕ → F) → (ℕ → F) → F
  dot n r c = Σ n (λ j. r j · c j)

  -- the coefficients c are zero outside S
  abbrev pub In : Set → (ℕ → F) → Type 0
  In S c = (j : ℕ) → S j ≢ true → c j ≡ 𝟘

  module _ (a n : ℕ) where
    -- c is in the kernel: each of the a rows of P, times c, is zero
    abbrev pub InKernel : (ℕ → ℕ → F) → (ℕ → F) → Type 0
    InKernel P c = (i : ℕ) → i < a → dot n (P i) c ≡ 𝟘

    -- the columns of P in S are independent
    pub record Indep (P : ℕ → ℕ → F) (S : Set) : Type 0 where
      pub only_zero : (c : ℕ → F) → In S c → InKernel P c → (j : ℕ) → j < n → c j ≡ 𝟘
