-- Independence of constant columns modulo a prime, as a test that tries every combination of coefficients. Definitions only; assumes nothing.
use Rattle.std.specs.Prelude.{ℕ, ◌-◌, Bool, not, ◌||◌, cond}
use Rattle.std.proofs.Math.Bool.{decide}
use Rattle.residue.specs.Arithmetic.{Prime}
use Rattle.residue.specs.Residues.{residues, res}
use Rattle.counting.specs.Sets.{Set, all}
use Rattle.counting.specs.Choices.{every}
use Rattle.rank.specs.Linear.Independence.{dot}

-- a residue modulo the prime q is zero
unfoldable pub is_zero : (q : ℕ) (P : Prime q) → (residues q P).F → Bool
is_zero q P x = decide ((residues q P).decide x (residues q P).𝟘)

-- the last coefficient that is tried: those of a column in S are 0 .. q - 1, that of any other column is 0
unfoldable pub last_coefficient : ℕ → Set → ℕ → ℕ
last_coefficient q S x = cond (S x) (q - 1) 0

-- a constant rows and n columns of residues modulo the prime q
module _ (q : ℕ) (P : Prime q) (a n : ℕ) (Q : ℕ → ℕ → (residues q P).F) where
  open residues q P use {F}

  -- the combination with the coefficients c is zero in each constant row
  unfoldable pub in_kernel : (ℕ → F) → Bool
  in_kernel c = all a (λ i. is_zero q P (dot (residues q P) n (Q i) c))

  -- every combination of the columns in S that is zero in each constant row has only zero coefficients
  unfoldable pub independent : Set → Bool
  independent S = every (res q P) (last_coefficient q S) n (λ c. not (in_kernel c) || all n (λ j. is_zero q P (c j)))
