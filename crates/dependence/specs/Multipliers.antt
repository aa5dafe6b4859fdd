-- Document 02, E1: how a column depends on held columns, over any field; and modulo a prime the outcome and the multipliers as numbers that compute.
-- Definitions only; assumes nothing.
use Rattle.std.specs.Prelude.{ℕ, ◌<◌, ◌≡◌, Bool, cond}
use Rattle.std.proofs.Math.Bool.{decide}
use Rattle.residue.specs.Arithmetic.{Prime}
use Rattle.residue.specs.Fields.{Field}
use Rattle.residue.specs.Residues.{residues, res, num_of}
use Rattle.counting.specs.Sets.{Set, all}
use Rattle.counting.specs.Choices.{largest, some}
use Rattle.rank.specs.Linear.Independence.{dot, In}
use Rattle.rank.specs.Independent.{last_coefficient, independent}

module _ (K : Field) (a n : ℕ) (Q : ℕ → ℕ → K.F) where
  open K use {F}

  -- column x depends on the columns held in H with the multipliers c: c is 0 at every other column, and in each of the a constant rows the products
  -- of the columns and their multipliers sum to the entry of x
  pub record Depends (H : Set) (x : ℕ) (c : ℕ → F) : Type 0 where
    pub only_held : In K H c
    pub sums : (i : ℕ) → i < a → dot K n (Q i) c ≡ Q i x

-- a constant rows and n columns of residues modulo the prime q
module _ (q : ℕ) (P : Prime q) (a n : ℕ) (Q : ℕ → ℕ → (residues q P).F) where
  open residues q P use {F}

  -- in each constant row the products sum to the entry of x
  unfoldable pub sums_to : ℕ → (ℕ → F) → Bool
  sums_to x c = all a (λ i. decide ((residues q P).decide (dot (residues q P) n (Q i) c) (Q i x)))

  -- x depends on the columns in H: some multipliers do, tried as the coefficients of `independent` are
  unfoldable pub depends : Set → ℕ → Bool
  depends H x = some (res q P) (last_coefficient q H) n (sums_to x)

  -- the multiplier of column j, a number below q: the largest, should there be more than one, and 0, should there be none. `multipliers_are` says that
  -- it is the only one where the held columns are independent.
  unfoldable pub multiplier : Set → ℕ → ℕ → ℕ
  multiplier H x j = largest (res q P) (last_coefficient q H) n (λ c. cond (sums_to x c) (num_of q P (c j)) 0)

  -- the outcome: 2, the held columns are dependent; 1, x depends on them; 0, it does not
  unfoldable pub outcome : Set → ℕ → ℕ
  outcome H x = cond (independent q P a n Q H) (cond (depends H x) 1 0) 2

  -- the multiplier of column j that is given: none, which is 0, where the held columns are dependent
  unfoldable pub given : Set → ℕ → ℕ → ℕ
  given H x j = cond (independent q P a n Q H) (multiplier H x j) 0
