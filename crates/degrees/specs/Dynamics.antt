-- A layered model with its powers, as the descent that finds the degree takes it. Definitions only; assumes nothing.
use Rattle.std.specs.Prelude.{ℕ, Bool, true, ◌↔◌, ◌≡◌}
use Rattle.residue.specs.Arithmetic.{Prime}
use Rattle.residue.specs.Fields.{Field}
use Rattle.residue.specs.Residues.{residues}
use Rattle.counting.specs.Sets.{Set}
use Rattle.rank.specs.Linear.Independence.{Indep}
use Rattle.rank.specs.Independent.{independent}
use Rattle.rank.proofs.IndependentLaws.{independent_iff}
use Rattle.rank.specs.Layered.Model.{Model}
use Rattle.degrees.specs.Degrees.{Powers}

-- A layered model whose columns are all offered, with powers; the test for independent columns is given for any constants
pub record Dynamic : Type 1 where
  pub K : Field
  pub a : ℕ
  pub b : ℕ
  pub n : ℕ
  pub Q : ℕ → ℕ → K.F
  pub T : ℕ → ℕ → Bool
  pub indep : (ℕ → ℕ → K.F) → Set → Bool
  pub indep_iff : (P : ℕ → ℕ → K.F) (S : Set) → (indep P S ≡ true) ↔ Indep K a n P S
  pub row_power : ℕ → ℕ
  pub column_power : ℕ → ℕ
  pub power : ℕ → ℕ → ℕ

module _ (X : Dynamic) where
  open X use {K, a, b, n, Q, T, indep, indep_iff, row_power, column_power, power}

  -- the layered model with the sizes of X and other constants and parameters
  abbrev pub over : (ℕ → ℕ → K.F) → (ℕ → ℕ → Bool) → Model
  over P U = record { K = K; a = a; b = b; n = n; Q = P; T = U; E = λ x. true; indep = indep P; indep_iff = indep_iff P }

  -- the layered model itself, and its powers
  abbrev pub layered : Model
  layered = over Q T

  abbrev pub powers : Powers
  powers = record { row_power = row_power; column_power = column_power; power = power }

-- the model modulo the prime q, with the constants Q, the parameters T and the powers W
abbrev pub dynamic_modulo : (q : ℕ) (P : Prime q) (n a b : ℕ) → (ℕ → ℕ → (residues q P).F) → (ℕ → ℕ → Bool) → Powers → Dynamic
dynamic_modulo q P n a b Q T W = record {
  K = residues q P;
  a = a;
  b = b;
  n = n;
  Q = Q;
  T = T;
  indep = independent q P a n;
  indep_iff = independent_iff q P a n;
  row_power = W.row_power;
  column_power = W.column_power;
  power = W.power;
}
