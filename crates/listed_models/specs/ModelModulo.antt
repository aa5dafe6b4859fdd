-- A layered model over the residues modulo a prime, from its constants, its parameters and the columns that are offered. Definitions only; assumes nothing.
use Rattle.std.specs.Prelude.{ℕ, Bool}
use Rattle.residue.specs.Arithmetic.{Prime}
use Rattle.residue.specs.Residues.{residues}
use Rattle.counting.specs.Sets.{Set}
use Rattle.rank.specs.Layered.Model.{Model}
use Rattle.rank.specs.Independent.{independent}
use Rattle.rank.proofs.IndependentLaws.{independent_iff}

-- the model with the constants Q modulo the prime q, the parameters T and the offered columns E
abbrev pub model_modulo : (q : ℕ) (P : Prime q) (n a b : ℕ) → (ℕ → ℕ → (residues q P).F) → (ℕ → ℕ → Bool) → Set → Model
model_modulo q P n a b Q T E = record {
  K = residues q P;
  a = a;
  b = b;
  n = n;
  Q = Q;
  T = T;
  E = E;
  indep = independent q P a n Q;
  indep_iff = independent_iff q P a n Q;
}
