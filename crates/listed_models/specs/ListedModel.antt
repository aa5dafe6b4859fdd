-- Document 01's layered model from numbers: p, n, a, b, the constants row by row in a list, and a word for each parameter row. Definitions only.
use Rattle.std.specs.Prelude.{ℕ, true, List}
use Rattle.residue.specs.Arithmetic.{Prime}
use Rattle.counting.specs.Sets.{Set}
use Rattle.rank.specs.Modulus.{modulus}
use Rattle.rank.specs.Layered.Model.{Model}
use Rattle.rank.specs.ListedModel.{constant_at, parameter_at}
use Rattle.listed_models.specs.ModelModulo.{model_modulo}

-- the model modulo the prime q, with the columns of E offered
abbrev pub listed_at : (q : ℕ) → Prime q → (n a b : ℕ) → List ℕ → List ℕ → Set → Model
listed_at q P n a b cs ws E = model_modulo q P n a b (constant_at q P n cs) (parameter_at ws) E

-- the model modulo the prime q; all columns are offered
abbrev pub listed_modulo : (q : ℕ) → Prime q → (n a b : ℕ) → List ℕ → List ℕ → Model
listed_modulo q P n a b cs ws = listed_at q P n a b cs ws (λ x. true)

-- the model of the numbers p, n, a, b, constants cs and parameter rows ws; where p is not prime it stands for 2
abbrev pub listed_model : (p n a b : ℕ) → List ℕ → List ℕ → Model
listed_model p n a b cs ws = listed_modulo (modulus p).0 (modulus p).1 n a b cs ws
