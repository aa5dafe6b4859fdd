-- Document 01, the mixed question: the mixed rank, the layered form, and what an assignment of the form shows. Definitions only; assumes nothing.
use Rattle.std.specs.Prelude.{ℕ, ◌+◌, ◌≡◌, Bool, true, not, ◌&&◌, cond, List, ◌↔◌}
use Rattle.std.proofs.Math.Bool.{decide}
use Rattle.std.proofs.Math.Decide.{ℕ_discrete, dec_lt}
use Rattle.residue.specs.Arithmetic.{Prime}
use Rattle.residue.specs.Fields.{Field}
use Rattle.residue.specs.Residues.{residues}
use Rattle.counting.specs.Sets.{Set, any}
use Rattle.counting.specs.Beside.{beside}
use Rattle.counting.specs.Choices.{largest_part}
use Rattle.rank.specs.Linear.Independence.{Indep}
use Rattle.rank.specs.Modulus.{modulus}
use Rattle.rank.specs.Verdict.{verdict_number}
use Rattle.rank.specs.Layered.Model.{Model, row, Assignment, is_constant, same_row}
use Rattle.rank.specs.Layered.Rank.{constant_rank, matching}
use Rattle.rank.specs.Independent.{independent}
use Rattle.rank.proofs.IndependentLaws.{independent_iff}
use Rattle.rank.specs.ListedModel.{constant_at, parameter_at}

-- A mixed model: m rows and n columns. Row i is the sum of a constant row, with the constant Q i x at column x, and a parameter row, with a parameter at
-- column x where T i x; a place may hold both. With a test for independent columns, true of them and of no others.
pub record Mixed : Type 1 where
  pub K : Field
  pub m : ℕ
  pub n : ℕ
  pub Q : ℕ → ℕ → K.F
  pub T : ℕ → ℕ → Bool
  pub indep : (a n : ℕ) → (ℕ → ℕ → K.F) → Set → Bool
  pub indep_iff : (a n : ℕ) (P : ℕ → ℕ → K.F) (S : Set) → (indep a n P S ≡ true) ↔ Indep K a n P S

-- the rows of Q that are in I, and 0 on the others
unfoldable pub rows_in : (K : Field) → Set → (ℕ → ℕ → K.F) → ℕ → ℕ → K.F
rows_in K I Q i x = cond (I i) (Q i x) K.𝟘

-- the unit matrix
unfoldable pub unit : (K : Field) → ℕ → ℕ → K.F
unit K i j = cond (decide (ℕ_discrete i j)) K.𝟙 K.𝟘

module _ (X : Mixed) where
  open X use {K, m, n, Q, T, indep, indep_iff}

  -- the layered model with m constant rows P, m parameter rows U and k columns, all offered
  abbrev pub layered : (k : ℕ) → (ℕ → ℕ → K.F) → (ℕ → ℕ → Bool) → Model
  layered k P U = record { K = K; a = m; b = m; n = k; Q = P; T = U; E = λ x. true; indep = indep m k P; indep_iff = indep_iff m k P }

  -- constants on the rows I, parameters on all other rows
  abbrev pub divided : Set → Model
  divided I = layered n (rows_in K I Q) (λ r x. not (I r) && T r x)

  -- the rank of the constants on rows I and columns J, and the largest matching of parameters on all other rows and columns
  unfoldable pub mixed_sum : Set → Set → ℕ
  mixed_sum I J = constant_rank (divided I) J + matching (divided I) J

  -- the mixed rank: the largest such sum
  unfoldable pub mixed_rank : ℕ
  mixed_rank = largest_part m (λ i. true) (λ I. largest_part n (λ x. true) (λ J. mixed_sum I J))

  -- the verdict: of the mixed rank, n columns and m rows
  unfoldable pub mixed_verdict : ℕ
  mixed_verdict = verdict_number mixed_rank n m

  -- the layered form: 2m rows, m + n columns. Its constant rows are the unit matrix followed by the constants;
  abbrev pub form_constants : ℕ → ℕ → K.F
  form_constants i = beside m (unit K i) (Q i)

  -- its parameter row i has a parameter at column i and its own parameters moved m columns up
  abbrev pub form_parameters : ℕ → ℕ → Bool
  form_parameters i = beside m (λ j. decide (ℕ_discrete i j)) (T i)

  -- the layered form, as a layered model
  abbrev pub layered_form : Model
  layered_form = layered (m + n) form_constants form_parameters

  -- parameter row i of the form serves an original column
  unfoldable pub served : Assignment → Set
  served A i = any n (λ x. same_row (A (m + x)) (row i))

  -- the rows I that an assignment of the form shows: those that serve no original column
  unfoldable pub shown_I : Assignment → Set
  shown_I A i = decide (dec_lt i m) && not (served A i)

  -- the columns J that it shows: the original columns on the constant side
  abbrev pub shown_J : Assignment → Set
  shown_J A x = is_constant (A (m + x))

-- the mixed model of the numbers m, n, constants cs and parameter rows ws, read as `listed_model` reads them, modulo the prime q
abbrev pub mixed_at : (q : ℕ) → Prime q → (m n : ℕ) → List ℕ → List ℕ → Mixed
mixed_at q P m n cs ws = record {
  K = residues q P;
  m = m;
  n = n;
  Q = constant_at q P n cs;
  T = parameter_at ws;
  indep = λ a n Q. independent q P a n Q;
  indep_iff = λ a n Q. independent_iff q P a n Q;
}

-- the same modulo p; where p is not prime it stands for 2
abbrev pub mixed : (p m n : ℕ) → List ℕ → List ℕ → Mixed
mixed p m n cs ws = mixed_at (modulus p).0 (modulus p).1 m n cs ws
