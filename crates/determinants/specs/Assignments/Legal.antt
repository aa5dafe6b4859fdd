-- Legal assignments in a table whose rows are divided: some rows give constants, the others parameters. Assumes nothing.
use Rattle.std.specs.Prelude.{ℕ, ◌<◌, ◌≡◌, Bool, true, ◌≢◌}
use Rattle.residue.specs.Fields.{Field}
use Rattle.counting.specs.Counts.{some?}
use Rattle.counting.specs.Sets.{Set, ◌∈◌, #, Some}
use Rattle.rank.proofs.Layered.Meaning.{row?}
use Rattle.rank.specs.Layered.Model.{row, Assignment, placing, constants}
use Rattle.determinants.specs.Expansion.Cofactors.{IndependentOn}

-- a column of the first n has its seat on row i
pub used? : (n : ℕ) (A : Assignment) (i : ℕ) → Dec (Some n (λ x. A x ≡ row i))
used? n A i = some? n _ (λ x. row? (A x) i)

module _ (K : Field) (m n : ℕ) (Q : ℕ → ℕ → K.F) (T : ℕ → ℕ → Bool) (E : Set) where
  -- placed columns are offered; those on the constant side are independent on the rows R, which lie below m; each of the others has a row of its own
  -- outside R, with a parameter there
  pub record LegalOn (R : Set) (A : Assignment) : Type 0 where
    pub columns : (x : ℕ) → x ∈ placing A → (x < n) × (x ∈ E)
    pub rows : (i : ℕ) → i ∈ R → i < m
    pub independent : IndependentOn K n Q R (constants A)
    pub parameter : (x r : ℕ) → A x ≡ row r → (r < m) × (T r x ≡ true) × (R r ≢ true)
    pub one_each : (x y r : ℕ) → A x ≡ row r → A y ≡ row r → x ≡ y

  -- such an assignment of k columns
  pub record LegalOfSize (k : ℕ) : Type 0 where
    pub rows : Set
    pub seats : Assignment
    pub legal : LegalOn rows seats
    pub size : # n (placing seats) ≡ k
