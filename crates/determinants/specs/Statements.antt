-- What the theorems on determinants say of lists, of letters and of signs. Definitions only; assumes nothing.
use Rattle.std.specs.Prelude.{ℕ, ◌≡◌, Bool, true, false, List, [], ◌∷◌, map, ◌≢◌, ◌⊎◌}
use Rattle.std.proofs.Math.Decide.{ℕ_discrete}
use Rattle.residue.specs.Fields.{Field}
use Rattle.counting.specs.Sets.{Set, ◌⊆◌, choose, set}
use Rattle.determinants.specs.Determinant.{Letter, Each, Ascending}

-- ---- lists

-- the numbers in a list
unfoldable pub members : List ℕ → Set
members [] = λ k. false
members (j ∷ S) = set (members S) j true

-- no number twice
pub data Distinct : List ℕ → Type 0 where
  none : Distinct []
  more : {j : ℕ} {S : List ℕ} → members S j ≢ true → Distinct S → Distinct (j ∷ S)

-- π is I in some order
pub record Rearranged (I π : List ℕ) : Type 0 where
  pub distinct : Distinct π
  pub same : members π ≡ members I

-- x is in the list L
abbrev pub Among : {A : Type 0} → A → List A → Type 0
Among x [] = ⊥
Among x (y ∷ L) = (x ≡ y) ⊎ Among x L

-- no list twice
abbrev pub Different : List (List ℕ) → Type 0
Different [] = Unit {0}
Different (π ∷ L) = ¬ Among π L × Different L

-- I without i
unfoldable pub without : ℕ → List ℕ → List ℕ
without i [] = []
without i (x ∷ I) = choose (ℕ_discrete x i) I (x ∷ without i I)

-- I without each of R
unfoldable pub rest : List ℕ → List ℕ → List ℕ
rest [] I = I
rest (r ∷ R) I = rest R (without r I)

-- ---- letters

-- the rows, and the columns, of letters
abbrev pub rows_of : List Letter → List ℕ
rows_of l = map (λ x. x.0) l

abbrev pub columns_of : List Letter → List ℕ
columns_of l = map (λ x. x.1) l

-- l are letters of the part with rows I and columns J, by ascending column, no two in one row or column
pub record LettersOf (T : ℕ → ℕ → Bool) (I J : List ℕ) (l : List Letter) : Type 0 where
  pub are_letters : Each (λ x. T x.0 x.1 ≡ true) l
  pub columns_ascend : Ascending (columns_of l)
  pub rows_differ : Distinct (rows_of l)
  pub rows_within : members (rows_of l) ⊆ members I
  pub columns_within : members (columns_of l) ⊆ members J

-- ---- signs

-- x is y up to sign
abbrev pub UpToSign : (K : Field) → K.F → K.F → Type 0
UpToSign K x y = (x ≡ y) ⊎ (x ≡ K.neg y)
