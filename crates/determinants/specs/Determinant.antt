-- The determinant of textbooks: the signed sum over all arrangements of rows to columns. A place holds its constant, its letter (each parameter is a letter
-- of its own), or the sum of both, and terms are collected by their letters. Then the square parts of a table, by their order, and the largest order. Over
-- any field; "modulo p" is the field of residues. Definitions only; assumes nothing.
use Rattle.std.specs.Prelude.{ℕ, zero, suc, ◌+◌ as ◌plus◌, ◌≤◌, ◌<◌, ◌≡◌, Bool, true, false, ◌&&◌, cond, ◌≢◌, length}
use Rattle.std.proofs.Math.Bool.{decide}
use mathlib.Core.List.{List, [], ◌∷◌, ◌++◌, map, flat_map}
use Rattle.std.proofs.Math.Decide.{ℕ_discrete, dec_lt}
use Rattle.residue.specs.Fields.{Field}
use Rattle.counting.specs.Sets.{Set, ◌∈◌, indicator}

-- ---- arrangements and their signs

-- all lists made by putting i somewhere into π
unfoldable pub insertions : ℕ → List ℕ → List (List ℕ)
insertions i [] = (i ∷ []) ∷ []
insertions i (x ∷ π) = (i ∷ x ∷ π) ∷ map (λ ρ. x ∷ ρ) (insertions i π)

-- all arrangements of the rows I; `arrangements_are_all` says that they are, each once
unfoldable pub arrangements : List ℕ → List (List ℕ)
arrangements [] = [] ∷ []
arrangements (i ∷ I) = flat_map (insertions i) (arrangements I)

-- how many of π are smaller than x
unfoldable pub smaller : ℕ → List ℕ → ℕ
smaller x [] = 0
smaller x (y ∷ π) = indicator (decide (dec_lt y x)) plus smaller x π

-- how many pairs of π have the larger one first
unfoldable pub inversions : List ℕ → ℕ
inversions [] = 0
inversions (x ∷ π) = smaller x π plus inversions π

module _ (K : Field) where
  open K use {F, 𝟙, neg}

  -- −1 to the power k; the sign of an arrangement is that of its inversions
  unfoldable pub sign : ℕ → F
  sign zero = 𝟙
  sign (suc k) = neg (sign k)

-- ---- terms

-- the letter of a parameter is its place: row, column
abbrev pub Letter : Type 0
Letter = ℕ × ℕ

-- the same letters, in the same order; terms list their letters by ascending column, so that the order says nothing (`same_letters_same_list`)
unfoldable pub same_letters : List Letter → List Letter → Bool
same_letters [] [] = true
same_letters [] (y ∷ m) = false
same_letters (x ∷ l) [] = false
same_letters (x ∷ l) (y ∷ m) = decide (ℕ_discrete x.0 y.0) && decide (ℕ_discrete x.1 y.1) && same_letters l m

module _ (K : Field) where
  open K use {F}

  -- a term: a number times the letters that it uses
  pub record Term : Type 0 where
    pub coefficient : F
    pub letters : List Letter

module _ (K : Field) where
  open K use {F, 𝟘, 𝟙, ◌+◌, ◌·◌}

  -- a number times a term
  abbrev pub by_number : F → Term K → Term K
  by_number q t = record { coefficient = q · t.coefficient; letters = t.letters }

  -- a letter times a term
  abbrev pub by_letter : Letter → Term K → Term K
  by_letter x t = record { coefficient = t.coefficient; letters = x ∷ t.letters }

  -- terms collected: the sum of the coefficients of those whose letters are l
  unfoldable pub collect : List Letter → List (Term K) → F
  collect l [] = 𝟘
  collect l (t ∷ ts) = cond (same_letters t.letters l) t.coefficient 𝟘 + collect l ts

  -- ---- the determinant of a table with the constant Q i j at row i and column j, and a letter there where T i j

  module _ (Q : ℕ → ℕ → F) (T : ℕ → ℕ → Bool) where
    -- the terms of the product of the places where row π_s meets column J_s: a place is its constant plus, where it has one, its letter
    unfoldable pub product : List ℕ → List ℕ → List (Term K)
    product [] [] = record { coefficient = 𝟙; letters = [] } ∷ []
    product [] (j ∷ J) = []
    product (i ∷ π) [] = []
    product (i ∷ π) (j ∷ J) = map (by_number (Q i j)) (product π J) ++ cond (T i j) (map (by_letter (i, j)) (product π J)) []

    -- the terms of the determinant of rows I and columns J: of each arrangement of the rows its product, with its sign
    unfoldable pub determinant : List ℕ → List ℕ → List (Term K)
    determinant I J = flat_map (λ π. map (by_number (sign K (inversions π))) (product π J)) (arrangements I)

    -- its coefficient at the letters l
    abbrev pub coefficient_at : List Letter → List ℕ → List ℕ → F
    coefficient_at l I J = collect l (determinant I J)

    -- it is not zero: the coefficient at some letters is not
    abbrev pub NotZero : List ℕ → List ℕ → Type 0
    NotZero I J = (l : List Letter) × (coefficient_at l I J ≢ 𝟘)

-- ---- square parts and their order

-- P holds of each member of a list
pub data Each {A : Type 0} (P : A → Type 0) : List A → Type 0 where
  done : Each P []
  both : {x : A} {L : List A} → P x → Each P L → Each P (x ∷ L)

-- each number is smaller than all behind it
abbrev pub Ascending : List ℕ → Type 0
Ascending [] = Unit {0}
Ascending (i ∷ I) = Each (λ x. i < x) I × Ascending I

-- a square part of order k: k of the rows below m, and k of the columns below n that are in E
pub record SquarePart (m n : ℕ) (E : Set) (k : ℕ) : Type 0 where
  pub rows : List ℕ
  pub columns : List ℕ
  pub rows_ascend : Ascending rows
  pub columns_ascend : Ascending columns
  pub rows_within : Each (λ i. i < m) rows
  pub columns_within : Each (λ x. (x < n) × (x ∈ E)) columns
  pub k_rows : length rows ≡ k
  pub k_columns : length columns ≡ k

-- k is the order of a square part whose determinant is not zero
abbrev pub NonzeroOrder : (K : Field) → (ℕ → ℕ → K.F) → (ℕ → ℕ → Bool) → (m n : ℕ) → Set → ℕ → Type 0
NonzeroOrder K Q T m n E k = (S : SquarePart m n E k) × NotZero K Q T S.rows S.columns

-- k has P, and no larger number has
pub record Largest (P : ℕ → Type 0) (k : ℕ) : Type 0 where
  pub reached : P k
  pub bound : (j : ℕ) → P j → j ≤ k
