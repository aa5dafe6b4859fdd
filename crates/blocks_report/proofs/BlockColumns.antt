-- The columns of a block, gathered column by column. Assumes nothing.
use Prim.Native.Nat.{ℕ, ◌+◌, ◌<◌}
use mathlib.Core.Path.{◌≡◌, refl, fun_ext}
use mathlib.Core.Logic.{◌≢◌, inl, inr}
use mathlib.Core.Bool.{◌&&◌}
use mathlib.Core.List.{List}
use native.Mathlib.Omega.{arith}
use native.Mathlib.Decide.{ℕ_discrete}
use lib.Dec.{eqb, ltb}
use lib.ListN.{length, get_or}
use borrow.Author.Tests.{eq-eqb, eqb-true, lt-ltb, le-ltb, ltb-true}
use Rattle.counting.specs.Bools.{iff_eq, and_in, and_left, and_right}
use Rattle.counting.specs.Sets.{Set, ◌∈◌}
use Rattle.columns.specs.Columns.{width, none, inserted}
use Rattle.columns.specs.Words.SetLaws.{inserted_same, inserted_old, inserted_split}
use Rattle.blocks_report.specs.BlocksReport.{block_columns}

module _ (numbers : List ℕ) (k : ℕ) where
  -- of the columns below m, those whose number is k
  unfoldable pub gathered : (m : ℕ) → Set
  gathered m x = ltb x m && eqb (get_or numbers x 0) k

  gathered_in : (m x : ℕ) → x < m → get_or numbers x 0 ≡ k → x ∈ gathered m
  unfolding gathered
  gathered_in m x l e = and_in (lt-ltb x m l) (eq-eqb (get_or numbers x 0) k e)

  gathered_has : (m x : ℕ) → x ∈ gathered m → (x < m) × (get_or numbers x 0 ≡ k)
  unfolding gathered
  gathered_has m x e = (
    ltb-true x m (and_left (ltb x m) (eqb (get_or numbers x 0) k) e),
    eqb-true (get_or numbers x 0) k (and_right (ltb x m) (eqb (get_or numbers x 0) k) e),
  )

  pub gathered_none : gathered 0 ≡ none
  unfolding gathered
  gathered_none = fun_ext (λ x. rw (le-ltb x 0 (omega arith)) refl)

  pub gathered_with : (m : ℕ) → m < width → get_or numbers m 0 ≡ k → inserted (gathered m) m ≡ gathered (m + 1)
  gathered_with m l e = fun_ext (λ x. iff_eq (inserted (gathered m) m x) (gathered (m + 1) x)
      (λ h. elim (inserted_split (gathered m) m x h) [
        | inl z ↦ rw z (gathered_in (m + 1) m (omega arith) e)
        | inr o ↦ let w = gathered_has m x o in gathered_in (m + 1) x (omega (arith, w.0)) w.1
      ])
      (λ h. let w = gathered_has (m + 1) x h in elim (ℕ_discrete x m) [
        | yes z ↦ rw z (inserted_same (gathered m) m l)
        | no nz ↦ inserted_old (gathered m) m x (gathered_in m x (omega (arith, w.0)) w.1)
      ]))

  pub gathered_without : (m : ℕ) → get_or numbers m 0 ≢ k → gathered m ≡ gathered (m + 1)
  gathered_without m ne = fun_ext (λ x. iff_eq (gathered m x) (gathered (m + 1) x)
      (λ h. let w = gathered_has m x h in gathered_in (m + 1) x (omega (arith, w.0)) w.1)
      (λ h. let w = gathered_has (m + 1) x h in elim (ℕ_discrete x m) [
        | yes z ↦ absurd (ne (rw z at w.1))
        | no nz ↦ gathered_in m x (omega (arith, w.0)) w.1
      ]))

  pub gathered_all : gathered (length numbers) ≡ block_columns numbers k
  unfolding gathered block_columns
  gathered_all = refl
