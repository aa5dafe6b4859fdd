-- The question about a model that is judged: what it asks of columns. Assumes nothing.
use Prim.Native.Nat.{ℕ, ◌+◌, ◌*◌, ◌≤◌, ◌<◌}
use mathlib.Core.Path.{◌≡◌, refl, subst}
use mathlib.Core.Bool.{Bool, true, false}
use mathlib.Core.List.{List, flatten}
use borrow.Author.Tests.{le-ltb}
use Rattle.residue.specs.Residues.{res}
use Rattle.counting.specs.Sets.{Set}
use Rattle.columns.specs.Columns.{within}
use Rattle.columns.specs.Words.Bytes.{AreBytes}
use Rattle.rank.specs.Modulus.{modulus}
use Rattle.exchange.specs.DependenceCall.{DependenceShown, ListedDependenceShown}
use Rattle.format.specs.Refusals.{first_refusal, column_beyond, column_test}
use Rattle.format.specs.RefusalLaws.{first_fails, first_passes, first_none}
use Rattle.format.specs.TestLaws.{column_reads}
use Rattle.format.specs.File.Format.{decode, RowsCall}
use Rattle.layered.proofs.FileLaws.{own_constants, own_parameters, own_made}
use Rattle.std.specs.Prelude.{Err}
use Rattle.format.specs.declared.refusals.Refusal.{Refusal}
use Rattle.multipliers.specs.Shown.{multipliers_shown}
use Rattle.multipliers.specs.Answers.{column_question, MultipliersRefused}

-- ---- what is asked of columns

module _ (n held x : ℕ) where
  pub column_refused : n ≤ x → 11 ≡ first_refusal (column_question n held x)
  unfolding column_test
  column_refused l = first_fails _ column_beyond _ (le-ltb x n l)

  module _ (l : x < n) where
    pub held_refused : within n held ≡ false → 11 ≡ first_refusal (column_question n held x)
    held_refused e = first_passes _ column_beyond _ 11 ((column_reads x n).1 l) (first_fails _ column_beyond _ e)

    pub columns_pass : within n held ≡ true → 0 ≡ first_refusal (column_question n held x)
    columns_pass e = first_passes _ column_beyond _ 0 ((column_reads x n).1 l) (first_passes _ column_beyond _ 0 e first_none)

-- ---- the file's constants, as they were read

pub own_shown : {s : List ℕ} (bytes : AreBytes s) {k p n a b : ℕ} {t : Bool} {cs' ws' : List ℕ} → RowsCall s own_constants own_parameters k p n a b t cs' ws' → k ≡ 0
    → (H : Set) (x the-outcome : ℕ) (the-multipliers : List ℕ) → ListedDependenceShown p n a cs' H x the-outcome the-multipliers
    → ListedDependenceShown (decode s).p (decode s).n (decode s).a (flatten (decode s).constants) H x the-outcome the-multipliers
own_shown bytes call ok H x the-outcome the-multipliers = subst (λ (X : Type 0). X) (own_made bytes call ok by_elements)
  where
    by_elements : (p n a b : ℕ) (c w : ℕ → ℕ) → Type 0
    by_elements p n a b c w = DependenceShown p n a (λ i y. res (modulus p).0 (modulus p).1 (c (i * n + y))) H x the-outcome the-multipliers

-- ---- a refusal

-- it says nothing else
pub multipliers_refused : (e : Refusal) → MultipliersRefused (multipliers_shown (Err e))
multipliers_refused e = record { no_outcome = refl; no_multipliers = refl }
