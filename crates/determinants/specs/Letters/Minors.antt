-- The coefficient at some letters is, up to sign, the determinant of the constants on the rows and columns that stay. Assumes nothing.
use Rattle.std.specs.Prelude.{ℕ, ◌≡◌, Bool, true, List}
use Rattle.std.proofs.Common.{ap, ◌∙◌}
use Rattle.residue.specs.Fields.{Field}
use Rattle.rank.specs.Layered.Model.{row, Assignment}
use Rattle.determinants.specs.Determinant.{Letter, coefficient_at, Each, Ascending}
use Rattle.determinants.specs.Statements.{members, rest, rows_of, columns_of, LettersOf}
use Rattle.determinants.specs.Lists.Among.{among_key}
use Rattle.determinants.specs.Lists.Each.{each_both, each_imp}
use Rattle.determinants.specs.Lists.Order.{ascending_distinct}
use Rattle.determinants.specs.Lists.Without.{rest_in, rest_apart}
use Rattle.determinants.specs.Expansion.Minors.{UnitColumn, minor, expansion_ext}
use Rattle.determinants.specs.Expansion.Rows.{expansion}
use Rattle.determinants.specs.Expansion.Signs.{Signed}
use Rattle.determinants.specs.Letters.Coefficients.{letterless, coefficient_value, letterless_one, letterless_other, letterless_plain}
use Rattle.determinants.specs.Letters.Taken.{Taken, taken_of, letters_seated, seated_letter}

module _ (K : Field) (Q : ℕ → ℕ → K.F) (T : ℕ → ℕ → Bool) (I J : List ℕ) (ia : Ascending I) (ja : Ascending J) (l : List Letter) (h : LettersOf T I J l) where
  open K use {◌·◌}

  -- the assignment that takes these letters
  taking : Taken J l
  taking = taken_of T I J l ja h

  abbrev A : Assignment
  A = taking.seats

  units : Each (λ x. UnitColumn K (letterless K Q T A) x.0 x.1) l
  units = each_imp {R = λ x. (A x.1 ≡ row x.0) × (T x.0 x.1 ≡ true)}
      (λ x e. (letterless_one K Q T A x.1 x.0 e.0 e.1, λ i. letterless_other K Q T A x.1 x.0 i e.0)) l
      (each_both l (letters_seated J l taking) h.are_letters)

  -- the columns that stay have their constants
  stays : (i j : ℕ) → members (rest (rows_of l) I) i ≡ true → members (rest (columns_of l) J) j ≡ true → letterless K Q T A i j ≡ Q i j
  stays i j mi mj = letterless_plain K Q T A j i (λ r e. rest_apart (columns_of l) J ja j mj
      (among_key (λ x. x.1) (r, j) l (seated_letter J l taking j r (rest_in (columns_of l) J j mj) e)))

  pub coefficient_minor : Signed K (coefficient_at K Q T l I J) (expansion K Q (rest (rows_of l) I) (rest (columns_of l) J))
  coefficient_minor =
      let w = minor K (letterless K Q T A) l I J units (ascending_distinct I ia) h.rows_differ (ascending_distinct (columns_of l) h.columns_ascend)
      h.rows_within h.columns_within in (
        w.0,
        w.1,
        ap (λ m. coefficient_at K Q T m I J) taking.takes ∙ coefficient_value K Q T A I J ia (ascending_distinct J ja) ∙ w.2
            ∙ ap (λ z. w.0 · z) (expansion_ext K (letterless K Q T A) Q (rest (rows_of l) I) (rest (columns_of l) J) stays),
      )
