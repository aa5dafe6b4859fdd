-- From a determinant that is not zero to a legal assignment: the letters of a coefficient that is not zero stand at rows of their own, and the other columns
-- are independent on the rows that stay. Assumes nothing.
use Rattle.std.specs.Prelude.{ℕ, ◌<◌, ◌≡◌, refl, Bool, List}
use Rattle.std.proofs.Common.{sym, ap, ◌∙◌}
use Rattle.std.proofs.lemmas.Bool.{false≢true}
use Rattle.residue.specs.Fields.{Field, mul_zero}
use Rattle.counting.specs.Counts.{#-ext}
use Rattle.counting.specs.Sets.{Set, ◌∈◌}
use Rattle.rank.proofs.Layered.Restricting.{constant_placed}
use Rattle.rank.specs.Layered.Model.{row, Assignment, is_placed, is_constant, placing, constants}
use Rattle.determinants.specs.Determinant.{Letter, NonzeroOrder}
use Rattle.determinants.specs.Statements.{members, Among, rest, rows_of, columns_of, LettersOf}
use Rattle.determinants.specs.Lists.Among.{each_among, among_key, same_key}
use Rattle.determinants.specs.Lists.Members.{#-members}
use Rattle.determinants.specs.Lists.Order.{member_map, ascending_distinct}
use Rattle.determinants.specs.Lists.Without.{rest_in, rest_apart, rest_other}
use Rattle.determinants.specs.Expansion.Cofactors.{IndependentOn, independent_of_nonzero, independent_sub}
use Rattle.determinants.specs.Letters.Minors.{coefficient_minor}
use Rattle.determinants.specs.Letters.Taken.{Taken, taken_of, letters_seated, seated_letter}
use Rattle.determinants.specs.Letters.Terms.{only_letters}
use Rattle.determinants.specs.Assignments.Legal.{LegalOfSize}
use Rattle.determinants.specs.Parts.Within.{rows_below, columns_offered}

module _ (K : Field) (m n : ℕ) (Q : ℕ → ℕ → K.F) (T : ℕ → ℕ → Bool) (E : Set) (k : ℕ) (p : NonzeroOrder K Q T m n E k) where
  open K use {◌·◌}

  abbrev I : List ℕ
  I = p.0.rows

  abbrev J : List ℕ
  J = p.0.columns

  abbrev l : List Letter
  l = p.1.0

  fits : LettersOf T I J l
  fits = only_letters K Q T I J p.0.rows_ascend p.0.columns_ascend l p.1.1

  taking : Taken J l
  taking = taken_of T I J l p.0.columns_ascend fits

  -- the columns of the letters sit on their rows, the others on the constant side
  abbrev A : Assignment
  A = taking.seats

  -- the rows that stay
  abbrev R : Set
  R = members (rest (rows_of l) I)

  in_J : (x : ℕ) → x ∈ placing A → x ∈ members J
  in_J x e = sym (taking.places x) ∙ e

  within : (x : ℕ) → x ∈ members J → (x < n) × (x ∈ E)
  within = columns_offered m n E k p.0

  row_within : (i : ℕ) → i ∈ members I → i < m
  row_within = rows_below m n E k p.0

  -- a column on a row has its letter
  has_letter : (x r : ℕ) → A x ≡ row r → Among (r, x) l
  has_letter x r e = seated_letter J l taking x r (in_J x (ap is_placed e)) e

  -- a column on the constant side stays
  stays : (x : ℕ) → x ∈ constants A → x ∈ members (rest (columns_of l) J)
  stays x e = rest_other (columns_of l) J x (in_J x (constant_placed (A x) e))
      (λ w. let y = member_map (λ z. z.1) l (letters_seated J l taking) x w in false≢true (sym (ap is_constant (ap A (sym y.2) ∙ y.1)) ∙ e))

  independent_left : IndependentOn K n Q R (members (rest (columns_of l) J))
  independent_left =
      let w = coefficient_minor K Q T I J p.0.rows_ascend p.0.columns_ascend l fits in
      independent_of_nonzero K n Q (rest (rows_of l) I) (rest (columns_of l) J) (λ x e. (within x (rest_in (columns_of l) J x e)).0)
      (λ z. p.1.1 (w.2 ∙ ap (λ y. w.0 · y) z ∙ mul_zero K _))

  pub legal_of_order : LegalOfSize K m n Q T E k
  legal_of_order = record {
    rows = R;
    seats = A;
    legal = record {
      columns = λ x e. within x (in_J x e);
      rows = λ i e. row_within i (rest_in (rows_of l) I i e);
      independent = independent_sub K n Q R (constants A) (members (rest (columns_of l) J)) stays independent_left;
      parameter = λ x r e. let a : Among (r, x) l = has_letter x r e in
          let b : r ∈ members (rows_of l) = among_key (λ y. y.0) (r, x) l a in (
            row_within r (fits.rows_within r b),
            each_among (r, x) l fits.are_letters a,
            λ w. rest_apart (rows_of l) I p.0.rows_ascend r w b,
          );
      one_each = λ x y r ex ey. ap (λ z. z.1) (same_key (λ z. z.0) l fits.rows_differ (r, x) (r, y) (has_letter x r ex) (has_letter y r ey) refl);
    };
    size = #-ext n (placing A) (members J) (λ j _. taking.places j) ∙ #-members n J (ascending_distinct J p.0.columns_ascend) (λ x e. (within x e).0)
        ∙ p.0.k_columns;
  }
