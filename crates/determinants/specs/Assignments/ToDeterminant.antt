-- From a legal assignment to a determinant that is not zero: in the table without letters the placed columns are independent on the rows of the constants
-- and of the letters. Assumes nothing.
use Rattle.std.specs.Prelude.{ℕ, ◌<◌, ◌≡◌, refl, Bool, true, ◌||◌, List, ◌≢◌, length}
use Rattle.std.proofs.Common.{sym, ap, subst, ◌∙◌, true≢false}
use Rattle.std.proofs.Math.Bool.{decide, decide_iff}
use Rattle.std.proofs.lemmas.Bool.{false≢true}
use Rattle.std.proofs.Math.Logic.{⊎_elim, if_neg}
use Rattle.std.proofs.Math.Decide.{ℕ_discrete}
use Rattle.residue.specs.Fields.{Field, mul_zero, one_mul, zero_mul}
use Rattle.counting.specs.Bools.{or_left, or_right, or_split}
use Rattle.counting.specs.Sets.{Set, ◌∈◌, #}
use Rattle.rank.specs.Layered.Model.{Seat, out, constant, row, Assignment, is_placed, is_constant, placing, constants}
use Rattle.rank.specs.Linear.Independence.{dot, In}
use Rattle.rank.specs.Linear.Sums.{dot_one, Σ-cong}
use Rattle.determinants.specs.Determinant.{Ascending, NonzeroOrder}
use Rattle.determinants.specs.Statements.{members, Distinct}
use Rattle.determinants.specs.Lists.Members.{Below, list, list_below, list_distinct, list_length, list_of}
use Rattle.determinants.specs.Lists.Order.{ascending_distinct, members_each, sort, sort_ascending, sort_length, sort_members}
use Rattle.determinants.specs.Expansion.Cofactors.{IndependentOn, nonzero_of_independent, ChosenRows}
use Rattle.determinants.specs.Expansion.Sorting.{sort_value}
use Rattle.determinants.specs.Letters.Coefficients.{coefficient_value, letterless, value_at, letterless_one, letterless_other}
use Rattle.determinants.specs.Letters.Taken.{letters_taken}
use Rattle.determinants.specs.Assignments.Legal.{LegalOn, LegalOfSize, used?}

module _ (K : Field) (m n : ℕ) (Q : ℕ → ℕ → K.F) (T : ℕ → ℕ → Bool) (E : Set) (A : Assignment) (R : Set) (h : LegalOn K m n Q T E R A) where
  open K use {F, 𝟘, ◌·◌}

  -- the rows of the constants and those of the letters
  wanted : Set
  wanted i = R i || decide (used? n A i)

  wanted_R : (i : ℕ) → R i ≡ true → wanted i ≡ true
  unfolding wanted
  wanted_R i e = or_left (R i) (decide (used? n A i)) e

  wanted_used : (x r : ℕ) → A x ≡ row r → wanted r ≡ true
  unfolding wanted
  wanted_used x r e = or_right (R r) (decide (used? n A r)) ((decide_iff (used? n A r)).1 ((x, (h.columns x (ap is_placed e)).0, e)))

  wanted_below : (i : ℕ) → wanted i ≡ true → i < m
  unfolding wanted
  wanted_below i w = ⊎_elim (h.rows i) (λ e. let u = (decide_iff (used? n A i)).0 e in (h.parameter u.0 i u.2).0) (or_split (R i) (decide (used? n A i)) w)

  module _ (c : ℕ → F) (s : In K (placing A) c) (z : (i : ℕ) → wanted i ≡ true → dot K n (letterless K Q T A i) c ≡ 𝟘) where
    -- the coefficients of the columns on the constant side
    abbrev kept : Seat → ℕ → F
    kept out x = 𝟘
    kept constant x = c x
    kept (row r) x = 𝟘

    kept_in : In K (constants A) (λ x. kept (A x) x)
    kept_in x = go (A x)
      where
        go : (t : Seat) → is_constant t ≢ true → kept t x ≡ 𝟘
        go out ne = refl
        go constant ne = absurd (ne refl)
        go (row r) ne = refl

    kept_term : (i x : ℕ) → R i ≡ true → Q i x · kept (A x) x ≡ value_at K Q T (A x) i x · c x
    kept_term i x ri = go (A x) refl
      where
        go : (t : Seat) → A x ≡ t → Q i x · kept t x ≡ value_at K Q T t i x · c x
        go out e = ap (λ y. Q i x · y) (sym (s x (λ y. false≢true (sym (ap is_placed e) ∙ y))))
        go constant e = refl
        go (row r) e = mul_zero K _ ∙ sym (ap (λ y. y · c x) (if_neg (ℕ_discrete i r) (λ d. (h.parameter x r e).2 (ap R (sym d) ∙ ri)) _ _) ∙ zero_mul K _)

    -- they are zero, since these columns are independent on R,
    kept_zero : (x : ℕ) → x < n → kept (A x) x ≡ 𝟘
    unfolding letterless dot
    kept_zero = h.independent.only_zero (λ x. kept (A x) x) kept_in
        (λ i ri. Σ-cong K n _ _ (λ x l. kept_term i x ri) ∙ z i (wanted_R i ri))

    off_row : (x : ℕ) → x < n → ((r : ℕ) → A x ≢ row r) → c x ≡ 𝟘
    off_row x l nr = go (A x) refl (kept_zero x l)
      where
        go : (t : Seat) → A x ≡ t → kept t x ≡ 𝟘 → c x ≡ 𝟘
        go out e w = s x (λ y. false≢true (sym (ap is_placed e) ∙ y))
        go constant e w = w
        go (row r) e w = absurd (nr r e)

    -- so a row that serves a column has no other term,
    other_term : (x r y : ℕ) → A x ≡ row r → y < n → y ≢ x → letterless K Q T A r y · c y ≡ 𝟘
    other_term x r y e l ny = go (A y) refl (off_row y l)
      where
        go : (t : Seat) → A y ≡ t → (((q : ℕ) → A y ≢ row q) → c y ≡ 𝟘) → letterless K Q T A r y · c y ≡ 𝟘
        go out d w = ap (λ v. letterless K Q T A r y · v) (w (λ q k. false≢true (ap is_placed (sym d ∙ k)))) ∙ mul_zero K _
        go constant d w = ap (λ v. letterless K Q T A r y · v) (w (λ q k. true≢false (ap is_constant (sym d ∙ k)))) ∙ mul_zero K _
        go (row q) d w = ap (λ v. v · c y) (letterless_other K Q T A y q r d (λ k. ny (h.one_each y x r (d ∙ ap row (sym k)) e))) ∙ zero_mul K _

    -- and the coefficient of that column is zero too
    every_zero : (x : ℕ) → x < n → c x ≡ 𝟘
    every_zero x l = go (A x) refl (off_row x l)
      where
        go : (t : Seat) → A x ≡ t → (((q : ℕ) → A x ≢ row q) → c x ≡ 𝟘) → c x ≡ 𝟘
        go out d w = w (λ q k. false≢true (ap is_placed (sym d ∙ k)))
        go constant d w = w (λ q k. true≢false (ap is_constant (sym d ∙ k)))
        go (row r) d w = sym (one_mul K _) ∙ ap (λ v. v · c x) (sym (letterless_one K Q T A x r d (h.parameter x r d).1))
            ∙ sym (dot_one K n (letterless K Q T A r) c x l (λ y ly ny. other_term x r y d ly ny)) ∙ z r (wanted_used x r d)

  nonzero_part : NonzeroOrder K Q T m n E (# n (placing A))
  nonzero_part =
      let L : List ℕ = list n (placing A) in
      let J : List ℕ = sort L in
      let in_A : (k : ℕ) → k ∈ members J → k ∈ members L = λ k e. sym (ap (λ S. S k) (sort_members L)) ∙ e in
      let ja : Ascending J = sort_ascending L (list_distinct n (placing A)) in
      let bj : Below n J = λ k e. list_below n (placing A) k (in_A k e) in
      let dj : Distinct J = ascending_distinct J ja in
      let jn : length J ≡ # n (placing A) = sort_length L ∙ list_length n (placing A) in
      let independent : IndependentOn K n (letterless K Q T A) wanted (members J) = record {
        only_zero = λ c s z. every_zero c (λ k nk. s k (λ e. nk (list_of n (placing A) k (in_A k e)))) z;
      } in
      let o : ChosenRows K n (letterless K Q T A) wanted J = nonzero_of_independent K n (letterless K Q T A) m wanted wanted_below J bj dj independent in
      let I : List ℕ = sort o.I in
      let ia : Ascending I = sort_ascending o.I o.distinct in (
        record {
          rows = I;
          columns = J;
          rows_ascend = ia;
          columns_ascend = ja;
          rows_within = members_each (λ i. i < m) I (λ k e. wanted_below k (o.among k (sym (ap (λ S. S k) (sort_members o.I)) ∙ e)));
          columns_within = members_each (λ x. (x < n) × (x ∈ E)) J (λ k e. h.columns k (list_of n (placing A) k (in_A k e)));
          k_rows = sort_length o.I ∙ o.size ∙ jn;
          k_columns = jn;
        },
        (letters_taken A J, λ w. sort_value K (letterless K Q T A) o.I J o.value (sym (coefficient_value K Q T A I J ia dj) ∙ w)),
      )

-- a legal assignment of k columns gives a square part of order k
pub order_of_legal : (K : Field) (m n : ℕ) (Q : ℕ → ℕ → K.F) (T : ℕ → ℕ → Bool) (E : Set) (k : ℕ) → LegalOfSize K m n Q T E k → NonzeroOrder K Q T m n E k
order_of_legal K m n Q T E k p = subst (NonzeroOrder K Q T m n E) p.size (nonzero_part K m n Q T E p.seats p.rows p.legal)
