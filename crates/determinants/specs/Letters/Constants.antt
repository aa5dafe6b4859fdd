-- A square part without letters: its determinant is not zero exactly where its columns are independent on its rows; and order 0. Assumes nothing.
use Rattle.std.specs.Prelude.{ℕ, ◌<◌, ◌≡◌, refl, Bool, false, ◌≢◌, ◌↔◌, length, get_or}
use Rattle.std.proofs.Common.{sym, ap, subst, ◌∙◌, arith}
use Rattle.std.proofs.lemmas.Bool.{false≢true}
use mathlib.Core.List.{List, [], ◌∷◌, flat_map}
use Rattle.std.proofs.Math.Logic.{by_cases}
use Rattle.residue.specs.Fields.{Field}
use Rattle.counting.specs.Bools.{true?}
use Rattle.counting.specs.Injections.{#-strict}
use Rattle.counting.specs.Sets.{Set, ◌∈◌, ◌⊆◌}
use Rattle.rank.specs.Linear.Independence.{dot, Indep}
use Rattle.determinants.specs.Determinant.{arrangements, inversions, sign, Letter, same_letters, collect, product, determinant, coefficient_at, NotZero}
use Rattle.determinants.specs.Determinant.{done, SquarePart, NonzeroOrder}
use Rattle.determinants.specs.Statements.{members, Distinct, LettersOf}
use Rattle.determinants.specs.Lists.Among.{ascending_same}
use Rattle.determinants.specs.Lists.Each.{each_head}
use Rattle.determinants.specs.Lists.Members.{member_head, number_member, member_number, #-members}
use Rattle.determinants.specs.Lists.Order.{ascending_distinct, sort, sort_members, sort_ascending}
use Rattle.determinants.specs.Expansion.Cofactors.{IndependentOn, independent_of_nonzero, nonzero_of_independent, ChosenRows}
use Rattle.determinants.specs.Expansion.Rows.{expansion}
use Rattle.determinants.specs.Expansion.Sorting.{sort_value}
use Rattle.determinants.specs.Letters.Coefficients.{coefficient_constants}
use Rattle.determinants.specs.Letters.Terms.{only_letters}
use Rattle.determinants.specs.Parts.Within.{rows_below, columns_below}

module _ (K : Field) (Q : ℕ → ℕ → K.F) (m n : ℕ) (E : Set) (k : ℕ) (S : SquarePart m n E k) where
  open K use {𝟘}

  abbrev I : List ℕ
  I = S.rows

  abbrev J : List ℕ
  J = S.columns

  -- the columns are independent on the rows: of the table with row number s of the part as its row s
  abbrev Independent : Type 0
  Independent = Indep K k n (λ s. Q (get_or I s 0)) (members J)

  independent_there : IndependentOn K n Q (members I) (members J) → Independent
  independent_there f = record {
    only_zero = λ c s z. f.only_zero c s (λ i e. let w = member_number I i e in
        subst (λ r. dot K n (Q r) c ≡ 𝟘) w.2 (z w.0 (subst (λ q. w.0 < q) S.k_rows w.1)));
  }

  independent_back : Independent → IndependentOn K n Q (members I) (members J)
  independent_back f = record {
    only_zero = λ c s z. f.only_zero c s (λ t l. z (get_or I t 0) (number_member I t (subst (λ q. t < q) (sym S.k_rows) l)));
  }

  -- as many rows of the part as it has are all of them
  all_rows : (L : List ℕ) → Distinct L → members L ⊆ members I → length L ≡ length I → sort L ≡ I
  all_rows L d h e = ascending_same (sort L) I (sort_ascending L d) S.rows_ascend
      (λ i a. h i (sym (ap (λ X. X i) (sort_members L)) ∙ a))
      (λ i a. by_cases (true? (members L i)) (λ w. ap (λ X. X i) (sort_members L) ∙ w)
      (λ nw. absurd (omega (
        arith,
        e,
        #-members m L d (λ j w. rows_below m n E k S j (h j w)),
        #-members m I (ascending_distinct I S.rows_ascend) (rows_below m n E k S),
        #-strict m (members L) (members I) (λ j _ w. h j w) i (rows_below m n E k S i a) a nw,
      ))))

  expansion_iff : (expansion K Q I J ≢ 𝟘) ↔ Independent
  expansion_iff = (
    λ nz. independent_there (independent_of_nonzero K n Q I J (columns_below m n E k S) nz),
    λ f. let o : ChosenRows K n Q (members I) J
        = nonzero_of_independent K n Q m (members I) (rows_below m n E k S) J (columns_below m n E k S) (ascending_distinct J S.columns_ascend) (independent_back f) in
        subst (λ L. expansion K Q L J ≢ 𝟘) (all_rows o.I o.distinct o.among (o.size ∙ S.k_columns ∙ sym S.k_rows))
        (sort_value K Q o.I J o.value),
  )

  module _ (T : ℕ → ℕ → Bool) where
    constants_coefficient : coefficient_at K Q T [] I J ≡ expansion K Q I J
    constants_coefficient = coefficient_constants K Q T I J S.rows_ascend (ascending_distinct J S.columns_ascend)

    -- where no letter stands in the part
    pub constants_iff : ((i x : ℕ) → i ∈ members I → x ∈ members J → T i x ≡ false) → NotZero K Q T I J ↔ Independent
    constants_iff no-letter = (
      λ h. expansion_iff.0 (λ z. only h.0 (only_letters K Q T I J S.rows_ascend S.columns_ascend h.0 h.1) h.1 (constants_coefficient ∙ z)),
      λ f. ([], λ z. expansion_iff.1 f (sym constants_coefficient ∙ z)),
    )
      where
        only : (l : List Letter) → LettersOf T I J l → coefficient_at K Q T l I J ≢ 𝟘 → coefficient_at K Q T [] I J ≢ 𝟘
        only [] h nz = nz
        only (x ∷ l) h nz = absurd (false≢true (sym (no-letter x.0 x.1 (h.rows_within x.0 (member_head x.0 _)) (h.columns_within x.1 (member_head x.1 _)))
            ∙ each_head h.are_letters))

-- order 0: the determinant is 1
pub empty_determinant : (K : Field) (Q : ℕ → ℕ → K.F) (T : ℕ → ℕ → Bool) → coefficient_at K Q T [] [] [] ≡ K.𝟙
unfolding determinant arrangements product flat_map same_letters collect inversions sign
empty_determinant K Q T = K.add_zero _ ∙ K.mul_one K.𝟙

pub order_zero : (K : Field) (Q : ℕ → ℕ → K.F) (T : ℕ → ℕ → Bool) (m n : ℕ) (E : Set) → NonzeroOrder K Q T m n E 0
order_zero K Q T m n E = (
  record {
    rows = [];
    columns = [];
    rows_ascend = tt;
    columns_ascend = tt;
    rows_within = done;
    columns_within = done;
    k_rows = refl;
    k_columns = refl;
  },
  ([], λ z. K.one_ne (sym (empty_determinant K Q T) ∙ z)),
)
