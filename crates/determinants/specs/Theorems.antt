-- The rank that textbooks mean: what is proved of determinants and of the rank. Assumes nothing.
use Rattle.std.specs.Prelude.{ℕ, ◌≡◌, Bool, false, List, [], ◌≢◌, ◌↔◌, get_or}
use Rattle.std.proofs.Common.{sym, ap, ◌∙◌, arith}
use Rattle.residue.specs.Fields.{Field}
use Rattle.counting.specs.Sets.{Set, ◌∈◌}
use Rattle.rank.specs.Linear.Independence.{Indep}
use Rattle.rank.specs.Layered.Model.{Model}
use Rattle.rank.specs.Layered.Rank.{rank}
use Rattle.listed_models.specs.ListedModel.{listed_model}
use Rattle.mixed_models.specs.Mixed.{Mixed, mixed_rank, mixed}
use Rattle.determinants.specs.Determinant.{arrangements, Letter, Term, determinant, coefficient_at, NotZero, Each, Ascending, SquarePart, NonzeroOrder}
use Rattle.determinants.specs.Determinant.{Largest}
use Rattle.determinants.specs.Statements.{members, Distinct, Rearranged, Among, Different, rest, rows_of, columns_of, LettersOf, UpToSign}
use Rattle.determinants.specs.ModelTables.{LayeredOrder, MixedOrder}
use Rattle.determinants.specs.Lists.Order.{ascending_distinct}
use Rattle.determinants.specs.Lists.Without.{rest_ascending}
use Rattle.determinants.specs.Arrangements.{arranged, complete, once}
use Rattle.determinants.specs.Expansion.Signs.{signed}
use Rattle.determinants.specs.Letters.Coefficients.{coefficient_constants}
use Rattle.determinants.specs.Letters.Constants.{constants_iff, empty_determinant, order_zero}
use Rattle.determinants.specs.Letters.Minors.{coefficient_minor}
use Rattle.determinants.specs.Letters.Terms.{only_letters, same_lists}
use Rattle.determinants.specs.Parts.Layered.{layered_bound, layered_reached}
use Rattle.determinants.specs.Parts.Mixed.{mixed_bound, mixed_reached}

-- The rank of a layered model, over any field, is the largest order of a square part whose determinant is not zero.
pub rank_is_largest_order : (M : Model) → Largest (LayeredOrder M) (rank M)
rank_is_largest_order M = record { reached = layered_reached M; bound = layered_bound M }

-- So is the rank of document 01's model, modulo p.
pub rank_is_largest_order_modulo : (p n a b : ℕ) (cs ws : List ℕ) → Largest (LayeredOrder (listed_model p n a b cs ws)) (rank (listed_model p n a b cs ws))
rank_is_largest_order_modulo p n a b cs ws = rank_is_largest_order (listed_model p n a b cs ws)

-- And the rank of a mixed model, where a place with both holds the sum of its constant and its letter; and of document 01's, modulo p.
pub mixed_rank_is_largest_order : (X : Mixed) → Largest (MixedOrder X) (mixed_rank X)
mixed_rank_is_largest_order X = record { reached = mixed_reached X; bound = mixed_bound X }

pub mixed_rank_is_largest_order_modulo : (p m n : ℕ) (cs ws : List ℕ) → Largest (MixedOrder (mixed p m n cs ws)) (mixed_rank (mixed p m n cs ws))
mixed_rank_is_largest_order_modulo p m n cs ws = mixed_rank_is_largest_order (mixed p m n cs ws)

-- At most one number is the largest, so that the rank is the only one of which this holds.
pub one_largest : {P : ℕ → Type 0} (j k : ℕ) → Largest P j → Largest P k → j ≡ k
one_largest j k g h = omega (arith, g.bound k h.reached, h.bound j g.reached)

-- The determinant with no rows and no columns is 1, so order 0 counts as not zero.
pub order_zero_counts : (K : Field) (Q : ℕ → ℕ → K.F) (T : ℕ → ℕ → Bool) (m n : ℕ) (E : Set) → (coefficient_at K Q T [] [] [] ≡ K.𝟙) × NonzeroOrder K Q T m n E 0
order_zero_counts K Q T m n E = (empty_determinant K Q T, order_zero K Q T m n E)

-- The arrangements of rows are all lists of these rows in some order, each once.
pub arrangements_are_all : (I : List ℕ) → Ascending I
    → Each (Rearranged I) (arrangements I) × ((π : List ℕ) → Rearranged I π → Among π (arrangements I)) × Different (arrangements I)
arrangements_are_all I a = let d : Distinct I = ascending_distinct I a in (arranged I d, λ π. complete I π d, once I d)

-- A square part of a table with constants Q and letters T.
module _ (K : Field) (Q : ℕ → ℕ → K.F) (T : ℕ → ℕ → Bool) (m n : ℕ) (E : Set) (k : ℕ) (S : SquarePart m n E k) where
  open K use {𝟘, ◌·◌}

  -- Terms of its determinant with the same letters have the same list of letters, which `collect` compares.
  pub same_letters_same_list : (t u : Term K) → Among t (determinant K Q T S.rows S.columns) → Among u (determinant K Q T S.rows S.columns)
      → ((x : Letter) → Among x t.letters → Among x u.letters) → ((x : Letter) → Among x u.letters → Among x t.letters) → t.letters ≡ u.letters
  same_letters_same_list = same_lists K Q T S.rows S.columns S.rows_ascend S.columns_ascend

  -- The coefficient at letters of the part, no two in one row or column, is up to sign the determinant of the constants on the rows and columns that stay.
  pub coefficient_is_minor : (l : List Letter) → LettersOf T S.rows S.columns l
      → UpToSign K (coefficient_at K Q T l S.rows S.columns)
      (coefficient_at K Q (λ i x. false) [] (rest (rows_of l) S.rows) (rest (columns_of l) S.columns))
  coefficient_is_minor l h =
      let w = coefficient_minor K Q T S.rows S.columns S.rows_ascend S.columns_ascend l h in
      let ja : Ascending (rest (columns_of l) S.columns) = rest_ascending (columns_of l) S.columns S.columns_ascend in
      signed K _ _ (
        w.0,
        w.1,
        w.2 ∙ ap (λ z. w.0 · z) (sym (coefficient_constants K Q (λ i x. false) (rest (rows_of l) S.rows) (rest (columns_of l) S.columns)
            (rest_ascending (rows_of l) S.rows S.rows_ascend) (ascending_distinct _ ja))),
      )

  -- At any other letters it is zero.
  pub no_other_coefficients : (l : List Letter) → coefficient_at K Q T l S.rows S.columns ≢ 𝟘 → LettersOf T S.rows S.columns l
  no_other_coefficients = only_letters K Q T S.rows S.columns S.rows_ascend S.columns_ascend

  -- Where no letter stands in the part, its determinant is not zero exactly if its columns are independent on its rows: in the table whose row s is row
  -- number s of the part.
  pub nonzero_iff_independent : ((i x : ℕ) → i ∈ members S.rows → x ∈ members S.columns → T i x ≡ false)
      → NotZero K Q T S.rows S.columns ↔ Indep K k n (λ s. Q (get_or S.rows s 0)) (members S.columns)
  nonzero_iff_independent = constants_iff K Q m n E k S T
