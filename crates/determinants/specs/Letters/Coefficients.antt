-- The coefficient at some letters is the determinant of a table without letters: a column whose letter is taken becomes a unit column. Assumes nothing.
use Rattle.std.specs.Prelude.{ℕ, ◌≡◌, Bool, true, cond, ◌≢◌}
use Rattle.std.proofs.Math.Path.{refl, sym, ap, ap₂, fun_ext}
use Rattle.std.proofs.Common.{◌∙◌}
use mathlib.Core.List.{List, [], ◌∷◌, map, cons≢nil, head-eq_of_cons-eq}
use Rattle.std.proofs.Math.Logic.{ite, if_pos, if_neg, by_cases}
use Rattle.std.proofs.Math.Decide.{ℕ_discrete}
use Rattle.residue.specs.Fields.{Field, add_zero, mul_zero, ring, zero_add, zero_mul}
use Rattle.rank.specs.Layered.Model.{Seat, out, constant, row, Assignment}
use Rattle.determinants.specs.Determinant.{arrangements, Letter, Term, by_number, collect, product, determinant, coefficient_at, Ascending}
use Rattle.determinants.specs.Statements.{members, Distinct, none, more}
use Rattle.determinants.specs.Lists.Members.{member_head, member_tail}
use Rattle.determinants.specs.Expansion.Leibniz.{leibniz, met_entries, parity}
use Rattle.determinants.specs.Expansion.Rows.{expansion}
use Rattle.determinants.specs.Expansion.Totals.{total, total_flat}
use Rattle.determinants.specs.Letters.Collecting.{collect_append, collect_nothing, collect_one, collect_by_number, collect_total, collect_unit}
use Rattle.determinants.specs.Letters.Collecting.{collect_with, collect_without, contribution, with_letter}
use Rattle.determinants.specs.Letters.Taken.{first_column, letters_taken, letter_taken, taken_constant}

module _ (K : Field) (Q : ℕ → ℕ → K.F) (T : ℕ → ℕ → Bool) where
  open K use {F, 𝟘, 𝟙, ◌+◌, ◌·◌}

  -- the place at row i and column j, where column j has seat s
  abbrev pub value_at : Seat → ℕ → ℕ → F
  value_at out i j = Q i j
  value_at constant i j = Q i j
  value_at (row r) i j = ite (ℕ_discrete i r) (cond (T i j) 𝟙 𝟘) 𝟘

  -- the table without letters: where A takes the letter of row r, the column is a unit column
  unfoldable pub letterless : Assignment → ℕ → ℕ → F
  letterless A i j = value_at (A j) i j

  -- the coefficient at l of a product
  abbrev coef : List ℕ → List ℕ → List Letter → F
  coef π J l = collect K l (product K Q T π J)

  coef_cons : (i : ℕ) (π : List ℕ) (j : ℕ) (J : List ℕ) (l : List Letter)
      → coef (i ∷ π) (j ∷ J) l ≡ Q i j · coef π J l + collect K l (with_letter K (T i j) (i, j) (product K Q T π J))
  unfolding product
  coef_cons i π j J l = collect_append K l _ _ ∙ ap (λ z. z + collect K l (with_letter K (T i j) (i, j) (product K Q T π J)))
      (collect_by_number K l (Q i j) (product K Q T π J))

  -- no term has a letter of a column that is not there
  foreign : (π J : List ℕ) (r j : ℕ) (l : List Letter) → members J j ≢ true → coef π J ((r, j) ∷ l) ≡ 𝟘
  foreign [] [] r j l nm = unfold product in collect_unit K _ cons≢nil
  foreign [] (k ∷ J) r j l nm = unfold product in collect_nothing K _
  foreign (i ∷ π) [] r j l nm = unfold product in collect_nothing K _
  foreign (i ∷ π) (k ∷ J) r j l nm = coef_cons i π k J ((r, j) ∷ l)
      ∙ ap₂ (λ u v. Q i k · u + v) (foreign π J r j l (λ m. nm (member_tail k J j m)))
      (collect_without K (T i k) (i, k) ((r, j) ∷ l) (product K Q T π J)
      (λ m e. nm (ap (members (k ∷ J)) (ap (λ p. p.1) (head-eq_of_cons-eq e)) ∙ member_head k J))) ∙ simp ring

  -- the letters that A takes
  coef_taken : (A : Assignment) (π J : List ℕ) → Distinct J → coef π J (letters_taken A J) ≡ met_entries K (letterless A) π J
  unfolding letters_taken letterless met_entries
  coef_taken A [] [] none = unfold product in collect_one K
  coef_taken A [] (j ∷ J) d = unfold product in collect_nothing K _
  coef_taken A (i ∷ π) [] d = unfold product in collect_nothing K _
  coef_taken A (i ∷ π) (j ∷ J) (more nm d) = coef_cons i π j J (letter_taken (A j) j (letters_taken A J)) ∙ go (A j) (coef_taken A π J d)
    where
      ts : List (Term K)
      ts = product K Q T π J

      plain : coef π J (letters_taken A J) ≡ met_entries K (letterless A) π J
          → Q i j · coef π J (letters_taken A J) + collect K (letters_taken A J) (with_letter K (T i j) (i, j) ts) ≡ Q i j · met_entries K (letterless A) π J
      plain ih = ap₂ (λ u v. Q i j · u + v) ih (collect_without K (T i j) (i, j) (letters_taken A J) ts (λ m e. nm (first_column A J i j m e))) ∙ add_zero K _

      go : (s : Seat) → coef π J (letters_taken A J) ≡ met_entries K (letterless A) π J
          → Q i j · coef π J (letter_taken s j (letters_taken A J)) + collect K (letter_taken s j (letters_taken A J)) (with_letter K (T i j) (i, j) ts)
          ≡ value_at s i j · met_entries K (letterless A) π J
      go out ih = plain ih
      go constant ih = plain ih
      go (row r) ih = ap (λ z. Q i j · z + collect K ((r, j) ∷ letters_taken A J) (with_letter K (T i j) (i, j) ts)) (foreign π J r j (letters_taken A J) nm)
          ∙ ap (λ z. z + collect K ((r, j) ∷ letters_taken A J) (with_letter K (T i j) (i, j) ts)) (mul_zero K _) ∙ zero_add K _ ∙ by_cases (ℕ_discrete i r)
          (λ e. ap (λ q. collect K ((q, j) ∷ letters_taken A J) (with_letter K (T i j) (i, j) ts)) (sym e) ∙ collect_with K (T i j) (i, j) (letters_taken A J) ts
          ∙ ap₂ ◌·◌ (sym (if_pos (ℕ_discrete i r) e _ _)) ih)
          (λ ne. collect_without K (T i j) (i, j) ((r, j) ∷ letters_taken A J) ts (λ m e. ne (sym (ap (λ p. p.0) (head-eq_of_cons-eq e))))
          ∙ sym (zero_mul K _) ∙ ap (λ z. z · met_entries K (letterless A) π J) (sym (if_neg (ℕ_discrete i r) ne _ _)))

  collect_determinant : (I J : List ℕ) (l : List Letter) → collect K l (determinant K Q T I J) ≡ total K (λ π. parity K π · coef π J l) (arrangements I)
  unfolding determinant
  collect_determinant I J l = collect_total K l _ ∙ total_flat K (contribution K l) _ (arrangements I)
      ∙ ap (λ g. total K g (arrangements I)) (fun_ext (λ π. sym (collect_total K l (map (by_number K (parity K π)) (product K Q T π J)))
      ∙ collect_by_number K l (parity K π) (product K Q T π J)))

  -- the coefficient at the letters that A takes is a determinant without letters
  pub coefficient_value : (A : Assignment) (I J : List ℕ) → Ascending I → Distinct J → collect K (letters_taken A J) (determinant K Q T I J) ≡ expansion K (letterless A) I J
  coefficient_value A I J a d = collect_determinant I J (letters_taken A J)
      ∙ ap (λ g. total K g (arrangements I)) (fun_ext (λ π. ap (λ z. parity K π · z) (coef_taken A π J d)))
      ∙ leibniz K (letterless A) I a J

  -- at no letters it is that of the constants
  pub coefficient_constants : (I J : List ℕ) → Ascending I → Distinct J → coefficient_at K Q T [] I J ≡ expansion K Q I J
  unfolding letterless
  coefficient_constants I J a d = ap (λ l. coefficient_at K Q T l I J) (sym (taken_constant J)) ∙ coefficient_value (λ _. constant) I J a d

-- the table without letters, at a column that has its seat on a row
module _ (K : Field) (Q : ℕ → ℕ → K.F) (T : ℕ → ℕ → Bool) (A : Assignment) where
  open K use {𝟘, 𝟙}

  letterless_row : (x r i : ℕ) → A x ≡ row r → letterless K Q T A i x ≡ ite (ℕ_discrete i r) (cond (T i x) 𝟙 𝟘) 𝟘
  unfolding letterless
  letterless_row x r i e = ap (λ s. value_at K Q T s i x) e

  pub letterless_other : (x r i : ℕ) → A x ≡ row r → i ≢ r → letterless K Q T A i x ≡ 𝟘
  letterless_other x r i e ne = letterless_row x r i e ∙ if_neg (ℕ_discrete i r) ne _ _

  letterless_here : (x r : ℕ) → A x ≡ row r → letterless K Q T A r x ≡ cond (T r x) 𝟙 𝟘
  letterless_here x r e = letterless_row x r r e ∙ if_pos (ℕ_discrete r r) refl _ _

  pub letterless_one : (x r : ℕ) → A x ≡ row r → T r x ≡ true → letterless K Q T A r x ≡ 𝟙
  letterless_one x r e t = letterless_here x r e ∙ ap (λ b. cond b 𝟙 𝟘) t

  -- at any other column it has the constants
  pub letterless_plain : (x i : ℕ) → ((r : ℕ) → A x ≢ row r) → letterless K Q T A i x ≡ Q i x
  unfolding letterless
  letterless_plain x i nr = go (A x) nr
    where
      go : (s : Seat) → ((r : ℕ) → s ≢ row r) → value_at K Q T s i x ≡ Q i x
      go out ne = refl
      go constant ne = refl
      go (row r) ne = absurd (ne r refl)
