-- Loops that fill an array, or seek a largest number: among the first columns, or in a set whose columns are taken one by one. Tests of all numbers below one,
-- and the powers of a row of parameters. Assumes nothing.
use Prim.Native.Nat.{ℕ, ◌+◌, ◌<◌, ◌≤◌}
use mathlib.Core.Path.{◌≡◌, refl, sym, ◌∙◌}
use mathlib.Core.Logic.{◌≢◌}
use mathlib.Core.Bool.{Bool, true, false, not, ◌||◌, true≢false}
use mathlib.Core.List.{List}
use lib.Dec.{leb}
use native.Mathlib.Omega.{arith}
use native.Mathlib.Decide.{ℕ_discrete, dec_lt}
use lib.ListN.{length, get_or, take, drop}
use lib.ListN as ListN
use lib.Seq.{get_or-set_same, get_or-set_other}
use borrow.Author.Tests.{le-leb, leb-true}
use Rattle.counting.specs.Bools.{not_true, implied, implies}
use Rattle.counting.specs.Sets.{Set, all, ◌∈◌, ◌⊆◌}
use Rattle.counting.specs.Counts.{all_iff}
use Rattle.columns.specs.Columns.{width, members, removed, within}
use Rattle.columns.specs.Words.Operations.{within_iff}
use Rattle.columns.specs.Words.SetLaws.{removed_old, removed_gone, removed_other}
use Rattle.degree.specs.Answers.{most_power}
use Rattle.degree.specs.Code.{Top, ParameterRow}

-- ---- an array is filled

-- one more element is written, and what held of those before it holds of it
pub filled_more : (P : ℕ → ℕ → Type 0) (out : List ℕ) (k v : ℕ) → k < length out → ((i : ℕ) → i < k → P i (get_or out i 0)) → P k v
    → (i : ℕ) → i < k + 1 → P i (get_or (ListN.set out k v) i 0)
filled_more P out k v l h p i m = elim (ℕ_discrete i k) [
  | yes e ↦ rw (e, get_or-set_same out k v 0 l) p
  | no ne ↦ rw (get_or-set_other out k i v 0 ne) (h i (omega arith))
]

-- ---- a test of all numbers below n

pub all_fails : (n : ℕ) (P : ℕ → Bool) (i : ℕ) → i < n → P i ≡ false → all n P ≡ false
all_fails n P i l e = not_true (all n P) (λ a. true≢false (sym ((all_iff n P).0 a i l) ∙ e))

-- ---- the largest of the first columns

-- one column more: the largest of what it was and what that column has
pub top_next : {S : ℕ → Type 0} {f : ℕ → ℕ} {t k : ℕ} (t' : ℕ) → t ≤ t' → (S k → f k ≤ t') → (t < t' → S k × (f k ≡ t')) → Top k S f t → Top (k + 1) S f t'
top_next {S} {f} {t} {k} t' l here more h = record {
  bounds = λ x m e. elim (ℕ_discrete x k) [ yes d ↦ rw d (here (rw d at e)) | no nd ↦ omega (arith, h.bounds x (omega arith) e) ];
  reached = λ z. elim (dec_lt t t') [
    | yes g ↦ (k, omega arith, more g)
    | no ng ↦ let w = h.reached (omega arith) in let same : t ≡ t' = omega arith in (w.0, omega (arith, w.1), (w.2.0, w.2.1 ∙ same))
  ];
}

-- of the same columns, said in another way
pub top_as : {n : ℕ} {S T : ℕ → Type 0} {f : ℕ → ℕ} {t : ℕ} → ((x : ℕ) → S x → T x) → ((x : ℕ) → T x → S x) → Top n S f t → Top n T f t
top_as to from h = record {
  bounds = λ x m e. h.bounds x m (from x e);
  reached = λ z. let w = h.reached z in (w.0, w.1, (to w.0 w.2.0, w.2.1));
}

-- ---- the largest of a set

-- t is the largest of the columns of a set that are not left
pub record Seeking (n : ℕ) (set rest : Set) (f : ℕ → ℕ) (t : ℕ) : Type 0 where
  pub inside : rest ⊆ set
  pub top : Top n (λ x. (x ∈ set) × (rest x ≡ false)) f t

-- a column that is not left after x is taken out was not left, or is x
gone : (rest : Set) (x y : ℕ) → y ≢ x → removed rest x y ≡ false → rest y ≡ false
gone rest x y ne e = not_true (rest y) (λ k. true≢false (sym (removed_other rest x y k ne) ∙ e))

-- and one that was not left is not left
still : (rest : Set) (x y : ℕ) → rest y ≡ false → removed rest x y ≡ false
still rest x y e = not_true (removed rest x y) (λ k. true≢false (sym (removed_old rest x y k) ∙ e))

-- one column is taken out: the largest of what it was and what that column has
pub seeking_next : {n : ℕ} {set rest : Set} {f : ℕ → ℕ} {t : ℕ} (x t' : ℕ) → x < n → x ∈ rest → t ≤ t' → f x ≤ t' → (t < t' → f x ≡ t')
    → Seeking n set rest f t → Seeking n set (removed rest x) f t'
seeking_next {n} {set} {rest} {f} {t} x t' l ex m here more h = record {
  inside = λ y e. h.inside y (removed_old rest x y e);
  top = record {
    bounds = λ y k e. elim (ℕ_discrete y x) [ yes d ↦ rw d here | no nd ↦ omega (arith, h.top.bounds y k (e.0, gone rest x y nd e.1)) ];
    reached = λ z. elim (dec_lt t t') [
      | yes g ↦ (x, l, ((h.inside x ex, not_true (removed rest x x) (λ k. removed_gone rest x x k refl)), more g))
      | no ng ↦ let w = h.top.reached (omega arith) in let same : t ≡ t' = omega arith in (w.0, w.1, ((w.2.0.0, still rest x w.0 w.2.0.1), w.2.1 ∙ same))
    ];
  };
}

-- where none is left, it is the largest of all
pub seeking_done : {n : ℕ} {set rest : Set} {f : ℕ → ℕ} {t : ℕ} → ((x : ℕ) → x ∈ rest → ⊥) → Seeking n set rest f t → Top n (λ x. x ∈ set) f t
seeking_done {n} {set} {rest} none h = top_as (λ x e. e.0) (λ x e. (e, not_true (rest x) (none x))) h.top

-- ---- a row of parameters

-- a part of a row is within n too
pub within_part : (n v w : ℕ) → members v ⊆ members w → within n w ≡ true → within n v ≡ true
within_part n v w s h = (within_iff n v).1 (λ x l e. (within_iff n w).0 h x l (s x e))

-- what the areas have of a column of the row
pub record RowColumn (n from x : ℕ) (pp heights : List ℕ) : Type 0 where
  pub below : x < n
  pub power_lent : from + x < length pp
  pub height_lent : x < length heights
  pub height_low : get_or heights x 0 ≤ 60000

pub row_column : {n w from : ℕ} {pp heights : List ℕ} (x : ℕ) → ParameterRow n w from pp heights → x < width → x ∈ members w → RowColumn n from x pp heights
row_column {n} {w} {from} {pp} {heights} x r lx e =
    let l : x < n = (within_iff n w).0 r.row_within x lx e in
    record { below = l; power_lent = omega (arith, r.powers_lent); height_lent = omega (arith, r.heights_lent); height_low = r.heights_low x l }

module _ {n : ℕ} {row : Set} {f : ℕ → ℕ} {t : ℕ} (powers : ℕ → ℕ) (same : (x : ℕ) → x < n → f x ≡ powers x) (h : Top n (λ x. x ∈ row) f t) where
  -- none of its powers is above the limit, where their top is not
  pub row_low : t ≤ most_power → all n (λ x. not (row x) || leb (powers x) most_power) ≡ true
  row_low l = (all_iff n _).1 (λ x m. implies (row x) (leb (powers x) most_power) (λ e. le-leb (powers x) most_power (omega (arith, h.bounds x m e, same x m))))

  -- and one is, where it is
  pub row_high : most_power < t → all n (λ x. not (row x) || leb (powers x) most_power) ≡ false
  row_high l =
      let w = h.reached (omega arith) in
      all_fails n _ w.0 w.1 (not_true _ (λ e. absurd (omega (arith, leb-true (powers w.0) most_power (implied (row w.0) _ e w.2.0), same w.0 w.1, w.2.1))))
