-- The rows of a layered form: units and constants side by side, rows of zeros; and the rows that an assignment of the form shows. Assumes nothing.
use Rattle.std.specs.Prelude.{ℕ, ◌+◌, ◌<◌, ◌≡◌, refl, true, not, false, ◌≢◌, ◌↔◌}
use Rattle.std.proofs.Math.Path.{sym, fun_ext}
use Rattle.std.proofs.Common.{◌∙◌, ap}
use Rattle.std.proofs.Math.Bool.{decide, decide_iff}
use Rattle.std.proofs.Math.Decide.{ℕ_discrete, dec_lt}
use Rattle.residue.specs.Fields.{Field, zero_mul, one_mul}
use Rattle.counting.specs.Bools.{not_true, and_in, and_left, and_right, not_in, in_not}
use Rattle.counting.specs.Sets.{Some, Set, ◌∈◌}
use Rattle.counting.specs.Counts.{any_iff}
use Rattle.counting.specs.Blocks.{beside_low, beside_high}
use Rattle.rank.specs.Linear.Independence.{dot}
use Rattle.rank.specs.Linear.Sums.{dot_zero, dot_one, dot_beside}
use Rattle.rank.specs.Layered.Model.{Assignment, row, same_row}
use Rattle.rank.proofs.Layered.Meaning.{same_row_iff}
use Rattle.mixed_models.specs.Mixed.{Mixed, served, shown_I, rows_in, unit, form_constants}

module _ (K : Field) where
  open K use {F, 𝟘, 𝟙}

  unit_same : (i : ℕ) → unit K i i ≡ 𝟙
  unfolding unit
  unit_same i = rw ((decide_iff (ℕ_discrete i i)).1 refl)

  unit_other : (i j : ℕ) → i ≢ j → unit K i j ≡ 𝟘
  unfolding unit
  unit_other i j ne = rw (not_true (decide (ℕ_discrete i j)) (λ e. ne ((decide_iff (ℕ_discrete i j)).0 e)))

  pub rows_yes : (I : Set) (Q : ℕ → ℕ → F) (i : ℕ) → i ∈ I → rows_in K I Q i ≡ Q i
  unfolding rows_in
  rows_yes I Q i e = fun_ext (λ x. rw e)

  pub rows_no : (I : Set) (Q : ℕ → ℕ → F) (i x : ℕ) → I i ≡ false → rows_in K I Q i x ≡ 𝟘
  unfolding rows_in
  rows_no I Q i x e = rw e

  pub rows_no_dot : (n : ℕ) (I : Set) (Q : ℕ → ℕ → F) (i : ℕ) (c : ℕ → F) → I i ≡ false → dot K n (rows_in K I Q i) c ≡ 𝟘
  rows_no_dot n I Q i c e = dot_zero K n (rows_in K I Q i) c (λ x l. rw (rows_no I Q i x e) (zero_mul K (c x)))

module _ (X : Mixed) where
  open X use {K, m, n, Q}
  open K use {F}

  -- row i of the form times c
  pub form_dot : (i : ℕ) (c : ℕ → F) → i < m → dot K (m + n) (form_constants X i) c ≡ K.◌+◌ (c i) (dot K n (Q i) (λ x. c (m + x)))
  form_dot i c l = dot_beside K m n (form_constants X i) c ∙ ap (λ (v : F). K.◌+◌ v (dot K n (λ x. form_constants X i (m + x)) (λ x. c (m + x)))) low
      ∙ ap (λ (r : ℕ → F). K.◌+◌ (c i) (dot K n r (λ x. c (m + x)))) high
    where
      low : dot K m (form_constants X i) c ≡ c i
      low = dot_one K m (form_constants X i) c i l (λ k lk ne. rw (beside_low m (unit K i) (Q i) k lk, unit_other K i k (λ e. ne (sym e))) (zero_mul K (c k)))
          ∙ rw (beside_low m (unit K i) (Q i) i l, unit_same) (one_mul K (c i))

      high : (λ (x : ℕ). form_constants X i (m + x)) ≡ Q i
      high = fun_ext (λ x. beside_high m (unit K i) (Q i) x)

  -- row i of the form serves an original column
  pub served_iff : (A : Assignment) (i : ℕ) → (i ∈ served X A) ↔ Some n (λ x. A (m + x) ≡ row i)
  unfolding served
  served_iff A i = (
    λ e. let w : Some n (λ x. same_row (A (m + x)) (row i) ≡ true) = (any_iff n (λ x. same_row (A (m + x)) (row i))).0 e in
        let v : (r : ℕ) × (A (m + w.0) ≡ row r) × (row i ≡ row r) = (same_row_iff (A (m + w.0)) (row i)).0 w.2 in
        (w.0, w.1, v.1 ∙ sym v.2),
    λ w. (any_iff n (λ x. same_row (A (m + x)) (row i))).1 (w.0, w.1, (same_row_iff (A (m + w.0)) (row i)).1 (i, w.2, refl)),
  )

  -- the rows shown are those that serve none
  pub shown_I_iff : (A : Assignment) (i : ℕ) → (i ∈ shown_I X A) ↔ ((i < m) × (served X A i ≡ false))
  unfolding shown_I
  shown_I_iff A i = (
    λ e. ((decide_iff (dec_lt i m)).0 (and_left (decide (dec_lt i m)) (not (served X A i)) e), not_in (served X A i) (and_right (decide (dec_lt i m)) (not (served X A i)) e)),
    λ w. and_in ((decide_iff (dec_lt i m)).1 w.0) (in_not (served X A i) w.1),
  )
