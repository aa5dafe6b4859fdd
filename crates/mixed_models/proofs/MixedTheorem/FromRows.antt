-- From rows I and a legal assignment of the model divided at I to a legal assignment of the layered form with m columns more: the units of I sit on
-- their own parameter rows, the other units on the constant side. Assumes nothing.
use Rattle.std.specs.Prelude.{ℕ, ◌+◌, ◌≤◌, ◌<◌, ◌≡◌, Bool, true, false, not, ◌&&◌, ◌≢◌}
use Rattle.std.proofs.Math.Path.{refl}
use Rattle.std.proofs.Common.{sym, ◌∙◌, ap, true≢false, arith}
use Rattle.std.proofs.Math.Bool.{decide, decide_iff}
use Rattle.std.proofs.lemmas.Bool.{false≢true}
use Rattle.std.proofs.Math.Decide.{ℕ_discrete}
use Rattle.residue.specs.Fields.{mul_zero, zero_add}
use Rattle.counting.specs.Bools.{true?, not_true, and_left, and_right, not_both}
use Rattle.counting.specs.Sets.{Set, ◌∈◌, #}
use Rattle.counting.specs.Counts.{#-ext, #-all}
use Rattle.counting.specs.Beside.{beside}
use Rattle.counting.specs.Blocks.{#-plus, beside_low, beside_high, low_or_high}
use Rattle.counting.specs.Choices.{Part, largest_part}
use Rattle.counting.specs.ChoiceLaws.{part_at}
use Rattle.rank.specs.Linear.Independence.{dot, InKernel, Indep}
use Rattle.rank.specs.Linear.Sums.{dot_zero}
use Rattle.rank.specs.Layered.Model.{Seat, constant, row, Assignment, is_placed, is_constant, placing, constants, Legal, size}
use Rattle.rank.specs.Layered.Rank.{rank}
use Rattle.rank.proofs.Layered.Duality.{size_le_rank, rank_reached}
use Rattle.mixed_models.specs.Mixed.{Mixed, rows_in, divided, mixed_sum, mixed_rank, form_constants, layered_form}
use Rattle.mixed_models.proofs.MixedTheorem.Form.{rows_yes, rows_no_dot, form_dot}

module _ (X : Mixed) where
  open X use {K, m, n, Q, T}
  open K use {F, 𝟘}

  module _ (I : Set) (A : Assignment) (h : Legal (divided X I) A) where
    unit_seat : Bool → ℕ → Seat
    unit_seat true j = row j
    unit_seat false j = constant

    raised : Assignment
    raised = beside m (λ j. unit_seat (I j) j) A

    raised_in : (j : ℕ) → j < m → j ∈ I → raised j ≡ row j
    unfolding raised unit_seat
    raised_in j l e = beside_low m (λ j. unit_seat (I j) j) A j l ∙ rw e

    raised_out : (j : ℕ) → j < m → I j ≡ false → raised j ≡ constant
    unfolding raised unit_seat
    raised_out j l e = beside_low m (λ j. unit_seat (I j) j) A j l ∙ rw e

    raised_high : (x : ℕ) → raised (m + x) ≡ A x
    unfolding raised
    raised_high x = beside_high m (λ j. unit_seat (I j) j) A x

    raised_placed : (j : ℕ) → j < m → j ∈ placing raised
    raised_placed j l = elim (true? (I j)) [ yes e ↦ ap is_placed (raised_in j l e) | no ne ↦ ap is_placed (raised_out j l (not_true (I j) ne)) ]

    -- a unit on a row is in I and on its own row
    raised_row : (j r : ℕ) → j < m → raised j ≡ row r → (j ∈ I) × (j ≡ r)
    raised_row j r l e = elim (true? (I j)) [
      | yes i ↦ (i, let k : row j ≡ row r = sym (raised_in j l i) ∙ e in cc)
      | no ni ↦ absurd (true≢false (ap is_constant (sym (raised_out j l (not_true (I j) ni)) ∙ e)))
    ]

    module _ (c : ℕ → F) (s : (j : ℕ) → constants raised j ≢ true → c j ≡ 𝟘) (z : InKernel K m (m + n) (form_constants X) c) where
      -- the coefficients of the original columns
      abbrev up : ℕ → F
      up x = c (m + x)

      row_zero : (i : ℕ) → i < m → K.◌+◌ (c i) (dot K n (Q i) up) ≡ 𝟘
      row_zero i l = sym (form_dot X i c l) ∙ z i l

      up_killed : InKernel K m n (rows_in K I Q) up
      up_killed i l = elim (true? (I i)) [
        | yes e ↦ ap (λ (r : ℕ → F). dot K n r up) (rows_yes K I Q i e) ∙ sym (zero_add K (dot K n (Q i) up)) ∙ ap (λ (v : F). K.◌+◌ v (dot K n (Q i) up)) (sym (s i (λ t. false≢true (sym (ap is_constant (raised_in i l e)) ∙ t)))) ∙ row_zero i l
        | no ne ↦ rows_no_dot K n I Q i up (not_true (I i) ne)
      ]

      high : (x : ℕ) → x < n → c (m + x) ≡ 𝟘
      high x l = h.independent.only_zero up (λ y ny. s (m + y) (λ t. ny (sym (ap is_constant (raised_high y)) ∙ t))) up_killed x l

      low : (j : ℕ) → j < m → c j ≡ 𝟘
      low j l = sym (K.add_zero (c j)) ∙ ap (λ (v : F). K.◌+◌ (c j) v) (sym (dot_zero K n (Q j) up (λ x lx. rw (high x lx) (mul_zero K (Q j x))))) ∙ row_zero j l

    raised_independent : Indep K m (m + n) (form_constants X) (constants raised)
    raised_independent = record { only_zero = λ c s z j l. low_or_high m j (λ lj. low c s z j lj) (λ x e. rw e (high c s z x (omega arith))) }

    raised_legal : Legal (layered_form X) raised
    raised_legal = record {
      offered = λ j p. (low_or_high m j (λ l. omega arith) (λ x e. omega (arith, (h.offered x (sym (ap is_placed (ap raised e ∙ raised_high x)) ∙ p)).0)), refl);
      independent = raised_independent;
      parameter = λ j r e. low_or_high m j
          (λ l. let w : (j ∈ I) × (j ≡ r) = raised_row j r l e in
          (omega arith, beside_low m (λ k. decide (ℕ_discrete r k)) (T r) j l ∙ (decide_iff (ℕ_discrete r j)).1 (sym w.1)))
          (λ x d. let w : (r < m) × ((not (I r) && T r x) ≡ true) = h.parameter x r (sym (ap raised d ∙ raised_high x) ∙ e) in
          (w.0, rw d (beside_high m (λ k. decide (ℕ_discrete r k)) (T r) x ∙ and_right (not (I r)) (T r x) w.1)));
      one_each = λ j k r e e'. low_or_high m j
          (λ l. low_or_high m k
          (λ l'. (raised_row j r l e).1 ∙ sym (raised_row k r l' e').1)
          (λ y d'. absurd (clash j y r l e (sym (ap raised d' ∙ raised_high y) ∙ e'))))
          (λ x d. low_or_high m k
          (λ l'. absurd (clash k x r l' e' (sym (ap raised d ∙ raised_high x) ∙ e)))
          (λ y d'. d ∙ ap (λ (z : ℕ). m + z) (h.one_each x y r (sym (ap raised d ∙ raised_high x) ∙ e) (sym (ap raised d' ∙ raised_high y) ∙ e')) ∙ sym d'));
    }
      where
        clash : (j x r : ℕ) → j < m → raised j ≡ row r → A x ≡ row r → ⊥
        clash j x r l e d =
            let w : (j ∈ I) × (j ≡ r) = raised_row j r l e in
            not_both (I r) (and_left (not (I r)) (T r x) (h.parameter x r d).1) (rw w.1 at w.0)

    raised_size : size (layered_form X) raised ≡ m + size (divided X I) A
    raised_size = #-plus m n (placing raised) ∙ ap (λ (v : ℕ). v + # n (λ x. placing raised (m + x))) (#-all m (placing raised) raised_placed) ∙ ap (λ (v : ℕ). m + v) (#-ext n (λ x. placing raised (m + x)) (placing A) (λ x l. ap is_placed (raised_high x)))

  divided_rank : (I : Set) → rank (divided X I) ≡ largest_part n (λ x. true) (λ J. mixed_sum X I J)
  unfolding rank mixed_sum
  divided_rank I = refl

  pub form_at_least : m + mixed_rank X ≤ rank (layered_form X)
  unfolding mixed_rank
  form_at_least =
      let w : (I : Set) × Part m (λ i. true) I × (largest_part n (λ x. true) (λ J. mixed_sum X I J) ≡ mixed_rank X)
      = part_at m (λ i. true) (λ I. largest_part n (λ x. true) (λ J. mixed_sum X I J)) in
      let r : (A : Assignment) × Legal (divided X w.0) A × (size (divided X w.0) A ≡ rank (divided X w.0)) = rank_reached (divided X w.0) in
      omega (arith, w.2, divided_rank w.0, r.2, raised_size w.0 r.0 r.1, size_le_rank (layered_form X) (raised w.0 r.0 r.1) (raised_legal w.0 r.0 r.1))
