-- From a legal assignment of the layered form to rows I and columns J: I are the rows that serve no original column, J the original columns on the constant
-- side. Their rank and matching make up for all of it but m columns. Assumes nothing.
use Prim.Native.Nat.{ℕ, ◌+◌, ◌≤◌, ◌<◌}
use Rattle.std.specs.Prelude.{◌≡◌, not, ◌&&◌, ◌≢◌}
use Rattle.std.proofs.Math.Path.{refl, ap, fun_ext}
use Rattle.std.proofs.Common.{sym, ◌∙◌}
use Rattle.std.proofs.Math.Bool.{true, false, decide, decide_iff, true≢false}
use Rattle.std.proofs.lemmas.Bool.{false≢true}
use native.Mathlib.Omega.{arith}
use Rattle.std.proofs.Math.Decide.{ℕ_discrete}
use Rattle.residue.specs.Fields.{neg_zero}
use Rattle.counting.specs.Bools.{true?, not_true, and_in, and_left, and_right, not_in, in_not, not_of}
use Rattle.counting.specs.Sets.{Some, Set, ◌∈◌, ◌∩◌, ∁, #, touching}
use Rattle.counting.specs.Counts.{#-split, #-∁, Touching, touching_iff}
use Rattle.counting.specs.Injections.{#-mono}
use Rattle.counting.specs.Beside.{beside}
use Rattle.counting.specs.Blocks.{#-plus, beside_low, beside_high, low_or_high}
use Rattle.counting.specs.Choices.{Part, largest_part}
use Rattle.counting.specs.ChoiceLaws.{part_le}
use Rattle.rank.specs.Linear.Independence.{dot, InKernel}
use Rattle.rank.specs.Linear.Kernels.{Same, hits, hits_iff, indep_sub, indep_count}
use Rattle.rank.specs.Layered.Model.{Seat, out, constant, row, Assignment, is_placed, is_constant, placing, constants, Legal, size}
use Rattle.rank.specs.Layered.Rank.{constant_rank}
use Rattle.rank.proofs.Layered.Meaning.{seat_cases, empty_indep, Outside, matching_le}
use Rattle.rank.proofs.Layered.Restricting.{constant_placed}
use Rattle.rank.proofs.Layered.RankRows.{rank_tableau}
use Rattle.mixed_models.specs.Mixed.{Mixed, rows_in, divided, mixed_sum, mixed_rank, form_constants, form_parameters, layered_form, served, shown_I, shown_J}
use Rattle.mixed_models.proofs.MixedTheorem.Form.{served_iff, shown_I_iff, rows_yes, rows_no, form_dot}

module _ (X : Mixed) where
  open X use {K, m, n, Q, T}
  open K use {F, 𝟘, neg}

  module _ (A : Assignment) (h : Legal (layered_form X) A) where
    -- the seats of the original columns
    abbrev original : Assignment
    original x = A (m + x)

    -- the rows that serve one of them
    abbrev serves : Set
    serves = served X A

    -- the rows that serve none
    abbrev I : Set
    I = shown_I X A

    I_part : Part m (λ i. true) I
    I_part i e = (((shown_I_iff X A i).0 e).0, refl)

    I_in : (i : ℕ) → i < m → serves i ≡ false → i ∈ I
    I_in i l e = (shown_I_iff X A i).1 (l, e)

    I_not : (i : ℕ) → i ∈ serves → I i ≡ false
    I_not i e = not_true (I i) (λ t. true≢false (sym e ∙ ((shown_I_iff X A i).0 t).1))

    -- the original columns on the constant side
    abbrev J : Set
    J = shown_J X A

    original_below : (x : ℕ) → is_placed (original x) ≡ true → x < n
    original_below x p = omega (arith, (h.offered (m + x) p).0)

    J_part : Part n (λ x. true) J
    J_part x e = (original_below x (constant_placed (original x) e), refl)

    -- the original columns on rows are a matching on the rest
    on_row : Seat → Seat
    on_row out = out
    on_row constant = out
    on_row (row r) = row r

    on_row_is : (s : Seat) (r : ℕ) → on_row s ≡ row r → s ≡ row r
    unfolding on_row
    on_row_is out r e = e
    on_row_is constant r e = absurd (false≢true (ap is_placed e))
    on_row_is (row q) r e = e

    on_row_placed : (s : Seat) → is_placed (on_row s) ≡ true → (is_placed s ≡ true) × (is_constant s ≡ false) × (is_constant (on_row s) ≡ false)
    unfolding on_row
    on_row_placed out e = absurd (false≢true e)
    on_row_placed constant e = absurd (false≢true e)
    on_row_placed (row r) e = (refl, refl, refl)

    on_row_in : (s : Seat) → is_constant s ≡ false → is_placed s ≡ true → is_placed (on_row s) ≡ true
    unfolding on_row
    on_row_in out e p = p
    on_row_in constant e p = absurd (true≢false e)
    on_row_in (row r) e p = refl

    on_rows : Assignment
    on_rows x = on_row (original x)

    on_rows_legal : Legal (divided X I) on_rows
    unfolding on_rows
    on_rows_legal = record {
      offered = λ x p. (original_below x (on_row_placed (original x) p).0, refl);
      independent = indep_sub {T = λ x. false} (λ x e. absurd (true≢false (sym e ∙ (on_row_placed (original x) (constant_placed (on_row (original x)) e)).2))) (empty_indep (divided X I));
      parameter = λ x r e.
          let d : original x ≡ row r = on_row_is (original x) r e in
          let w : (r < m) × (form_parameters X r (m + x) ≡ true) = h.parameter (m + x) r d in
          (w.0, and_in (in_not (I r) (I_not r ((served_iff X A r).1 (x, original_below x (ap is_placed d), d)))) (sym (beside_high m (λ k. decide (ℕ_discrete r k)) (T r) x) ∙ w.1));
      one_each = λ x y r e e'. omega (arith, h.one_each (m + x) (m + y) r (on_row_is (original x) r e) (on_row_is (original y) r e'));
    }

    on_rows_outside : Outside (divided X I) J on_rows
    unfolding on_rows
    on_rows_outside x p = ((on_row_placed (original x) p).1, (on_row_placed (original x) p).2)

    -- the rows that serve an original column and whose unit is not on the constant side
    displaced : Set
    displaced i = serves i && not (is_constant (A i))

    -- the units placed and these rows are apart
    units_count : # m (placing A) + # m displaced ≤ m
    unfolding displaced
    units_count = omega (
      arith,
      #-∁ m displaced,
      #-mono m (placing A) (∁ displaced) (λ k l p. in_not (displaced k) (not_true (displaced k) (λ d.
          let s : k ∈ serves = and_left (serves k) (not (is_constant (A k))) d in
          let nc : is_constant (A k) ≡ false = not_in (is_constant (A k)) (and_right (serves k) (not (is_constant (A k))) d) in
          let w : Some n (λ x. original x ≡ row k) = (served_iff X A k).0 s in
          seat_cases (A k) (λ e. true≢false (sym p ∙ ap is_placed e)) (λ e. true≢false (sym (ap is_constant e) ∙ nc))
          (λ r e.
          let t : form_parameters X r k ≡ true = (h.parameter k r e).1 in
          let j : r ≡ k = (decide_iff (ℕ_discrete r k)).0 (sym (beside_low m (λ i. decide (ℕ_discrete r i)) (T r) k l) ∙ t) in
          omega (arith, h.one_each k (m + w.0) k (e ∙ ap row j) w.2))))),
    )

    -- the rank on rows I is smaller than the number of columns in J by at most the number of rows in D
    module _ (P : ℕ → ℕ → F) (same : Same K m n (rows_in K I Q) P) where
      -- the rows of P, then the rows of Q in D
      stacked : ℕ → ℕ → F
      stacked = beside m P (rows_in K displaced Q)

      stacked_low : (i : ℕ) → i < m → stacked i ≡ P i
      unfolding stacked
      stacked_low i l = beside_low m P (rows_in K displaced Q) i l

      stacked_high : (i : ℕ) → stacked (m + i) ≡ rows_in K displaced Q i
      unfolding stacked
      stacked_high i = beside_high m P (rows_in K displaced Q) i

      module _ (c : ℕ → F) (s : (x : ℕ) → J x ≢ true → c x ≡ 𝟘) (z : InKernel K (m + m) n stacked c) where
        -- c as coefficients of the form: what row i leaves of it goes on unit i
        lifted : ℕ → F
        lifted = beside m (λ i. neg (dot K n (Q i) c)) c

        lifted_low : (i : ℕ) → i < m → lifted i ≡ neg (dot K n (Q i) c)
        unfolding lifted
        lifted_low i l = beside_low m (λ i. neg (dot K n (Q i) c)) c i l

        lifted_high : (x : ℕ) → lifted (m + x) ≡ c x
        unfolding lifted
        lifted_high x = beside_high m (λ i. neg (dot K n (Q i) c)) c x

        -- a row in I or in D leaves nothing
        zero_in_I : (i : ℕ) → i < m → i ∈ I → dot K n (Q i) c ≡ 𝟘
        zero_in_I i l e = sym (ap (λ (r : ℕ → F). dot K n r c) (rows_yes K I Q i e))
            ∙ (same.kernel c).1 (λ k lk. sym (ap (λ (r : ℕ → F). dot K n r c) (stacked_low k lk)) ∙ z k (omega arith)) i l

        zero_displaced : (i : ℕ) → i < m → i ∈ displaced → dot K n (Q i) c ≡ 𝟘
        zero_displaced i l e = sym (ap (λ (r : ℕ → F). dot K n r c) (stacked_high i ∙ rows_yes K displaced Q i e)) ∙ z (m + i) (omega arith)

        lifted_in : (j : ℕ) → constants A j ≢ true → lifted j ≡ 𝟘
        unfolding displaced
        lifted_in j nc = low_or_high m j
            (λ l. lifted_low j l ∙ ap neg (elim (true? (serves j)) [
              | yes v ↦ zero_displaced j l (and_in v (not_of (is_constant (A j)) nc))
              | no nv ↦ zero_in_I j l (I_in j l (not_true (serves j) nv))
            ]) ∙ neg_zero K)
            (λ x e. ap lifted e ∙ lifted_high x ∙ s x (λ t. nc (ap (λ (k : ℕ). is_constant (A k)) e ∙ t)))

        lifted_killed : InKernel K m (m + n) (form_constants X) lifted
        lifted_killed i l = form_dot X i lifted l
            ∙ ap (λ (v : F). K.◌+◌ v (dot K n (Q i) (λ x. lifted (m + x)))) (lifted_low i l)
            ∙ ap (λ (f : ℕ → F). K.◌+◌ (neg (dot K n (Q i) c)) (dot K n (Q i) f)) (fun_ext lifted_high)
            ∙ K.add_comm (neg (dot K n (Q i) c)) (dot K n (Q i) c) ∙ K.add_neg (dot K n (Q i) c)

        zero_there : (x : ℕ) → x < n → c x ≡ 𝟘
        zero_there x l = sym (lifted_high x) ∙ h.independent.only_zero lifted lifted_in lifted_killed (m + x) (omega arith)

      J_count : # n J ≤ # m (touching n (hits K P) J) + # m displaced
      J_count = omega (
        arith,
        indep_count {K = K} {a = m + m} {n = n} {P = stacked} {S = J} {T = J} (record { only_zero = λ c s z x l. zero_there c s z x l }) (λ x e. e),
        #-plus m m (touching n (hits K stacked) J),
        #-mono m (touching n (hits K stacked) J) (touching n (hits K P) J) (λ q l e.
            let w : Touching n (hits K stacked) J q = (touching_iff n (hits K stacked) J q).0 e in
            (touching_iff n (hits K P) J q).1 (w.0, w.1, (w.2.0, (hits_iff K P q w.0).1 (rw (stacked_low q l) at ((hits_iff K stacked q w.0).0 w.2.1))))),
        #-mono m (λ r. touching n (hits K stacked) J (m + r)) displaced (λ r l e.
            let w : Touching n (hits K stacked) J (m + r) = (touching_iff n (hits K stacked) J (m + r)).0 e in
            elim (true? (displaced r)) [
              | yes d ↦ d
              | no nd ↦ absurd ((hits_iff K stacked (m + r) w.0).0 w.2.1 (ap (λ (f : ℕ → F). f w.0) (stacked_high r) ∙ rows_no K displaced Q r w.0 (not_true (displaced r) nd)))
            ]),
      )

    pub form_bound : size (layered_form X) A ≤ m + mixed_sum X (shown_I X A) (shown_J X A)
    unfolding on_rows mixed_sum
    form_bound =
        let t : (P : ℕ → ℕ → F) × Same K m n (rows_in K I Q) P × (# m (touching n (hits K P) J) ≤ constant_rank (divided X I) J) = rank_tableau (divided X I) J J_part in
        omega (
          arith,
          t.2,
          J_count t.0 t.1,
          units_count,
          #-plus m n (placing A),
          #-split n J (placing original),
          #-mono n (J ∩ placing original) J (λ x l e. and_left (J x) (placing original x) e),
          #-mono n (∁ J ∩ placing original) (placing on_rows) (λ x l e. on_row_in (original x) (not_in (J x) (and_left (not (J x)) (placing original x) e)) (and_right (not (J x)) (placing original x) e)),
          matching_le (divided X I) J on_rows on_rows_legal on_rows_outside,
        )

    pub shown_le : mixed_sum X (shown_I X A) (shown_J X A) ≤ mixed_rank X
    unfolding mixed_rank
    shown_le = omega (
      arith,
      part_le n (λ x. true) (λ J. mixed_sum X I J) J J_part,
      part_le m (λ i. true) (λ I. largest_part n (λ x. true) (λ J. mixed_sum X I J)) I I_part,
    )
