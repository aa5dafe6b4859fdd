-- A layered model as one table: its legal assignments are those of the table. Assumes nothing.
use Rattle.std.specs.Prelude.{ℕ, ◌+◌, ◌-◌, ◌≤◌, ◌<◌, ◌≡◌, refl, Bool, true, false}
use Rattle.std.proofs.Common.{sym, ◌∙◌, true≢false, arith}
use Rattle.std.proofs.Math.Path.{ap}
use Rattle.std.proofs.lemmas.Bool.{false≢true}
use Rattle.residue.specs.Fields.{zero_mul}
use Rattle.counting.specs.Beside.{beside}
use Rattle.counting.specs.Blocks.{beside_high, beside_low, low_or_high}
use Rattle.counting.specs.Counts.{#-ext}
use Rattle.rank.proofs.Layered.Duality.{rank_reached, size_le_rank}
use Rattle.rank.specs.Layered.Model.{Model, Seat, out, constant, row, Assignment, is_placed, is_constant, Legal, size}
use Rattle.rank.specs.Layered.Rank.{rank}
use Rattle.rank.specs.Linear.Independence.{dot}
use Rattle.rank.specs.Linear.Sums.{dot_zero}
use Rattle.determinants.specs.ModelTables.{LayeredOrder, all_constants, all_letters}
use Rattle.determinants.specs.Assignments.FromDeterminant.{legal_of_order}
use Rattle.determinants.specs.Assignments.ToDeterminant.{order_of_legal}
use Rattle.determinants.specs.Assignments.Legal.{LegalOfSize, LegalOn}

-- a seat with its row moved: the table has row a + r for row r of the model
abbrev moved : (ℕ → ℕ) → Seat → Seat
moved f out = out
moved f constant = constant
moved f (row r) = row (f r)

moved_row : (f : ℕ → ℕ) (s : Seat) (q : ℕ) → moved f s ≡ row q → (r : ℕ) × (s ≡ row r) × (q ≡ f r)
moved_row f out q e = absurd (false≢true (ap is_placed e))
moved_row f constant q e = absurd (true≢false (ap is_constant e))
moved_row f (row r) q e = let p : q ≡ f r = cc in (r, refl, p)

moved_placed : (f : ℕ → ℕ) (s : Seat) → is_placed (moved f s) ≡ is_placed s
moved_placed f out = refl
moved_placed f constant = refl
moved_placed f (row r) = refl

moved_constant : (f : ℕ → ℕ) (s : Seat) → is_constant (moved f s) ≡ is_constant s
moved_constant f out = refl
moved_constant f constant = refl
moved_constant f (row r) = refl

module _ (M : Model) where
  open M use {K, a, b, n, Q, T, E}
  open K use {𝟘}

  abbrev up : ℕ → ℕ
  up r = a + r

  abbrev down : ℕ → ℕ
  down i = i - a

  letter_below : (i x : ℕ) → all_letters M i x ≡ true → (r : ℕ) × (i ≡ a + r) × (T r x ≡ true)
  letter_below i x e = low_or_high a i
      (λ l. absurd (false≢true (sym (ap (λ f. f x) (beside_low a (λ i x. false) T i l)) ∙ e)))
      (λ r d. (r, d, sym (ap (λ q. all_letters M q x) d ∙ ap (λ f. f x) (beside_high a (λ i x. false) T r)) ∙ e))

  upper : ℕ → Bool
  upper = beside a (λ i. true) (λ r. false)

  upper_low : (i : ℕ) → upper i ≡ true → i < a
  unfolding upper
  upper_low i e = low_or_high a i (λ l. l) (λ r d. absurd (false≢true (sym (ap upper d ∙ beside_high a (λ i. true) (λ r. false) r) ∙ e)))

  raised : (A : Assignment) → Legal M A → LegalOn K (a + b) n (all_constants M) (all_letters M) E upper (λ x. moved up (A x))
  unfolding upper
  raised A h = record {
    columns = λ x p. h.offered x (sym (moved_placed up (A x)) ∙ p);
    rows = λ i e. omega (arith, upper_low i e);
    independent = record {
      only_zero = λ c s z. h.independent.only_zero c (λ j nj. s j (λ e. nj (sym (moved_constant up (A j)) ∙ e)))
          (λ i l. ap (λ f. dot K n f c) (sym (beside_low a Q (λ r x. 𝟘) i l)) ∙ z i (beside_low a (λ i. true) (λ r. false) i l));
    };
    parameter = λ x q e.
        let u = moved_row up (A x) q e in
        let p = h.parameter x u.0 u.1 in (
          omega (arith, u.2, p.0),
          ap (λ i. all_letters M i x) u.2 ∙ ap (λ f. f x) (beside_high a (λ i x. false) T u.0) ∙ p.1,
          λ y. omega (arith, u.2, upper_low q y),
        );
    one_each = λ x y q ex ey.
        let u = moved_row up (A x) q ex in
        let v = moved_row up (A y) q ey in
        let w : v.0 ≡ u.0 = omega (arith, u.2, v.2) in
        h.one_each x y u.0 u.1 (v.1 ∙ ap row w);
  }

  lowered : (R : ℕ → Bool) (A : Assignment) → LegalOn K (a + b) n (all_constants M) (all_letters M) E R A → Legal M (λ x. moved down (A x))
  lowered R A h = record {
    offered = λ x p. h.columns x (sym (moved_placed down (A x)) ∙ p);
    independent = record {
      only_zero = λ c s z. h.independent.only_zero c (λ j nj. s j (λ e. nj (sym (moved_constant down (A j)) ∙ e)))
          (λ i e. low_or_high a i
          (λ l. ap (λ f. dot K n f c) (beside_low a Q (λ r x. 𝟘) i l) ∙ z i l)
          (λ r d. ap (λ f. dot K n f c) (ap (all_constants M) d ∙ beside_high a Q (λ r x. 𝟘) r) ∙ dot_zero K n (λ x. 𝟘) c (λ j l. zero_mul K (c j))));
    };
    parameter = λ x r e.
        let u = moved_row down (A x) r e in
        let p = h.parameter x u.0 u.1 in
        let t = letter_below u.0 x p.1 in
        let w : t.0 ≡ r = omega (arith, u.2, t.1) in
        (omega (arith, w, t.1, p.0), ap (λ q. T q x) (sym w) ∙ t.2);
    one_each = λ x y r ex ey.
        let u = moved_row down (A x) r ex in
        let v = moved_row down (A y) r ey in
        let t = letter_below u.0 x (h.parameter x u.0 u.1).1 in
        let t' = letter_below v.0 y (h.parameter y v.0 v.1).1 in
        let w : v.0 ≡ u.0 = omega (arith, u.2, v.2, t.1, t'.1) in
        h.one_each x y u.0 u.1 (v.1 ∙ ap row w);
  }

  -- a square part of the order of the rank, and no larger one
  pub layered_reached : LayeredOrder M (rank M)
  layered_reached = let w : (A : Assignment) × Legal M A × (size M A ≡ rank M) = rank_reached M in
      order_of_legal K (a + b) n (all_constants M) (all_letters M) E (rank M) (record {
        rows = upper;
        seats = λ x. moved up (w.0 x);
        legal = raised w.0 w.1;
        size = #-ext n _ _ (λ x l. moved_placed up (w.0 x)) ∙ w.2;
      })

  pub layered_bound : (k : ℕ) → LayeredOrder M k → k ≤ rank M
  layered_bound k p =
      let h : LegalOfSize K (a + b) n (all_constants M) (all_letters M) E k = legal_of_order K (a + b) n (all_constants M) (all_letters M) E k p in
      let A : Assignment = λ x. moved down (h.seats x) in
      let s : size M A ≡ k = #-ext n _ _ (λ x l. moved_placed down (h.seats x)) ∙ h.size in
      omega (arith, s, size_le_rank M A (lowered h.rows h.seats h.legal))
