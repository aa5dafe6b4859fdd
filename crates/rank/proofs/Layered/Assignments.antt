-- The assignment of a valid state: it is legal, and no legal assignment places more columns in a set than rows touch the set. Assumes nothing.
use Rattle.std.specs.Prelude.{ℕ, ◌+◌, ◌-◌, ◌≤◌, ◌<◌, ◌&&◌, ◌≡◌}
use Rattle.std.proofs.Math.Bool.{true}
use Rattle.std.proofs.Common.{true≢false, sym, ◌∙◌, ap, subst}
use Rattle.std.proofs.lemmas.Bool.{false≢true}
use Rattle.std.proofs.Math.Path.{refl}
use Rattle.std.proofs.Math.Decide.{dec_lt}
use native.Mathlib.Omega.{arith}
use Rattle.counting.specs.Bools.{and_in, and_left, and_right, iff_eq}
use Rattle.counting.specs.Sets.{#, Set, Some, ◌∈◌, ◌∩◌, ◌⊆◌, touching}
use Rattle.counting.specs.Counts.{#-ext, Touching, both?, touching_iff}
use Rattle.counting.specs.Injections.{#-mono}
use Rattle.counting.specs.Blocks.{#-plus}
use Rattle.rank.specs.Linear.Kernels.{hits, indep_count, same_indep, same_sym}
use Rattle.rank.specs.Linear.Tableaus.{owned_iff, owned_indep}
use Rattle.rank.specs.Graph.States.{Placed, State, placed_iff, placed_of, placed?}
use Rattle.rank.specs.Layered.Model.{Assignment, Legal, Model, Seat, constant, constants, is_constant, is_placed, out, placing, row, size}
use Rattle.rank.proofs.Layered.Meaning.{seat_cases}
use Rattle.rank.proofs.Layered.Restricting.{constant_part, constant_part_indep, constant_part_part, parts, row_part_count}
use Rattle.rank.specs.Layered.Valid.{touch_constant, touch_offered, touch_parameter}
use Rattle.rank.specs.Layered.Seating.{Good}

module _ (M : Model) where
  open M use {K, a, b, n, Q, T, E}

  -- the seat that a row gives its owner
  row_seat_at : (q : ℕ) → Dec (q < a) → Seat
  row_seat_at q (yes l) = constant
  row_seat_at q (no nl) = row (q - a)

  pub row_seat : ℕ → Seat
  row_seat q = row_seat_at q (dec_lt q a)

  pub row_seat_placed : (q : ℕ) → is_placed (row_seat q) ≡ true
  unfolding row_seat row_seat_at
  row_seat_placed q = elim (dec_lt q a) as (λ d. is_placed (row_seat_at q d) ≡ true) [ yes l ↦ refl | no nl ↦ refl ]

  pub row_seat_constant : (q : ℕ) → is_constant (row_seat q) ≡ true → q < a
  unfolding row_seat row_seat_at
  row_seat_constant q = elim (dec_lt q a) as (λ d. is_constant (row_seat_at q d) ≡ true → q < a) [ yes l ↦ λ e. l | no nl ↦ λ e. absurd (false≢true e) ]

  pub row_seat_low : (q : ℕ) → q < a → row_seat q ≡ constant
  unfolding row_seat row_seat_at
  row_seat_low q l = elim (dec_lt q a) as (λ d. row_seat_at q d ≡ constant) [ yes m ↦ refl | no nm ↦ absurd (nm l) ]

  pub row_seat_high : (r : ℕ) → row_seat (a + r) ≡ row r
  unfolding row_seat row_seat_at
  row_seat_high r = elim (dec_lt (a + r) a) as (λ d. row_seat_at (a + r) d ≡ row r) [ yes m ↦ absurd (omega arith) | no nm ↦ let e : a + r - a ≡ r = omega arith in rw e ]

  row_seat_row : (q r : ℕ) → row_seat q ≡ row r → (a ≤ q) × (q - a ≡ r)
  unfolding row_seat row_seat_at
  row_seat_row q r = elim (dec_lt q a) as (λ d. row_seat_at q d ≡ row r → (a ≤ q) × (q - a ≡ r)) [
    | yes l ↦ λ e. absurd (true≢false (ap is_constant e))
    | no nl ↦ λ e. (omega arith, cc)
  ]

  module _ (s : State n (a + b)) where
    -- the assignment of a state
    assign_at : (x : ℕ) → Dec ((x < n) × Placed s x) → Seat
    assign_at x (yes w) = row_seat w.1.0
    assign_at x (no nw) = out

    pub assignment : Assignment
    assignment x = assign_at x (both? (dec_lt x n) (placed? s x))

    assigned : (x : ℕ) → x < n → Placed s x → is_placed (assignment x) ≡ true
    unfolding assignment assign_at
    assigned x l w = elim (both? (dec_lt x n) (placed? s x)) as (λ d. is_placed (assign_at x d) ≡ true) [ yes v ↦ row_seat_placed v.1.0 | no nv ↦ absurd (nv (l, w)) ]

    -- a placed column has the seat of a row that it owns
    abbrev pub Seated : ℕ → Type 0
    Seated x = (x < n) × Some (a + b) (λ q. (s.owner q ≡ x) × (assignment x ≡ row_seat q))

    pub seated_at : (x : ℕ) → x ∈ placing assignment → Seated x
    unfolding assignment assign_at
    seated_at x = elim (both? (dec_lt x n) (placed? s x)) as (λ d. is_placed (assign_at x d) ≡ true → (x < n) × Some (a + b) (λ q. (s.owner q ≡ x) × (assign_at x d ≡ row_seat q))) [
      | yes w ↦ λ e. (w.0, (w.1.0, w.1.1, (w.1.2, refl)))
      | no nw ↦ λ e. absurd (false≢true e)
    ]

    pub assignment_owned : (x q : ℕ) → x < n → q < a + b → s.owner q ≡ x → assignment x ≡ row_seat q
    assignment_owned x q l lq o =
        let w : Seated x = seated_at x (assigned x l (q, lq, o)) in
        let e : w.1.0 ≡ q = s.owns_one w.1.0 q w.1.1 lq (rw w.1.2.0 l) (w.1.2.0 ∙ sym o) in
        w.1.2.1 ∙ ap row_seat e

    pub assignment_places : (x : ℕ) → x < n → placing assignment x ≡ placed_of s x
    assignment_places x l = iff_eq (placing assignment x) (placed_of s x)
        (λ p. let w : Seated x = seated_at x p in (placed_iff s x).1 (w.1.0, w.1.1, w.1.2.0))
        (λ p. assigned x l ((placed_iff s x).0 p))

    pub assignment_size : size M assignment ≡ # n (placed_of s)
    assignment_size = #-ext n (placing assignment) (placed_of s) assignment_places

    -- the constant side owns constant rows
    pub constant_owner : (x : ℕ) → x ∈ constants assignment → (x < n) × Some a (λ q. s.owner q ≡ x)
    constant_owner x e =
        let p : x ∈ placing assignment = seat_cases (assignment x) (λ d. absurd (false≢true (sym (ap is_constant d) ∙ e))) (λ d. ap is_placed d) (λ r d. ap is_placed d) in
        let w : Seated x = seated_at x p in
        (w.0, (w.1.0, row_seat_constant w.1.0 (sym (ap is_constant w.1.2.1) ∙ e), w.1.2.0))

    pub row_owner : (x r : ℕ) → assignment x ≡ row r → (x < n) × (r < b) × (s.owner (a + r) ≡ x)
    row_owner x r e =
        let w : Seated x = seated_at x (ap is_placed e) in
        let d : (a ≤ w.1.0) × (w.1.0 - a ≡ r) = row_seat_row w.1.0 r (sym w.1.2.1 ∙ e) in
        let k : a + r ≡ w.1.0 = omega arith in
        (w.0, omega arith, rw k w.1.2.0)

    module _ (g : Good M s) where
      pub offered_owner : (q : ℕ) → q < a + b → s.owner q < n → s.owner q ∈ E
      offered_owner q l lo = touch_offered M g.P q (s.owner q) (sym (g.reads q (s.owner q)) ∙ s.touches_owner q l lo)

      pub row_touch : (r x : ℕ) → s.touch (a + r) x ≡ (E x && T r x)
      row_touch r x = g.reads (a + r) x ∙ touch_parameter M g.P r x

      -- it is legal
      pub assignment_legal : Legal M assignment
      assignment_legal = record {
        offered = λ x p. let w : Seated x = seated_at x p in (w.0, rw w.1.2.0 at (offered_owner w.1.0 w.1.1 (rw w.1.2.0 w.0)));
        independent = same_indep (same_sym g.kernel) (owned_indep g.tableau (constants assignment) (λ x e. (owned_iff a s.owner x).1 (constant_owner x e).1));
        parameter = λ x r e. let w : (x < n) × (r < b) × (s.owner (a + r) ≡ x) = row_owner x r e in
            (w.1, and_right (E x) (T r x) (sym (row_touch r x) ∙ subst (λ (y : ℕ). s.touch (a + r) y ≡ true) w.2 (s.touches_owner (a + r) (omega arith) (rw w.2 w.0))));
        one_each = λ x y r e e'. sym (row_owner x r e).2 ∙ (row_owner y r e').2;
      }

      -- the rows that touch offered columns of R
      module _ (J R : Set) (inside : J ⊆ R) (of_E : J ⊆ E) where
        pub constant_rows : # a (touching n (hits K g.P) J) ≤ # a (touching n s.touch R)
        constant_rows = #-mono a (touching n (hits K g.P) J) (touching n s.touch R) (λ q l e.
            let w : Touching n (hits K g.P) J q = (touching_iff n (hits K g.P) J q).0 e in
            (touching_iff n s.touch R q).1 (
              w.0,
              w.1,
              (
                inside w.0 w.2.0,
                g.reads q w.0 ∙ touch_constant M g.P q w.0 l ∙ and_in (of_E w.0 w.2.0) w.2.1,
              ),
            ))

        pub parameter_rows : # b (touching n T J) ≤ # b (λ r. touching n s.touch R (a + r))
        parameter_rows = #-mono b (touching n T J) (λ r. touching n s.touch R (a + r)) (λ r l e.
            let w : Touching n T J r = (touching_iff n T J r).0 e in
            (touching_iff n s.touch R (a + r)).1 (w.0, w.1, (inside w.0 w.2.0, row_touch r w.0 ∙ and_in (of_E w.0 w.2.0) w.2.1)))

      -- no legal assignment places more columns in J than there are rows that touch J
      pub legal_in : (A : Assignment) → Legal M A → (J : Set) → # n (J ∩ placing A) ≤ # (a + b) (touching n s.touch J)
      legal_in A h J =
          let inside : (J ∩ E) ⊆ J = λ x e. and_left (J x) (E x) e in
          let of_E : (J ∩ E) ⊆ E = λ x e. and_right (J x) (E x) e in
          omega (
            arith,
            parts M A h J,
            #-plus a b (touching n s.touch J),
            indep_count {P = g.P} {S = constant_part A J} {T = J ∩ E} (same_indep g.kernel (constant_part_indep M A h J)) (λ x e. (constant_part_part M A h J x e).1),
            constant_rows (J ∩ E) J inside of_E,
            row_part_count M A h J,
            parameter_rows (J ∩ E) J inside of_E,
          )
