-- A set of offered columns whose sum is the number of columns that a valid state places holds all that its search reaches. Assumes nothing.
use Rattle.std.specs.Prelude.{ℕ, ◌+◌, ◌-◌, ◌≤◌, ◌<◌, true, not, ◌&&◌, ◌||◌, ◌≢◌, ◌≡◌}
use Rattle.std.proofs.Common.{sym, ◌∙◌, ap, subst}
use Rattle.std.proofs.Math.Decide.{ℕ_discrete, dec_lt}
use native.Mathlib.Omega.{arith}
use Rattle.counting.specs.Bools.{and_in, and_left, and_right, implied, implies, in_not, not_true, true?}
use Rattle.counting.specs.Sets.{#, Set, Some, ◌∈◌, ◌∩◌, ◌⊆◌, set, touching, ∁}
use Rattle.counting.specs.Counts.{#-insert, #-split, set_other, touching_iff}
use Rattle.counting.specs.Injections.{#-mono, #-strict, inj_miss, touching_mono}
use Rattle.counting.specs.Choices.{Part}
use Rattle.rank.specs.Linear.Kernels.{hits, hits_iff, same_indep, same_sym}
use Rattle.rank.specs.Linear.Tableaus.{exchange_indep, owned, owned_iff}
use Rattle.rank.specs.Graph.States.{Arc, Placed, placed_iff, placed_of}
use Rattle.rank.specs.Graph.Closed.{Reached, UnplacedIn, reached_in}
use Rattle.rank.specs.Layered.Model.{Assignment, Legal, Model, constants, placing, row}
use Rattle.rank.specs.Layered.Rank.{constant_rank, sum}
use Rattle.rank.proofs.Layered.Meaning.{constant_rank_le}
use Rattle.rank.proofs.Layered.Restricting.{constant_part, constant_part_indep, constant_part_part, constant_part_sub, parts, row_part, row_part_count, row_part_injects}
use Rattle.rank.proofs.Layered.Duality.{rest_offered}
use Rattle.rank.specs.Layered.Valid.{touch_constant, touch_offered}
use Rattle.rank.specs.Layered.Seating.{Good}
use Rattle.rank.proofs.Layered.Assignments.{assignment, assignment_legal, assignment_places, assignment_size, constant_owner, row_owner, row_touch}
use Rattle.rank.proofs.Layered.Augmenting.{StateOf}

module _ (M : Model) (s : StateOf M) (g : Good M s) where
  open M use {K, a, b, n, Q, T, E}
  open K use {F, 𝟘, 𝟙}

  -- a set of offered columns whose sum is the number placed is closed
  module _ (J : Set) (p : Part n E J) (tight : sum M J ≡ # n (placed_of s)) where
    A : Assignment
    A = assignment M s

    h : Legal M A
    unfolding A
    h = assignment_legal M s g

    -- each of the three counts that make up the sum is met
    record Tight : Type 0 where
      constants_tight : constant_rank M J ≤ # n (constant_part A J)
      rows_tight : # b (touching n T (J ∩ E)) ≤ # n (row_part A J)
      rest_tight : # n (∁ J ∩ E) ≤ # n (∁ J ∩ placing A)

    counts : Tight
    unfolding sum A
    counts =
        let divided : # n (placing A) ≡ # n (J ∩ placing A) + # n (∁ J ∩ placing A) = #-split n J (placing A) in
        let parted : # n (J ∩ placing A) ≡ # n (constant_part A J) + # n (row_part A J) = parts M A h J in
        let sized : # n (placing A) ≡ # n (placed_of s) = assignment_size M s in
        let few_constants : # n (constant_part A J) ≤ constant_rank M J = constant_rank_le M J (constant_part A J)
        (λ x e. ((constant_part_part M A h J x e).0, and_left (J x) (E x) (constant_part_part M A h J x e).1)) (constant_part_indep M A h J) in
        let few_rows : # n (row_part A J) ≤ # b (touching n T (J ∩ E)) = row_part_count M A h J in
        let rows_inside : # b (touching n T (J ∩ E)) ≤ # b (touching n T J) = touching_mono n b T (J ∩ E) J (λ x e. and_left (J x) (E x) e) in
        let few_left : # n (∁ J ∩ placing A) ≤ # n (∁ J ∩ E) = #-mono n (∁ J ∩ placing A) (∁ J ∩ E) (rest_offered M A h J) in
        record { constants_tight = omega arith; rows_tight = omega arith; rest_tight = omega arith }

    pub unplaced_in : (y : ℕ) → y < n → y ∈ E → (Placed s y → ⊥) → y ∈ J
    unfolding A
    unplaced_in y l o new = elim (true? (J y)) [
      | yes e ↦ e
      | no ne ↦ absurd (omega (
        arith,
        counts.rest_tight,
        #-strict n (∁ J ∩ placing A) (∁ J ∩ E) (rest_offered M A h J) y l
            (and_in (in_not (J y) (not_true (J y) ne)) o)
            (λ e. new ((placed_iff s y).0 (sym (assignment_places M s y l) ∙ and_right (not (J y)) (placing A y) e))),
      ))
    ]

    row_in : (r y : ℕ) → r < b → y < n → y ∈ J → T r y ≡ true → s.owner (a + r) ∈ J
    unfolding A
    row_in r y lr ly jy t = elim (true? (J (s.owner (a + r)))) [
      | yes e ↦ e
      | no ne ↦ absurd (omega (
        arith,
        counts.rows_tight,
        inj_miss n b (row_part A J) (touching n T (J ∩ E)) (λ x q. A x ≡ row q) (row_part_injects M A h J) r lr
            ((touching_iff n T (J ∩ E) r).1 (y, ly, (and_in jy (p y jy).1, t)))
            (λ x lx e d. ne (rw (row_owner M s x r d).2 (and_left (J x) (placing A x) (and_right (not (constants A x)) (J x && placing A x) e)))),
      ))
    ]

    constant_in : (q y : ℕ) → q < a → y < n → y ∈ J → g.P q y ≢ 𝟘 → s.owner q ∈ J
    unfolding A
    constant_in q y lq ly jy nz = elim (true? (J (s.owner q))) [
      | yes e ↦ e
      | no ne ↦ absurd (more ne)
    ]
      where
        S : Set
        S = constant_part A J

        S_owned : S ⊆ owned a s.owner
        S_owned x e = (owned_iff a s.owner x).1 (constant_owner M s x (constant_part_sub M A h J x e)).1

        S_J : (x : ℕ) → x ∈ S → x ∈ J
        S_J x e = and_left (J x) (placing A x) (and_right (constants A x) (J x && placing A x) e)

        new : (s.owner q ∈ J → ⊥) → y ∈ S → ⊥
        new ne e =
            let w : (y < n) × Some a (λ k. s.owner k ≡ y) = constant_owner M s y (constant_part_sub M A h J y e) in
            elim (ℕ_discrete q w.1.0) [
              | yes d ↦ ne (rw (d, w.1.2) jy)
              | no nd ↦ nz (subst (λ (z : ℕ). g.P q z ≡ 𝟘) w.1.2 (g.tableau.off w.1.0 q w.1.1 lq (rw w.1.2 ly) nd))
            ]

        part : Part n J (set S y true)
        part x e = elim (ℕ_discrete x y) [
          | yes d ↦ rw d (ly, jy)
          | no nd ↦ let e' : x ∈ S = sym (set_other S y true x nd) ∙ e in ((p x (S_J x e')).0, S_J x e')
        ]

        more : (s.owner q ∈ J → ⊥) → ⊥
        more ne = omega (
          arith,
          counts.constants_tight,
          #-insert n S y ly (new ne),
          constant_rank_le M J (set S y true) part (same_indep (same_sym g.kernel) (exchange_indep g.tableau S S_owned q y lq ly nz (λ e. ne (S_J (s.owner q) e)))),
        )

    pub touch_in : (q y : ℕ) → q < a + b → y < n → y ∈ J → s.touch q y ≡ true → s.owner q ∈ J
    touch_in q y lq ly jy t = elim (dec_lt q a) [
      | yes l ↦ constant_in q y l ly jy ((hits_iff K g.P q y).0 (and_right (E y) (hits K g.P q y) (sym (touch_constant M g.P q y l) ∙ sym (g.reads q y) ∙ t)))
      | no nl ↦
          let e : a + (q - a) ≡ q = omega arith in
          rw e at (row_in (q - a) y (omega arith) ly jy (and_right (E y) (T (q - a) y) (sym (row_touch M s g (q - a) y) ∙ ap (λ (k : ℕ). s.touch k y) e ∙ t)))
    ]

    -- so what the search reached lies in J
    pub reached_tight : (x : ℕ) → Reached s x → x ∈ E → x ∈ J
    reached_tight x r = implied (E x) (J x) (reached_in s (λ y. not (E y) || J y) from_unplaced along_arc r)
      where
        from_unplaced : UnplacedIn s (λ y. not (E y) || J y)
        from_unplaced y l new = implies (E y) (J y) (λ o. unplaced_in y l o new)

        along_arc : (y z : ℕ) → y < n → (not (E y) || J y) ≡ true → Arc s y z → (not (E z) || J z) ≡ true
        along_arc y z l e k =
            let o : y ∈ E = touch_offered M g.P k.1.0 y (sym (g.reads k.1.0 y) ∙ k.1.2.0) in
            implies (E z) (J z) (λ o'. rw k.1.2.1 at (touch_in k.1.0 y k.1.1 l (implied (E y) (J y) e o) k.1.2.0))
