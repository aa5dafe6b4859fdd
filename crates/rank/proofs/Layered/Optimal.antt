-- A valid state whose search from all unplaced columns meets no terminal column: the rank is its size, and what was reached is the short set.
-- Assumes nothing.
use Rattle.std.specs.Prelude.{ℕ, ◌≤◌, ◌<◌, false, not, ◌&&◌, ◌↔◌, ◌⊎◌, ◌≡◌}
use Rattle.std.proofs.Math.Bool.{true, decide, decide_iff, true≢false}
use Rattle.std.proofs.Math.Logic.{inl, inr}
use Rattle.std.proofs.Common.{sym, ◌∙◌}
use Rattle.std.proofs.Math.Decide.{dec_lt}
use native.Mathlib.Omega.{arith}
use Rattle.counting.specs.Bools.{and_in, and_left, and_right, iff_eq, in_not, not_in, not_true, true?}
use Rattle.counting.specs.Sets.{#, Set, ◌∈◌, ◌∩◌, ◌⊆◌, touching, ∁}
use Rattle.counting.specs.Counts.{#-∁}
use Rattle.counting.specs.Injections.{#-mono}
use Rattle.counting.specs.Blocks.{#-plus}
use Rattle.counting.specs.Choices.{Part}
use Rattle.rank.specs.Linear.Independence.{Indep}
use Rattle.rank.specs.Linear.Kernels.{indep_count, same_indep}
use Rattle.rank.specs.Graph.States.{placed_of}
use Rattle.rank.specs.Graph.Closed.{Closed, closed_total}
use Rattle.rank.specs.Graph.Layers.{layer, layer_into, layer_placed, layers_reached, layers_unplaced, unplaced}
use Rattle.rank.specs.Layered.Model.{Assignment, Legal, Model, size}
use Rattle.rank.specs.Layered.Rank.{constant_rank, rank, short, sum}
use Rattle.rank.proofs.Layered.Meaning.{constant_rank_at, short_iff}
use Rattle.rank.proofs.Layered.Duality.{rank_reached, size_le_rank, size_le_sum}
use Rattle.rank.specs.Layered.Valid.{touch_offered}
use Rattle.rank.specs.Layered.Seating.{Good}
use Rattle.rank.proofs.Layered.Assignments.{assignment, assignment_legal, assignment_size, constant_rows, offered_owner, parameter_rows}
use Rattle.rank.proofs.Layered.Augmenting.{StateOf}
use Rattle.rank.proofs.Layered.Tight.{reached_tight}

module _ (M : Model) (s : StateOf M) (g : Good M s) where
  open M use {K, a, b, n, Q, T, E}
  open K use {F, 𝟘, 𝟙}

  -- the offered columns that the search from all unplaced columns reaches
  pub reach : Set
  reach x = decide (dec_lt x n) && (layer s (unplaced s) n x && E x)

  pub reach_iff : (x : ℕ) → (x ∈ reach) ↔ ((x < n) × (x ∈ layer s (unplaced s) n) × (x ∈ E))
  unfolding reach
  reach_iff x = (
    λ e. let e' : (layer s (unplaced s) n x && E x) ≡ true = and_right (decide (dec_lt x n)) (layer s (unplaced s) n x && E x) e in (
      (decide_iff (dec_lt x n)).0 (and_left (decide (dec_lt x n)) (layer s (unplaced s) n x && E x) e),
      and_left (layer s (unplaced s) n x) (E x) e',
      and_right (layer s (unplaced s) n x) (E x) e',
    ),
    λ w. and_in ((decide_iff (dec_lt x n)).1 w.0) (and_in w.1 w.2),
  )

  pub reach_part : Part n E reach
  reach_part x e = (((reach_iff x).0 e).0, ((reach_iff x).0 e).2)

  -- it is enough to search from the offered ones
  pub open_columns : Set
  open_columns x = unplaced s x && E x

  pub open_columns_iff : (x : ℕ) → (x ∈ open_columns) ↔ ((x ∈ unplaced s) × (x ∈ E))
  unfolding open_columns
  open_columns_iff x = (λ e. (and_left (unplaced s x) (E x) e, and_right (unplaced s x) (E x) e), λ w. and_in w.0 w.1)

  pub touches_offered : (q x : ℕ) → s.touch q x ≡ true → x ∈ E
  touches_offered q x t = touch_offered M g.P q x (sym (g.reads q x) ∙ t)

  from_open : (x : ℕ) → x ∈ layer s (unplaced s) n → (x ∈ layer s open_columns n) ⊎ (E x ≡ false)
  unfolding open_columns
  from_open x = layer_into s (unplaced s) open_columns (λ y. E y ≡ false)
      (λ y e. elim (true? (E y)) [ yes o ↦ inl (and_in e o) | no no' ↦ inr (not_true (E y) no') ])
      (λ y z d k. true≢false (sym (touches_offered k.1.0 y k.1.2.0) ∙ d))
      n x

  open_offered : (x : ℕ) → x < n → x ∈ layer s open_columns n → x ∈ E
  unfolding open_columns
  open_offered x l e = elim (layer_placed s open_columns n x e) [
    | inl o ↦ and_right (unplaced s x) (E x) o
    | inr w ↦ rw w.2 at (offered_owner M s g w.0 w.1 (rw w.2 l))
  ]

  pub reach_open : (x : ℕ) → x < n → reach x ≡ layer s open_columns n x
  unfolding open_columns
  reach_open x l = iff_eq (reach x) (layer s open_columns n x)
      (λ e. elim (from_open x ((reach_iff x).0 e).1) [ inl k ↦ k | inr d ↦ absurd (true≢false (sym ((reach_iff x).0 e).2 ∙ d)) ])
      (λ e. (reach_iff x).1 (l, elim (layer_into s open_columns (unplaced s) (λ y. ⊥) (λ y o. inl (and_left (unplaced s y) (E y) o)) (λ y z d k. d) n x e) [ inl k ↦ k | inr d ↦ absurd d ], open_offered x l e))

  -- where that search meets no terminal column
  module _ (c : Closed s (layer s (unplaced s) n)) where
    sum_le : sum M reach ≤ # n (placed_of s)
    unfolding sum
    sum_le =
        let R : Set = layer s (unplaced s) n in
        let inside : reach ⊆ R = λ x e. ((reach_iff x).0 e).1 in
        let of_E : reach ⊆ E = λ x e. ((reach_iff x).0 e).2 in
        let S : (S : Set) × Part n reach S × Indep K a n Q S × (# n S ≡ constant_rank M reach) = constant_rank_at M reach in
        omega (
          arith,
          S.3,
          indep_count {P = g.P} {S = S.0} {T = reach} (same_indep g.kernel S.2) (λ x e. (S.1 x e).1),
          constant_rows M s g reach R inside of_E,
          parameter_rows M s g reach R inside of_E,
          #-plus a b (touching n s.touch R),
          closed_total s R c (layers_unplaced s n),
          #-∁ n R,
          #-mono n (∁ reach ∩ E) (∁ R) (λ x l e. in_not (R x) (not_true (R x) (λ r.
              true≢false (sym ((reach_iff x).1 (l, r, and_right (not (reach x)) (E x) e)) ∙ not_in (reach x) (and_left (not (reach x)) (E x) e))))),
        )

    pub rank_placed : rank M ≡ # n (placed_of s)
    rank_placed =
        let r : (A : Assignment) × Legal M A × (size M A ≡ rank M) = rank_reached M in
        omega (arith, r.2, size_le_sum M r.0 r.1 reach, sum_le, size_le_rank M (assignment M s) (assignment_legal M s g), assignment_size M s)

    pub sum_reach : sum M reach ≡ # n (placed_of s)
    sum_reach = omega (arith, sum_le, size_le_sum M (assignment M s) (assignment_legal M s g) reach, assignment_size M s)

    pub short_reach : (x : ℕ) → short M x ≡ reach x
    short_reach x = iff_eq (short M x) (reach x)
        (λ e. (short_iff M x).0 e reach reach_part (sum_reach ∙ sym rank_placed))
        (λ e. (short_iff M x).1 (λ J p t. let w : (x < n) × (x ∈ layer s (unplaced s) n) × (x ∈ E) = (reach_iff x).0 e in
        reached_tight M s g J p (t ∙ rank_placed) x (layers_reached s n x w.0 w.1) w.2))
