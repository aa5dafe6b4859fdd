-- The sets whose sum is the rank, read off a valid state whose search from all unplaced columns meets no terminal column: they have all unplaced columns,
-- no arc leaves them, and they have no terminal column. Assumes nothing.
use Rattle.std.specs.Prelude.{ℕ, ◌≤◌, ◌<◌, ◌≡◌, not, ◌||◌}
use Rattle.std.proofs.Common.{◌∙◌}
use Rattle.std.proofs.Math.Logic.{inl, inr}
use native.Mathlib.Omega.{arith}
use Rattle.counting.specs.Bools.{true?, and_left, and_right, or_left, or_right, or_split, not_both, not_of}
use Rattle.counting.specs.Sets.{Set, ◌∈◌, ◌⊆◌, ◌∩◌, ∁, #, touching}
use Rattle.counting.specs.Counts.{#-∁}
use Rattle.counting.specs.Injections.{#-mono}
use Rattle.counting.specs.Blocks.{#-plus}
use Rattle.counting.specs.Choices.{Part}
use Rattle.rank.specs.Linear.Independence.{Indep}
use Rattle.rank.specs.Linear.Kernels.{same_indep, indep_count}
use Rattle.rank.specs.Graph.States.{Placed, Terminal, placed_of}
use Rattle.rank.specs.Graph.Closed.{Closed, UnplacedIn, closed_total}
use Rattle.rank.specs.Graph.Layers.{ArcClosed, layer, unplaced}
use Rattle.rank.specs.Layered.Model.{Model}
use Rattle.rank.specs.Layered.Rank.{constant_rank, sum}
use Rattle.rank.proofs.Layered.Meaning.{constant_rank_at}
use Rattle.rank.specs.Layered.Seating.{Good}
use Rattle.rank.proofs.Layered.Assignments.{constant_rows, parameter_rows}
use Rattle.rank.proofs.Layered.Augmenting.{StateOf}
use Rattle.rank.proofs.Layered.Tight.{unplaced_in, touch_in}
use Rattle.rank.proofs.Layered.Optimal.{touches_offered, rank_placed}
use Rattle.rank.proofs.Layered.Minimax.{rank_le_sum}
use Rattle.listings.specs.BlockLaws.{Tight}

module _ (M : Model) (s : StateOf M) (g : Good M s) where
  open M use {K, a, b, n, Q, E}

  -- J is a set of offered columns with all unplaced ones, which no arc leaves, and with no terminal column
  pub record Shut (J : Set) : Type 0 where
    pub columns : Part n E J
    pub has_unplaced : (y : ℕ) → y < n → y ∈ E → (Placed s y → ⊥) → y ∈ J
    pub along_arcs : ArcClosed s J
    pub no_terminal : (y : ℕ) → y ∈ J → Terminal s y → ⊥

  -- its sum is at most the number of placed columns
  module _ (J : Set) (h : Shut J) where
    -- with the columns that are not offered
    R : Set
    R x = J x || not (E x)

    R_closed : Closed s R
    unfolding R
    R_closed = record {
      no_terminal = λ y l e t. elim (or_split (J y) (not (E y)) e) [
        | inl j ↦ h.no_terminal y j t
        | inr o ↦ not_both (E y) o (touches_offered M s g t.0 y t.2.1)
      ];
      closed = λ y z l e k. elim (or_split (J y) (not (E y)) e) [
        | inl j ↦ or_left (J z) (not (E z)) (h.along_arcs y z l j k)
        | inr o ↦ absurd (not_both (E y) o (touches_offered M s g k.1.0 y k.1.2.0))
      ];
    }

    R_unplaced : UnplacedIn s R
    unfolding R
    R_unplaced y l new = elim (true? (E y)) [
      | yes o ↦ or_left (J y) (not (E y)) (h.has_unplaced y l o new)
      | no no' ↦ or_right (J y) (not (E y)) (not_of (E y) no')
    ]

    shut_sum : sum M J ≤ # n (placed_of s)
    unfolding sum R
    shut_sum =
        let inside : J ⊆ R = λ x e. or_left (J x) (not (E x)) e in
        let of_E : J ⊆ E = λ x e. (h.columns x e).1 in
        let S : (S : Set) × Part n J S × Indep K a n Q S × (# n S ≡ constant_rank M J) = constant_rank_at M J in
        omega (
          arith,
          S.3,
          indep_count {P = g.P} {S = S.0} {T = J} (same_indep g.kernel S.2) (λ x e. (S.1 x e).1),
          constant_rows M s g J R inside of_E,
          parameter_rows M s g J R inside of_E,
          #-plus a b (touching n s.touch R),
          closed_total s R R_closed R_unplaced,
          #-∁ n R,
          #-mono n (∁ J ∩ E) (∁ R) (λ x l e. not_of (R x) (λ r. elim (or_split (J x) (not (E x)) r) [
            | inl j ↦ not_both (J x) (and_left (not (J x)) (E x) e) j
            | inr o ↦ not_both (E x) o (and_right (not (J x)) (E x) e)
          ])),
        )

  module _ (c : Closed s (layer s (unplaced s) n)) where
    -- the sets whose sum is the rank are the shut ones
    pub tight_shut : (J : Set) → Tight M J → Shut J
    tight_shut J t =
        let p : Part n E J = t.columns in
        let e : sum M J ≡ # n (placed_of s) = t.has_sum ∙ rank_placed M s g c in
        record {
          columns = p;
          has_unplaced = unplaced_in M s g J p e;
          along_arcs = λ y z l h k. rw k.1.2.1 at (touch_in M s g J p e k.1.0 y k.1.1 l h k.1.2.0);
          no_terminal = λ y h w. omega (arith, (p (s.owner w.0) (touch_in M s g J p e w.0 y w.1 (p y h).0 h w.2.1)).0, w.2.0);
        }

    pub shut_tight : (J : Set) → Shut J → Tight M J
    shut_tight J h = record { columns = h.columns; has_sum = omega (arith, shut_sum J h, rank_placed M s g c, rank_le_sum M J) }
