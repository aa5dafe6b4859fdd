-- The constants of a model as a model without parameter rows: its rank is the constant rank, and a set is independent where that is its size.
-- Assumes nothing.
use Rattle.std.specs.Prelude.{ℕ, ◌≤◌, ◌<◌, ◌≡◌, true, ◌↔◌}
use Rattle.std.proofs.Common.{sym, ◌∙◌, ap, arith}
use Rattle.std.proofs.Math.Bool.{true≢false}
use Rattle.counting.specs.Bools.{true?, not_true, iff_eq}
use Rattle.counting.specs.Sets.{Set, ◌∈◌, ◌⊆◌, #}
use Rattle.counting.specs.Counts.{#-ext}
use Rattle.counting.specs.Injections.{#-mono, #-strict}
use Rattle.counting.specs.Choices.{Part}
use Rattle.rank.specs.Linear.Independence.{Indep}
use Rattle.rank.specs.Linear.Kernels.{indep_sub}
use Rattle.rank.specs.Layered.Model.{Model, constant, row, Assignment, is_placed, is_constant, placing, constants, Legal, size}
use Rattle.rank.specs.Layered.Rank.{constant_rank, rank, placed}
use Rattle.rank.proofs.Layered.Meaning.{seat_cases, constant_rank_at, constant_rank_le}
use Rattle.rank.proofs.Layered.Restricting.{keep, keep_placed, keep_true, keep_false, constant_placed}
use Rattle.rank.proofs.Layered.Duality.{rank_reached, size_le_rank}
use Rattle.rank.proofs.Layered.ColumnOrder.{placed_legal, placed_size}
use Rattle.dependence.specs.Constants.{constants_only}

-- all of S on the constant side
pub all_constant : Set → Assignment
all_constant S x = keep (S x) constant

pub all_constant_places : (S : Set) (x : ℕ) → placing (all_constant S) x ≡ S x
unfolding all_constant
all_constant_places S x = elim (true? (S x)) [
  | yes e ↦ ap is_placed (keep_true (S x) constant e) ∙ sym e
  | no ne ↦ ap is_placed (keep_false (S x) constant (not_true (S x) ne)) ∙ sym (not_true (S x) ne)
]

module _ (M : Model) where
  open M use {K, a, b, n, Q, E}

  pub all_constant_legal : (S : Set) → Part n E S → Indep K a n Q S → Legal M (all_constant S)
  unfolding all_constant
  all_constant_legal S p i = record {
    offered = λ x e. p x (keep_placed (S x) constant e).0;
    independent = indep_sub {T = S} (λ x e. (keep_placed (S x) constant (constant_placed (keep (S x) constant) e)).0) i;
    parameter = λ x r e. absurd (no_row x r e);
    one_each = λ x y r e. absurd (no_row x r e);
  }
    where
      no_row : (x r : ℕ) → keep (S x) constant ≡ row r → ⊥
      no_row x r e = true≢false (ap is_constant (sym (keep_placed (S x) constant (ap is_placed e)).1 ∙ e))

  -- where no parameter row touches what A places, all of that is on the constant side
  pub placed_constant : (A : Assignment) → Legal M A → ((x r : ℕ) → r < b → x ∈ placing A → M.T r x ≡ true → ⊥) → placing A ⊆ constants A
  placed_constant A h free x p = seat_cases (A x)
      (λ e. absurd (true≢false (sym p ∙ ap is_placed e)))
      (λ e. ap is_constant e)
      (λ r e. absurd (free x r (h.parameter x r e).0 p (h.parameter x r e).1))

-- where the rank is the number of offered columns, all of them are placed
pub full_rank_places_all : (M : Model) → rank M ≡ # M.n M.E → (y : ℕ) → y < M.n → placed M y ≡ M.E y
full_rank_places_all M e y l = iff_eq (placed M y) (M.E y) (λ p. of_E y l p) (λ o. elim (true? (placed M y)) [
  | yes p ↦ p
  | no np ↦ absurd (omega (arith, placed_size M, #-strict M.n (placed M) M.E of_E y l o np))
])
  where
    of_E : (z : ℕ) → z < M.n → z ∈ placed M → z ∈ M.E
    of_E z lz p =
        let w : (A : Assignment) × Legal M A × ((x : ℕ) → x < M.n → placing A x ≡ placed M x) = placed_legal M in
        (w.1.offered z (w.2 z lz ∙ p)).1

module _ (M : Model) (J : Set) where
  open M use {K, a, n, Q}

  -- the constant rank of J is the rank of the model of the constants that is offered J
  pub constant_rank_is_a_rank : constant_rank M J ≡ rank (constants_only M J)
  constant_rank_is_a_rank = omega (arith, up, down)
    where
      up : constant_rank M J ≤ rank (constants_only M J)
      up =
          let w : (S : Set) × Part n J S × Indep K a n Q S × (# n S ≡ constant_rank M J) = constant_rank_at M J in
          omega (
            arith,
            w.3,
            size_le_rank (constants_only M J) (all_constant w.0) (all_constant_legal (constants_only M J) w.0 w.1 w.2),
            #-ext n (placing (all_constant w.0)) w.0 (λ x l. all_constant_places w.0 x),
          )

      down : rank (constants_only M J) ≤ constant_rank M J
      down =
          let w : (A : Assignment) × Legal (constants_only M J) A × (size (constants_only M J) A ≡ rank (constants_only M J))
          = rank_reached (constants_only M J) in
          omega (
            arith,
            w.2,
            constant_rank_le M J (constants w.0) (λ x e. w.1.offered x (constant_placed (w.0 x) e)) w.1.independent,
            #-mono n (placing w.0) (constants w.0) (λ x l. placed_constant (constants_only M J) w.0 w.1 (λ y r lr. absurd (omega arith)) x),
          )

  -- the columns of J are independent exactly if that is their number
  pub independent_by_rank : ((x : ℕ) → x ∈ J → x < n) → Indep K a n Q J ↔ (rank (constants_only M J) ≡ # n J)
  independent_by_rank below = (
    λ i.
        let w : (S : Set) × Part n J S × Indep K a n Q S × (# n S ≡ constant_rank M J) = constant_rank_at M J in
        omega (
          arith,
          constant_rank_is_a_rank,
          w.3,
          constant_rank_le M J J (λ x e. (below x e, e)) i,
          #-mono n w.0 J (λ x l e. (w.1 x e).1),
        ),
    λ e.
        let w : (S : Set) × Part n J S × Indep K a n Q S × (# n S ≡ constant_rank M J) = constant_rank_at M J in
        indep_sub {T = w.0} (λ x j. elim (true? (w.0 x)) [
          | yes s ↦ s
          | no ns ↦ absurd (omega (arith, constant_rank_is_a_rank, w.3, #-strict n w.0 J (λ y l s. (w.1 y s).1) x (below x j) j ns))
        ]) w.2,
  )
