-- The layers of a search: layer 0 is a set of sources, and each next layer adds what an arc from the last one reaches. After n layers nothing is
-- added. Assumes nothing.
use Prim.Native.Nat.{ℕ, zero, suc, ◌≤◌, ◌<◌}
use Rattle.std.specs.Prelude.{true, not, ◌||◌, ◌↔◌, ◌⊎◌, ◌≡◌, refl}
use Rattle.std.proofs.Math.Bool.{decide, decide_iff}
use Rattle.std.proofs.Math.Logic.{inl, inr}
use Rattle.std.proofs.Common.{arith}
use Rattle.counting.specs.Bools.{not_both, not_of, or_left, or_right, or_split, true?}
use Rattle.counting.specs.Sets.{#, Set, Some, ◌∈◌}
use Rattle.counting.specs.Counts.{#-∁, both?, not?, some?}
use Rattle.counting.specs.Injections.{#-strict}
use Rattle.rank.specs.Graph.States.{Arc, Placed, State, arc?, placed_iff, placed_of}
use Rattle.rank.specs.Graph.Closed.{Reached, UnplacedIn, along, start}

-- no arc leaves D
abbrev pub ArcClosed : {n N : ℕ} → State n N → Set → Type 0
ArcClosed {n} s D = (x y : ℕ) → x < n → x ∈ D → Arc s x y → y ∈ D

-- an arc from a column of D leads to y
abbrev FromSome : {n N : ℕ} → State n N → Set → ℕ → Type 0
FromSome {n} s D y = Some n (λ x. (x ∈ D) × Arc s x y)

from_some? : {n N : ℕ} (s : State n N) (D : Set) (y : ℕ) → Dec (FromSome s D y)
from_some? {n} s D y = some? n (λ x. (x ∈ D) × Arc s x y) (λ x. both? (true? (D x)) (arc? s x y))

-- D and what an arc from it reaches
pub grow : {n N : ℕ} → State n N → Set → Set
grow s D y = D y || decide (from_some? s D y)

module _ {n N : ℕ} (s : State n N) (D : Set) where
  pub grow_old : (y : ℕ) → y ∈ D → y ∈ grow s D
  unfolding grow
  grow_old y h = or_left (D y) (decide (from_some? s D y)) h

  pub grow_arc : (x y : ℕ) → x < n → x ∈ D → Arc s x y → y ∈ grow s D
  unfolding grow
  grow_arc x y l h a = or_right (D y) (decide (from_some? s D y)) ((decide_iff (from_some? s D y)).1 (x, l, (h, a)))

  pub grow_split : (y : ℕ) → y ∈ grow s D → (y ∈ D) ⊎ FromSome s D y
  unfolding grow
  grow_split y h = elim (or_split (D y) (decide (from_some? s D y)) h) [ inl o ↦ inl o | inr f ↦ inr ((decide_iff (from_some? s D y)).0 f) ]

  closed_or_grows : ArcClosed s D ⊎ (# n D < # n (grow s D))
  closed_or_grows = elim (some? n (λ y. (y ∈ grow s D) × (y ∈ D → ⊥)) (λ y. both? (true? (grow s D y)) (not? (true? (D y))))) [
    | yes t ↦ inr (#-strict n D (grow s D) (λ i l h. grow_old i h) t.0 t.1 t.2.0 t.2.1)
    | no none ↦ inl (λ x y l h a. elim (true? (D y)) [ yes o ↦ o | no no' ↦ absurd (none (y, a.0, (grow_arc x y l h a, no'))) ])
  ]

  closed_grow : ArcClosed s D → ArcClosed s (grow s D)
  closed_grow c x y l h a = elim (grow_split x h) [
    | inl o ↦ grow_old y (c x y l o a)
    | inr f ↦ grow_old y (c x y l (c f.0 x f.1 f.2.0 f.2.1) a)
  ]

  -- a set of n columns has them all
  full : n ≤ # n D → (y : ℕ) → y < n → y ∈ D
  full h y l = elim (true? (D y)) [
    | yes o ↦ o
    | no no' ↦ absurd (omega (arith, #-strict n D (λ i. true) (λ i li m. refl) y l refl no', #-∁ n (λ i. true)))
  ]

-- what is reached from S along at most i arcs
unfoldable pub layer : {n N : ℕ} → State n N → Set → ℕ → Set
layer s S zero = S
layer s S (suc i) = grow s (layer s S i)

pub layer_start : {n N : ℕ} (s : State n N) (S : Set) → layer s S 0 ≡ S
unfolding layer
layer_start s S = refl

pub layer_next : {n N : ℕ} (s : State n N) (S : Set) (i : ℕ) → layer s S (suc i) ≡ grow s (layer s S i)
unfolding layer
layer_next s S i = refl

module _ {n N : ℕ} (s : State n N) (S : Set) where
  progress : (i : ℕ) → ArcClosed s (layer s S i) ⊎ (i ≤ # n (layer s S i))
  unfolding layer
  progress zero = inr (omega arith)
  progress (suc i) = elim (progress i) [
    | inl c ↦ inl (closed_grow s (layer s S i) c)
    | inr h ↦ elim (closed_or_grows s (layer s S i)) [ inl c ↦ inl (closed_grow s (layer s S i) c) | inr g ↦ inr (omega arith) ]
  ]

  -- after n rounds nothing is added
  pub stable : ArcClosed s (layer s S n)
  stable = elim (progress n) [ inl c ↦ c | inr h ↦ λ x y l o a. full s (layer s S n) h y a.0 ]

-- the unplaced columns, as sources
pub unplaced : {n N : ℕ} → State n N → Set
unplaced s x = not (placed_of s x)

pub source_in_layer : {n N : ℕ} (s : State n N) (S : Set) (i x : ℕ) → x ∈ S → x ∈ layer s S i
unfolding layer
source_in_layer s S zero x h = h
source_in_layer s S (suc i) x h = grow_old s (layer s S i) x (source_in_layer s S i x h)

pub unplaced_iff : {n N : ℕ} (s : State n N) (x : ℕ) → (x ∈ unplaced s) ↔ (Placed s x → ⊥)
unfolding unplaced
unplaced_iff s x = (λ h p. not_both (placed_of s x) h ((placed_iff s x).1 p), λ h. not_of (placed_of s x) (λ p. h ((placed_iff s x).0 p)))

pub layers_unplaced : {n N : ℕ} (s : State n N) (i : ℕ) → UnplacedIn s (layer s (unplaced s) i)
layers_unplaced s i x l h = source_in_layer s (unplaced s) i x ((unplaced_iff s x).1 h)

-- and all of a layer is reached, so the last layer is the least closed set
pub layers_reached : {n N : ℕ} (s : State n N) (i x : ℕ) → x < n → x ∈ layer s (unplaced s) i → Reached s x
unfolding layer
layers_reached s zero x l h = start l ((unplaced_iff s x).0 h)
layers_reached s (suc i) x l h = elim (grow_split s (layer s (unplaced s) i) x h) [
  | inl o ↦ layers_reached s i x l o
  | inr f ↦ along (layers_reached s i f.0 f.1 f.2.0) f.2.1
]

-- what a search from S meets is in S or placed
pub layer_placed : {n N : ℕ} (s : State n N) (S : Set) (i x : ℕ) → x ∈ layer s S i → (x ∈ S) ⊎ Placed s x
unfolding layer
layer_placed s S zero x e = inl e
layer_placed s S (suc i) x e = elim (grow_split s (layer s S i) x e) [
  | inl o ↦ layer_placed s S i x o
  | inr f ↦ inr (f.2.1.1.0, f.2.1.1.1, f.2.1.1.2.1)
]

-- other sources: what the search from S meets, the search from S' meets too, but for columns that no arc leaves
pub layer_into : {n N : ℕ} (s : State n N) (S S' : Set) (Dead : ℕ → Type 0) → ((x : ℕ) → x ∈ S → (x ∈ S') ⊎ Dead x) → ((x y : ℕ) → Dead x → Arc s x y → ⊥)
    → (i x : ℕ) → x ∈ layer s S i → (x ∈ layer s S' i) ⊎ Dead x
unfolding layer
layer_into s S S' Dead into dead zero x e = into x e
layer_into s S S' Dead into dead (suc i) x e = elim (grow_split s (layer s S i) x e) [
  | inl o ↦ elim (layer_into s S S' Dead into dead i x o) [ inl k ↦ inl (grow_old s (layer s S' i) x k) | inr d ↦ inr d ]
  | inr f ↦ elim (layer_into s S S' Dead into dead i f.0 f.2.0) [
    | inl k ↦ inl (grow_arc s (layer s S' i) f.0 x f.1 k f.2.1)
    | inr d ↦ absurd (dead f.0 x d f.2.1)
  ]
]
