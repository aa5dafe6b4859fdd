-- The search by layers finds a route to a terminal column, or its last layer is closed; and when the column found moves to its free row,
-- the next search finds one nearer. Assumes nothing.
use Prim.Native.Nat.{ℕ, zero, suc, ◌≤◌, ◌<◌}
use Rattle.std.specs.Prelude.{◌⊎◌}
use Rattle.std.proofs.Math.Logic.{inl, inr}
use Rattle.std.proofs.Math.Decide.{ℕ_discrete}
use Rattle.std.proofs.Common.{arith}
use Rattle.counting.specs.Bools.{true?}
use Rattle.counting.specs.Sets.{Set, Some, ◌∈◌}
use Rattle.counting.specs.Counts.{both?, some?}
use Rattle.rank.specs.Graph.States.{Moved, State, Terminal, terminal?}
use Rattle.rank.specs.Graph.Routes.{Route, arc_kept, arc_to_moved, end, step}
use Rattle.rank.specs.Graph.Closed.{Closed}
use Rattle.rank.specs.Graph.Layers.{grow_arc, grow_old, grow_split, layer, stable}

-- the least index at which a decidable statement holds, or none
least : (m : ℕ) (P : ℕ → Type 0) → ((i : ℕ) → Dec (P i))
    → Some m (λ i. P i × ((j : ℕ) → j < i → P j → ⊥)) ⊎ ((i : ℕ) → i < m → P i → ⊥)
least zero P d = inr (λ i l p. omega arith)
least (suc m) P d = elim (least m P d) [
  | inl t ↦ inl (t.0, omega arith, t.2)
  | inr none ↦ elim (d m) [
    | yes p ↦ inl (m, omega arith, (p, none))
    | no np ↦ inr (λ i l p. elim (ℕ_discrete i m) [ yes e ↦ np (rw e at p) | no ne ↦ none i (omega arith) p ])
  ]
]

-- a terminal column in layer i
abbrev pub Hit : {n N : ℕ} → State n N → Set → ℕ → Type 0
Hit {n} s S i = Some n (λ x. (x ∈ layer s S i) × Terminal s x)

-- a route from a source to a terminal column
pub record RouteFrom {n N : ℕ} (s : State n N) (S : Set) : Type 0 where
  pub source : ℕ
  pub length : ℕ
  pub below : source < n
  pub is_source : source ∈ S
  pub route : Route s source length

module _ {n N : ℕ} (s : State n N) (S : Set) where
  hit? : (i : ℕ) → Dec (Hit s S i)
  hit? i = some? n (λ x. (x ∈ layer s S i) × Terminal s x) (λ x. both? (true? (layer s S i x)) (terminal? s x))

  -- a route from a column of layer i is continued back to a source, where no earlier layer has a terminal column
  trace : (i y k : ℕ) → y < n → y ∈ layer s S i → ((j : ℕ) → j < i → Hit s S j → ⊥) → Route s y k → RouteFrom s S
  unfolding layer
  trace zero y k l h none p = record { source = y; length = k; below = l; is_source = h; route = p }
  trace (suc i) y k l h none p = elim (grow_split s (layer s S i) y h) [
    | inl o ↦ trace i y k l o (λ j lj. none j (omega arith)) p
    | inr f ↦ trace i f.0 (suc k) f.1 f.2.0 (λ j lj. none j (omega arith)) (step (λ t. none i (omega arith) (f.0, f.1, (f.2.0, t))) f.2.1 p)
  ]

  -- the search finds a route from a source, or its last layer is closed and has no terminal column
  pub found : RouteFrom s S ⊎ Closed s (layer s S n)
  found = elim (least (suc n) (Hit s S) hit?) [
    | inl t ↦ let w : Hit s S t.0 = t.2.0 in inl (trace t.0 w.0 0 w.1 w.2.0 t.2.1 (end w.2.1))
    | inr none ↦ inr (record { no_terminal = λ x l h t. none n (omega arith) (x, l, (h, t)); closed = stable s S })
  ]

-- a search that met its first terminal, x with the free row q, in layer i + 1 meets one in layer i after x has moved there: so a search that is
-- repeated after each move ends
pub fall : {n N : ℕ} (s s' : State n N) (S : Set) (i x q q' : ℕ) → x ∈ layer s S (suc i) → Terminal s x → ((k : ℕ) → k ≤ i → Hit s S k → ⊥) → Moved s s' x q q' → Hit s' S i
unfolding layer
fall {n} {N} s s' S i x q q' e t none m = elim (grow_split s (layer s S i) x e) [
  | inl o ↦ absurd (none i (omega arith) (x, m.column, (o, t)))
  | inr f ↦ (f.0, f.1, (kept i f.0 f.1 (omega arith) f.2.0, arc_to_moved s s' x q q' m f.0 (λ h. none i (omega arith) (f.0, f.1, (f.2.0, h))) f.2.1))
]
  where
    -- the layers up to i are still reached
    kept : (k z : ℕ) → z < n → k ≤ i → z ∈ layer s S k → z ∈ layer s' S k
    kept zero z l lk h = h
    kept (suc k) z l lk h = elim (grow_split s (layer s S k) z h) [
      | inl o ↦ grow_old s' (layer s' S k) z (kept k z l (omega arith) o)
      | inr f ↦ grow_arc s' (layer s' S k) f.0 z f.1 (kept k f.0 f.1 (omega arith) f.2.0)
          (arc_kept s s' x q q' m f.0 z (λ h. none k (omega arith) (f.0, f.1, (f.2.0, h))) (λ d. none (suc k) lk (z, l, (h, rw d t))) f.2.1)
    ]
