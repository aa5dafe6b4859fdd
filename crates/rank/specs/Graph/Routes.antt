-- Routes from a column to one that touches a free row. When the last column of a route moves to its free row, the route becomes shorter.
-- Assumes nothing.
use Rattle.std.specs.Prelude.{ℕ, suc, ◌≤◌, ◌<◌, true, ◌≢◌, ◌⊎◌, ◌≡◌, refl}
use Rattle.std.proofs.Math.Logic.{inl, inr}
use Rattle.std.proofs.Common.{◌∙◌, ap}
use Rattle.std.proofs.Math.Decide.{ℕ_discrete}
use native.Mathlib.Omega.{arith}
use Rattle.counting.specs.Bools.{not_true}
use Rattle.rank.specs.Graph.States.{Arc, Moved, Placed, State, Terminal, terminal?}

-- a route from x to a terminal column, k arcs long, whose inner columns are not terminal
pub data Route {n N : ℕ} (s : State n N) : ℕ → ℕ → Type 0 where
  end : {x : ℕ} → Terminal s x → Route s x 0
  step : {x y k : ℕ} → (Terminal s x → ⊥) → Arc s x y → Route s y k → Route s x (suc k)

-- its last column
unfoldable pub last_column : {n N : ℕ} {s : State n N} {x k : ℕ} → Route s x k → ℕ
last_column (end {x} h) = x
last_column (step nt a p) = last_column p

-- and the free row that this touches
unfoldable pub free_row : {n N : ℕ} {s : State n N} {x k : ℕ} → Route s x k → ℕ
free_row (end h) = h.0
free_row (step nt a p) = free_row p

pub last_touches : {n N : ℕ} {s : State n N} {x k : ℕ} (p : Route s x k) → s.touch (free_row p) (last_column p) ≡ true
unfolding last_column free_row
last_touches (end h) = h.2.1
last_touches (step nt a p) = last_touches p

-- what a route says of its last column
pub last_free : {n N : ℕ} {s : State n N} {x k : ℕ} (p : Route s x k) → (free_row p < N) × (n ≤ s.owner (free_row p))
unfolding free_row
last_free (end h) = (h.1, h.2.0)
last_free (step nt a p) = last_free p

last_from : {n N : ℕ} {s : State n N} {x k : ℕ} (p : Route s x k) → x < n → Placed s x → (last_column p < n) × Placed s (last_column p)
unfolding last_column
last_from (end h) l o = (l, o)
last_from (step nt a p) l o = last_from p a.0 (a.1.0, a.1.1, a.1.2.1)

pub last_placed : {n N : ℕ} {s : State n N} {x k : ℕ} (p : Route s x (suc k)) → (last_column p < n) × Placed s (last_column p)
unfolding last_column
last_placed (step nt a p) = last_from p a.0 (a.1.0, a.1.1, a.1.2.1)

-- a route from x with fewer than k arcs
abbrev Shorter : {n N : ℕ} → State n N → ℕ → ℕ → Type 0
Shorter s x k = (k' : ℕ) × (k' < k) × Route s x k'

module _ {n N : ℕ} (s s' : State n N) (t q q' : ℕ) (m : Moved s s' t q q') where
  -- a nonterminal column keeps what it touches
  pub keeps : (x : ℕ) → (Terminal s x → ⊥) → (r : ℕ) → r < N → s'.touch r x ≡ s.touch r x
  keeps x nt = m.untouched x (not_true (s.touch q x) (λ e. nt (q, m.new_row, (m.new_free, e))))

  -- an arc to t has become a free row
  pub arc_to_moved : (x : ℕ) → (Terminal s x → ⊥) → Arc s x t → Terminal s' x
  arc_to_moved x nt a =
      let r : ℕ = a.1.0 in
      let e : r ≡ q' = s.owns_one r q' a.1.1 m.old_row (omega arith) (cc) in
      (q', m.old_row, (m.now_free, cc (keeps x nt q' m.old_row)))

  pub arc_kept : (x y : ℕ) → (Terminal s x → ⊥) → y ≢ t → Arc s x y → Arc s' x y
  arc_kept x y nt ne a =
      let r : ℕ = a.1.0 in
      let o : s.owner r ≡ y = a.1.2.1 in
      let at_new : r ≢ q = λ e. omega (arith, ap s.owner e) in
      let at_old : r ≢ q' = λ e. ne (cc) in
      (a.0, (r, a.1.1, (keeps x nt r a.1.1 ∙ a.1.2.0, m.others r a.1.1 at_new at_old ∙ o)))

  extend : (x y k : ℕ) → Arc s' x y → Shorter s' y k → Shorter s' x (suc k)
  extend x y k a p = elim (terminal? s' x) [ yes h ↦ (0, omega arith, end h) | no nt ↦ (suc p.0, omega arith, step nt a p.2) ]

  shorter : {x k : ℕ} (p : Route s x k) → last_column p ≡ t → (x ≡ t) ⊎ Shorter s' x k
  unfolding last_column
  shorter (end h) e = inl e
  shorter (step {x} {y} {k} nt a p) e = elim (ℕ_discrete y t) [
    | yes yt ↦ inr (0, omega arith, end (arc_to_moved x nt (rw yt at a)))
    | no ne ↦ elim (shorter p e) [ inl yt ↦ absurd (ne yt) | inr r ↦ inr (extend x y k (arc_kept x y nt ne a) r) ]
  ]

starts_inner : {n N : ℕ} {s : State n N} {x k : ℕ} → Route s x (suc k) → Terminal s x → ⊥
starts_inner (step nt a p) = nt

-- when the last column of a route moves to its free row, the first one has a shorter route
pub relocate : {n N : ℕ} (s s' : State n N) (q' : ℕ) {x k : ℕ} (p : Route s x (suc k)) → Moved s s' (last_column p) (free_row p) q'
    → (k' : ℕ) × (k' ≤ k) × Route s' x k'
relocate s s' q' {x} {k} p m = elim (shorter s s' (last_column p) (free_row p) q' m p refl) [
  | inl e ↦ absurd (starts_inner p (free_row p, m.new_row, (m.new_free, cc (last_touches p))))
  | inr r ↦ (r.0, omega arith, r.2)
]
