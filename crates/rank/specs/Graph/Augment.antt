-- Moves along a route, from its end, until its first column is terminal. Assumes nothing.
use Rattle.std.specs.Prelude.{ℕ, zero, suc, ◌≤◌, ◌<◌, true, ◌≡◌}
use Rattle.std.proofs.Common.{arith}
use Rattle.rank.specs.Graph.States.{Entered, Moved, Placed, SamePlaced, State, Terminal, moved_placed}
use Rattle.rank.specs.Graph.Routes.{Route, end, free_row, last_column, last_free, last_placed, last_touches, relocate, step}

-- what a tableau supplies: it keeps the states Good, moves a placed column to a free row, and lets an unplaced one enter
pub record Pivoting (n N : ℕ) (Good : State n N → Type 0) : Type 0 where
  pub move : (s : State n N) (t q q' : ℕ) → Good s → t < n → q < N → n ≤ s.owner q → s.touch q t ≡ true → q' < N → s.owner q' ≡ t
      → (s' : State n N) × Good s' × Moved s s' t q q'
  pub enter : (s : State n N) (x q : ℕ) → Good s → x < n → (Placed s x → ⊥) → q < N → n ≤ s.owner q → s.touch q x ≡ true
      → (s' : State n N) × Good s' × Entered s s' x q

module _ {n N : ℕ} (Good : State n N → Type 0) (ops : Pivoting n N Good) where
  -- relocations along a route from x until x is terminal
  pub drive : (fuel : ℕ) (s : State n N) (x k : ℕ) → k ≤ fuel → Good s → Route s x k → (s' : State n N) × Good s' × Terminal s' x × SamePlaced s s'
  drive zero s x k l g (end h) = (s, g, h, λ z lz. (λ w. w, λ w. w))
  drive zero s x k l g (step {k = j} nt a p) = absurd (omega arith)
  drive (suc fuel) s x k l g (end h) = (s, g, h, λ z lz. (λ w. w, λ w. w))
  drive (suc fuel) s x k l g (step {k = j} nt a p₀) =
      let p : Route s x (suc j) = step nt a p₀ in
      let t : ℕ = last_column p in
      let q : ℕ = free_row p in
      let o : (t < n) × Placed s t = last_placed p in
      let v : (s' : State n N) × Good s' × Moved s s' t q o.1.0
      = ops.move s t q o.1.0 g o.0 (last_free p).0 (last_free p).1 (last_touches p) o.1.1 o.1.2 in
      let r : (k' : ℕ) × (k' ≤ j) × Route v.0 x k' = relocate s v.0 o.1.0 p v.2 in
      let d : (s' : State n N) × Good s' × Terminal s' x × SamePlaced v.0 s' = drive fuel v.0 x r.0 (omega arith) v.1 r.2 in
      let same : SamePlaced s v.0 = moved_placed s v.0 t q o.1.0 v.2 in
      (d.0, d.1, d.2, λ z lz. (λ w. (d.3 z lz).0 ((same z lz).0 w), λ w. (same z lz).1 ((d.3 z lz).1 w)))
